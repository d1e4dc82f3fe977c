-- The gate is undone in each state of the stale world.
use Rattle.std.proofs.Common.{◌≡◌, ◌⊎◌, false, IsTrue, sym, ◌∙◌, ap, subst}
use Rattle.tdb_disk.specs.History.{seen}
use Rattle.tdb_disk.specs.Stop.{LeavesOnly, Quiet}
use Rattle.tdb_space.specs.Accepted.{Shut}
use Rattle.tdb_space.specs.Form.{form_in, form_of, Form}
use Rattle.tdb_space.specs.Opening.{restored, Mild, Opens}
use Rattle.tdb_space.specs.Undoing.{Reopens}
use Rattle.tdb_law.specs.World.{State}
use Rattle.tdb_world.specs.States.{IsStateOf}
use Rattle.tdb_world.specs.Steps.{UndoLeads}
use Rattle.tdb_world.specs.Stops.{IsSafe, OpensToState}
use Rattle.tdb_world.specs.Whole.{form_at, Whole, WorldFits}
use Rattle.tdb_world.proofs.GateUndone.{undone_fits, undone_leads}
use Rattle.tdb_world.proofs.SafeUndo.{stale_safe, stale_stops}
use Rattle.tdb_world.proofs.all_openers.AllOpeners.undo_stale.Given
use Rattle.tdb_world.proofs.all_openers.AllOpeners.undo_stale.Goals as goal
use Rattle.tdb_world.proofs.all_openers.AllOpeners.undo_stale.Goals.{After-undo}

pub returns-clause-fits : goal.returns-clause-fits
returns-clause-fits g c =
    let w = c.args.self.now in
    let h = g.D.Disk.history c.args.d.now in
    let later = g.D.Disk.history c.undo.new.d in
    subst (λ z. WorldFits z (seen later) (g.D.Disk.size c.undo.new.d)) (sym (ap (λ (z : Whole). record z { stale = false }) c.self.view_is))
    (undone_fits w (seen h) (g.D.Disk.size c.args.d.now) c.requires.fits c.requires.stale (seen later) (g.D.Disk.size c.undo.new.d) c.in_ok-undone.ensures.shorter)

pub returns-clause-undoes : goal.returns-clause-undoes
returns-clause-undoes g c told =
    let w = c.args.self.now in
    let h = g.D.Disk.history c.args.d.now in
    let later = g.D.Disk.history c.undo.new.d in
    let same : form_in c.header.result.now ≡ form_at w = ap form_in c.header.ensures ∙ ap form_at c.self.view_is in
    subst (λ z. UndoLeads w z h later) (sym (ap (λ (z : Whole). record z { stale = false }) c.self.view_is))
    (undone_leads w (seen h) (g.D.Disk.size c.args.d.now) c.requires.fits c.requires.stale h later
    (subst (λ (f : Form). form_of (seen h) ≡ f → Opens (seen h) → seen later ≡ restored f (seen h)) same (c.in_ok-undone.ensures.restored told)))

-- what a stop leaves of the undo, whatever it answered
module _ (g : Given.Over) (c : After-undo g) where
  form_is : form_in c.header.result.now ≡ form_at c.args.self.now
  form_is = ap form_in c.header.ensures ∙ ap form_at c.self.view_is

  stops_are : IsTrue g.D.Disk.tells → (state : State) → IsStateOf c.args.self.now (g.D.Disk.history c.args.d.now) state → IsSafe (form_at c.args.self.now) (g.D.Disk.history c.args.d.now)
      → LeavesOnly (g.D.Disk.history c.args.d.now) (g.D.Disk.history c.undo.new.d) (OpensToState (form_at c.args.self.now) state)
  stops_are told state S safe =
      let h = g.D.Disk.history c.args.d.now in
      let later = g.D.Disk.history c.undo.new.d in
      stale_stops c.args.self.now c.requires.stale h later state
      (subst
      (λ (f : Form). IsSafe f h → form_of (seen h) ≡ f → Opens (seen h) → Shut (form_of (seen h)) (seen h) ⊎ Mild (seen h) → LeavesOnly h later (Reopens (restored f (seen h)))) form_is (c.undo.ensures.stops told)) S safe

pub returns-in_err-undone-clause-stops : goal.returns-in_err-undone-clause-stops
returns-in_err-undone-clause-stops g c = stops_are g (goal.at.returns-in_err-undone-clause-stops g c).After-undo

pub returns-clause-stops : goal.returns-clause-stops
returns-clause-stops g c = stops_are g (goal.at.returns-clause-stops g c).After-undo

pub returns-clause-safe : goal.returns-clause-safe
returns-clause-safe g c told state S =
    let h = g.D.Disk.history c.args.d.now in
    let later = g.D.Disk.history c.undo.new.d in
    let is = form_is g (goal.at.returns-clause-safe g c).After-undo in
    stale_safe c.args.self.now c.requires.stale h later state
    (λ form opens. (
      subst (λ (f : Form). form_of (seen h) ≡ f → Opens (seen h) → Quiet later) is (c.in_ok-undone.ensures.quiet told) form opens,
      subst (λ (f : Form). form_of (seen h) ≡ f → Opens (seen h) → seen later ≡ restored f (seen h)) is (c.in_ok-undone.ensures.restored told) form opens,
    )) S
