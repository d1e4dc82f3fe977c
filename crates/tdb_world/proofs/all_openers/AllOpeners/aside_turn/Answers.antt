-- The one aside takes its turn.
use Rattle.std.proofs.Common.{◌≡◌, Some, IsTrue, IfOk, sym, ◌∙◌, ap, subst}
use Rattle.std.proofs.lemmas.Result.{IfOk-weaker, on_err_weaker, on_ok_weaker}
use Rattle.tdb_disk.specs.Stop.{LeavesOnly}
use Rattle.tdb_locks.specs.declared.turn.Turn.TheVariants as Turn
use Rattle.tdb_commands.specs.InLaw.{law_opener, law_turn}
use Rattle.tdb_txn_owner.specs.Holders.{HolderState}
use Rattle.tdb_txn_owner.proofs.Opened.{weaker_with}
use Rattle.tdb_world.specs.contracts.all_openers.AllOpeners.{the_view}
use Rattle.tdb_world.specs.Room.{FullAside}
use Rattle.tdb_world.specs.Room.EndsFullRightly.{full_aside}
use Rattle.tdb_world.specs.Stopped.{StoppedAside}
use Rattle.tdb_world.specs.Stopped.StoppedTurn.{stopped_aside}
use Rattle.tdb_world.specs.Stops.{IsSafe, TurnMayLeave}
use Rattle.tdb_world.specs.Syncs.{PlansAside}
use Rattle.tdb_world.specs.Whole.{form_at, Whole}
use Rattle.tdb_world.specs.States.{IsStateOf}
use Rattle.tdb_world.specs.Steps.{with_aside, HasCommand, TurnLeads}
use Rattle.tdb_world.proofs.Settled.{put_back, same_holder}
use Rattle.tdb_world.proofs.Synced.{aside_syncs}
use Rattle.tdb_world.proofs.all_openers.AllOpeners.aside_turn.Given
use Rattle.tdb_world.proofs.all_openers.AllOpeners.aside_turn.Goals as goal

module _ (g : Given.Over) (c : goal.After-step_aside g) where
  aside : c.args.self.now.aside ≡ Some c.in-Some.holder
  aside = sym (ap (λ (w : Whole). w.aside) c.self.view_is) ∙ sym c.take.ensures.value ∙ c.in-Some.is

  before : with_aside (the_view c.self.inside) c.in-Some.holder ≡ c.args.self.now
  before = ap (λ (w : Whole). with_aside w c.in-Some.holder) c.self.view_is ∙ put_back c.args.self.now c.in-Some.holder aside

  owner : c.in-Some.holder.owner ≡ c.args.who
  owner = let h = c.requires.aside in ap (λ (z : HolderState). z.owner) (same_holder c.args.self.now.aside c.in-Some.holder h.0 aside h.1) ∙ sym h.2

pub returns-clause-turned : goal.returns-clause-turned
returns-clause-turned g c =
    subst (λ o. IfOk c.step_aside.result (λ turn. IsTrue g.D.Disk.tells → TurnLeads c.args.self.now c.step_aside.new.self (g.D.Disk.history c.args.d.now) (g.D.Disk.history c.step_aside.new.d) o (law_turn turn))) (owner g c)
    (subst (λ w. IfOk c.step_aside.result (λ turn. IsTrue g.D.Disk.tells → TurnLeads w c.step_aside.new.self (g.D.Disk.history c.args.d.now) (g.D.Disk.history c.step_aside.new.d) c.in-Some.holder.owner (law_turn turn)))
    (before g c) c.step_aside.ensures.turned)

pub returns-clause-busy : goal.returns-clause-busy
returns-clause-busy g c = subst (λ o. IfOk c.step_aside.result (λ turn. turn ≡ Turn.Step → HasCommand c.step_aside.new.self o)) (owner g c) c.step_aside.ensures.busy

pub returns-clause-cause : goal.returns-clause-cause
returns-clause-cause g c = λ tells state S. c.step_aside.ensures.cause tells state (subst (λ w. IsStateOf w (g.D.Disk.history c.args.d.now) state) (sym (before g c)) S)

pub returns-clause-stops : goal.returns-clause-stops
returns-clause-stops g c = λ told state S safe.
    let h = g.D.Disk.history c.args.d.now in
    let form = ap (λ (w : Whole). form_at w) c.self.view_is in
    subst (λ o. LeavesOnly h (g.D.Disk.history c.step_aside.new.d) (TurnMayLeave (form_at c.args.self.now) state (law_opener o))) (owner g c)
    (subst (λ f. LeavesOnly h (g.D.Disk.history c.step_aside.new.d) (TurnMayLeave f state (law_opener c.in-Some.holder.owner))) form
    (c.step_aside.ensures.stops told state (subst (λ w. IsStateOf w h state) (sym (before g c)) S) (subst (λ f. IsSafe f h) (sym form) safe)))

pub returns-clause-safe : goal.returns-clause-safe
returns-clause-safe g c =
    let h = g.D.Disk.history c.args.d.now in
    let form = ap (λ (w : Whole). form_at w) c.self.view_is in
    on_ok_weaker c.step_aside.result
    (λ keeps told state S safe. subst (λ f. IsSafe f (g.D.Disk.history c.step_aside.new.d)) form
    (keeps told state (subst (λ w. IsStateOf w h state) (sym (before g c)) S) (subst (λ f. IsSafe f h) (sym form) safe)))
    c.step_aside.ensures.safe

pub returns-clause-syncs : goal.returns-clause-syncs
returns-clause-syncs g c =
    let h = g.D.Disk.history c.args.d.now in
    let was = g.D.Disk.syncs c.args.d.now in
    let now = g.D.Disk.syncs c.step_aside.new.d in
    weaker_with c.step_aside.result _ _ _
    (λ turn S plans. aside_syncs g.D.Disk.tells c.args.self.now h c.args.who turn was now c.in-Some.holder (aside g c) (sym (owner g c)) S
    (λ told. subst (λ w. PlansAside w c.in-Some.holder h turn was now) (before g c) (plans told)))
    c.step_aside.ensures.syncs c.step_aside.ensures.plans

pub returns-clause-full : goal.returns-clause-full
returns-clause-full g c =
    let h = g.D.Disk.history c.args.d.now in
    let holder = c.in-Some.holder in
    IfOk-weaker c.step_aside.result _ _
    (λ turn full told state S. full_aside holder (aside g c) (sym (owner g c)) (subst (λ w. FullAside w holder h (law_turn turn)) (before g c) (full told)))
    c.step_aside.ensures.full

pub returns-clause-stopped : goal.returns-clause-stopped
returns-clause-stopped g c =
    let h = g.D.Disk.history c.args.d.now in
    let later = g.D.Disk.history c.step_aside.new.d in
    let holder = c.in-Some.holder in
    on_err_weaker c.step_aside.result
    (λ stopped told state S. stopped_aside holder (aside g c) (sym (owner g c)) (subst (λ w. StoppedAside w holder h later) (before g c) (stopped told)))
    c.step_aside.ensures.stopped
