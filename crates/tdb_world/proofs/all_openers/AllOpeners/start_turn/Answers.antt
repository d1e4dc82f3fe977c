-- The Start is barred by the one aside, or its opener goes aside.
use Rattle.std.proofs.Common.{◌≡◌, ◌≤◌, ℕ, ◌+◌, [], false, slice_set, Option, Some, None, is_some, refl, sym, ◌∙◌, ap, subst, arith}
use Rattle.std.proofs.Common.{Ok, Err}
use Rattle.std.specs.Prelude.{Result, IfOk, IsTrue}
use Rattle.std.proofs.lemmas.Result.{IfOk-weaker, on_err_weaker, on_ok_weaker}
use Rattle.tdb_disk.specs.History.{seen, History}
use Rattle.tdb_disk.specs.Stop.{LeavesOnly}
use Rattle.tdb_law.specs.World.{State}
use Rattle.tdb_locks.specs.declared.turn.Turn.TheVariants.{Step}
use Rattle.tdb_txn_turns.specs.declared.starting.Starting.TheVariants as Starts
use Rattle.tdb_txn_owner.specs.Holders.{HolderState}
use Rattle.tdb_txn_owner.specs.declared.stage.Stage.TheVariants as At
use Rattle.tdb_commands.specs.InLaw.{law_opener, law_turn}
use Rattle.tdb_world.specs.States.{IsStateOf}
use Rattle.tdb_world.specs.Steps.{HasCommand, TurnLeads, with_aside}
use Rattle.tdb_world.specs.Room.EndsFullRightly.{full_never}
use Rattle.tdb_world.specs.Room.StoresNothing.{has_start}
use Rattle.tdb_world.specs.Stopped.StoppedTurn.{stopped_at_start}
use Rattle.tdb_world.specs.Stops.{IsSafe, TurnMayLeave}
use Rattle.tdb_world.specs.Whole.{form_at, Whole, WorldFits}
use Rattle.tdb_txn_turns.proofs.Room.{never}
use Rattle.tdb_world.proofs.Fullness.{start_full}
use Rattle.tdb_world.proofs.OwnStart.{aside_fits, goes_aside}
use Rattle.tdb_world.proofs.Stopped.{start_stopped}
use Rattle.tdb_world.proofs.Stopping.{still_leaves}
use Rattle.tdb_world.proofs.all_openers.AllOpeners.start_turn.Given
use Rattle.tdb_world.proofs.all_openers.AllOpeners.start_turn.Goals as goal

if_ok : {V E : Type 0} (r : Result V E) (Q R : V → Type 0) → ((x : V) → Q x → R x) → IfOk r Q → IfOk r R
if_ok (Ok x) Q R from q = from x q
if_ok (Err e) Q R from q = tt

none_aside : (a : Option HolderState) → is_some a ≡ false → a ≡ None
none_aside None e = λ i. None
none_aside (Some h) e = absurd (cc e)

-- the opener with this number aside, at the beginning of its Start
abbrev starter : ℕ → HolderState
starter who = record { owner = who; locks = []; stage = At.Starting Starts.Begun }

abbrev goes : ℕ → Whole → Whole
goes who w = with_aside (record w { starts = slice_set w.starts (law_opener who) false }) (starter who)

-- it is the holder that is made
aside_is : (who : ℕ) (w now : Whole) (h : HolderState) → now ≡ record w { starts = slice_set w.starts (law_opener who) false } → h ≡ starter who → with_aside now h ≡ goes who w
aside_is who w now h dropped made = λ i. with_aside (dropped i) (made i)

number_is : (who : ℕ) → 1 ≤ who → who ≡ law_opener who + 1
number_is who named = omega (arith, named)

pub returns-then-is_some-clause-fits : goal.returns-then-is_some-clause-fits
returns-then-is_some-clause-fits g c = c.barred_start.ensures.fits (seen (g.D.Disk.history c.args.d.now)) (g.D.Disk.size c.args.d.now) c.requires.fits

pub returns-then-is_some-clause-turned : goal.returns-then-is_some-clause-turned
returns-then-is_some-clause-turned g c told = c.barred_start.ensures.turned (seen (g.D.Disk.history c.args.d.now)) (g.D.Disk.size c.args.d.now) (g.D.Disk.history c.args.d.now) c.requires.fits

pub step_aside-requires-clause-fits : goal.step_aside-requires-clause-fits
step_aside-requires-clause-fits g c =
    let w = c.args.self.now in
    let img = seen (g.D.Disk.history c.args.d.now) in
    let size = g.D.Disk.size c.args.d.now in
    subst (λ z. WorldFits z img size) (sym (aside_is c.args.who w c.drop_start.new.self c.start-holder.result c.drop_start.ensures c.start-holder.ensures))
    (aside_fits w (law_opener c.args.who) img size c.requires.fits c.requires.fresh c.requires.begun c.args.who (number_is c.args.who c.requires.named))

pub returns-clause-turned : goal.returns-clause-turned
returns-clause-turned g c =
    let w = c.args.self.now in
    let who = c.args.who in
    let h = g.D.Disk.history c.args.d.now in
    let later = g.D.Disk.history c.step_aside.new.d in
    let new = c.step_aside.new.self in
    let is = aside_is who w c.drop_start.new.self c.start-holder.result c.drop_start.ensures c.start-holder.ensures in
    let owner = ap (λ (z : HolderState). z.owner) c.start-holder.ensures in
    let nobody = ap (λ (z : Whole). z.aside) (sym c.self.view_is) ∙ none_aside c.self.inside.aside (sym c.is_some.ensures ∙ c.if-is_some.false) in
    if_ok c.step_aside.result _ (λ turn. IsTrue g.D.Disk.tells → TurnLeads w new h later who (law_turn turn))
    (λ turn T told state S.
    (subst (λ o. TurnLeads (goes who w) new h later o (law_turn turn)) owner (subst (λ z. TurnLeads z new h later c.start-holder.result.owner (law_turn turn)) is (T told)))
    state (goes_aside w (law_opener who) (seen h) (g.D.Disk.size c.args.d.now) c.requires.fits c.requires.begun c.requires.fresh nobody who (number_is who c.requires.named) h state S))
    c.step_aside.ensures.turned

pub returns-clause-busy : goal.returns-clause-busy
returns-clause-busy g c = subst (λ o. IfOk c.step_aside.result (λ turn. turn ≡ Step → HasCommand c.step_aside.new.self o)) (ap (λ (z : HolderState). z.owner) c.start-holder.ensures) c.step_aside.ensures.busy

module _ (g : Given.Over) (c : goal.After-step_aside g) where
  abbrev w : Whole
  w = c.args.self.now

  abbrev h : History
  h = g.D.Disk.history c.args.d.now

  -- a state of the world is one in which the opener is aside
  aside_state : (state : State) → IsStateOf w h state → IsStateOf (with_aside c.drop_start.new.self c.start-holder.result) h state
  aside_state state S =
      let is = aside_is c.args.who w c.drop_start.new.self c.start-holder.result c.drop_start.ensures c.start-holder.ensures in
      let nobody = ap (λ (z : Whole). z.aside) (sym c.self.view_is) ∙ none_aside c.self.inside.aside (sym c.is_some.ensures ∙ c.if-is_some.false) in
      subst (λ z. IsStateOf z h state) (sym is)
      (goes_aside w (law_opener c.args.who) (seen h) (g.D.Disk.size c.args.d.now) c.requires.fits c.requires.begun c.requires.fresh nobody c.args.who (number_is c.args.who c.requires.named) h state S)

  form : form_at c.drop_start.new.self ≡ form_at w
  form = ap (λ (z : Whole). form_at z) c.drop_start.ensures

pub returns-clause-cause : goal.returns-clause-cause
returns-clause-cause g c told state S = c.step_aside.ensures.cause told state (aside_state g c state S)

pub returns-then-is_some-clause-stops : goal.returns-then-is_some-clause-stops
returns-then-is_some-clause-stops g c = λ told state S safe.
    let h = g.D.Disk.history c.args.d.now in still_leaves c.args.self.now h h state (law_opener c.args.who) refl S safe

pub returns-clause-stops : goal.returns-clause-stops
returns-clause-stops g c = λ told state S safe.
    let later = g.D.Disk.history c.step_aside.new.d in
    subst (λ o. LeavesOnly (h g c) later (TurnMayLeave (form_at (w g c)) state (law_opener o))) (ap (λ (z : HolderState). z.owner) c.start-holder.ensures)
    (subst (λ f. LeavesOnly (h g c) later (TurnMayLeave f state (law_opener c.start-holder.result.owner))) (form g c)
    (c.step_aside.ensures.stops told state (aside_state g c state S) (subst (λ f. IsSafe f (h g c)) (sym (form g c)) safe)))

pub returns-clause-safe : goal.returns-clause-safe
returns-clause-safe g c =
    on_ok_weaker c.step_aside.result
    (λ keeps told state S safe. subst (λ f. IsSafe f (g.D.Disk.history c.step_aside.new.d)) (form g c)
    (keeps told state (aside_state g c state S) (subst (λ f. IsSafe f (h g c)) (sym (form g c)) safe)))
    c.step_aside.ensures.safe

pub returns-then-is_some-clause-full : goal.returns-then-is_some-clause-full
returns-then-is_some-clause-full g c = λ told state S.
    full_never (has_start c.requires.among c.requires.begun) (never (law_turn c.barred_start.result) c.barred_start.ensures.full)

pub returns-clause-full : goal.returns-clause-full
returns-clause-full g c =
    let h = g.D.Disk.history c.args.d.now in
    let holder = c.start-holder.result in
    IfOk-weaker c.step_aside.result _ _
    (λ turn full told state S. full_never (has_start c.requires.among c.requires.begun)
    (start_full (with_aside c.drop_start.new.self holder) h (law_turn turn) holder Starts.Begun (ap (λ (z : HolderState). z.stage) c.start-holder.ensures) refl (full told) state (aside_state g c state S)))
    c.step_aside.ensures.full

pub returns-then-is_some-clause-waits : goal.returns-then-is_some-clause-waits
returns-then-is_some-clause-waits g c begun among h there some = c.barred_start.ensures.waits h there some

any_ok : {V E : Type 0} (r : Result V E) (P : V → Type 0) → ((v : V) → P v) → IfOk r P
any_ok (Ok v) P p = p v
any_ok (Err e) P p = tt

pub returns-clause-waits : goal.returns-clause-waits
returns-clause-waits g c =
    let nobody = ap (λ (z : Whole). z.aside) (sym c.self.view_is) ∙ none_aside c.self.inside.aside (sym c.is_some.ensures ∙ c.if-is_some.false) in
    any_ok c.step_aside.result _ (λ turn begun among h there some. absurd (cc (sym nobody ∙ there)))

pub returns-clause-stopped : goal.returns-clause-stopped
returns-clause-stopped g c =
    let holder = c.start-holder.result in
    on_err_weaker c.step_aside.result
    (λ stopped told state S. stopped_at_start c.requires.among c.requires.begun
    (start_stopped (with_aside c.drop_start.new.self holder) (g.D.Disk.history c.args.d.now) (g.D.Disk.history c.step_aside.new.d) holder Starts.Begun (ap (λ (z : HolderState). z.stage) c.start-holder.ensures) refl
    state (aside_state g c state S) (stopped told)))
    c.step_aside.ensures.stopped
