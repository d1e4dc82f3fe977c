-- The Commit of a prepared transaction goes on in each state of a world up to its end.
use Rattle.std.proofs.Common.{◌≡◌, ◌≢◌, ℕ, ◌<◌, ◌≤◌, List, Bool, true, false, cond, ◌==◌, Option, Some, None, is_some, refl, sym, ◌∙◌, ap, subst, inl, inr, arith}
use Rattle.std.proofs.lemmas.Bool.{cases_eq, eqb-true, false≢true, le-ltb, lt-ltb}
use Rattle.std.specs.Prelude.{◌&&◌, ◌||◌, if◌then◌else◌}
use Rattle.tdb_disk.specs.History.{History}
use Rattle.tdb_space.specs.Form.{Form}
use Rattle.tdb_locks.specs.declared.piece.Piece.{Piece}
use Rattle.tdb_law.specs.Commands.{Reply, Turn}
use Rattle.tdb_law.specs.Commands.GroupCommand.{Commit}
use Rattle.tdb_law.specs.Commands.Command.{OnGroup}
use Rattle.tdb_law.specs.Commands.Reply.{Done}
use Rattle.tdb_law.specs.Commands.Turn.{Step, Ends}
use Rattle.tdb_law.specs.Effects.{Effect, Finds, IsFirstConflict, IsFree}
use Rattle.tdb_law.specs.Effects.Effect.{effect_waits, effect_goes_on, effect_changes, effect_answers, effect_shows, effect_starves, effect_is_full, effect_is_busy, effect_numbers, effect_finishes}
use Rattle.tdb_law.specs.Ends.{commit_ends, commit_last, ends_by, is_opened, not_full, last_by, plan_starves, starves, starves_by, IsRow}
use Rattle.tdb_law.specs.Counting.{number_seen}
use Rattle.tdb_law.specs.Openers.{seen, Map, Own, Task, Txn}
use Rattle.tdb_law.specs.Outcomes.{busies_by, counts_by, fills_by, moves_by, plans, told_by}
use Rattle.tdb_law.specs.Refusals.{refusal}
use Rattle.tdb_law.specs.Rows.{commits_in, plans_in}
use Rattle.tdb_law.specs.Turned.{want, Turned}
use Rattle.tdb_law.specs.World.{State}
use Rattle.tdb_law.proofs.Walking.{put_else, put_here}
use Rattle.tdb_txn_turns.proofs.Lawful.{finish_holds, planned_before}
use Rattle.tdb_law.specs.OneAside.Sides.{Past, Side}
use Rattle.tdb_txn_owner.specs.Holders.{HolderState}
use Rattle.tdb_txn_owner.specs.Stages.{IsSide, Known}
use Rattle.tdb_txn_owner.specs.declared.stage.Stage.{Stage}
use Rattle.tdb_txn_owner.specs.declared.stage.Stage.TheVariants as At
use Rattle.tdb_commands.specs.InLaw.{law_opener}
use Rattle.tdb_commands.specs.declared.options.Options.{Options}
use Rattle.tdb_openers.specs.Worlds.{state_in}
use Rattle.tdb_world.specs.Prepared.{prepared_turn, CommitsPrepared, GoesAsPrepared, PreparedCommitGoesOn, PreparedCommitIsShort}
use Rattle.tdb_world.specs.States.{state_with, SideIs}
use Rattle.tdb_world.specs.States.IsStateOf.{of_stale, of_whole}
use Rattle.tdb_world.specs.Steps.{TurnLeads}
use Rattle.tdb_world.specs.Whole.{form_at, options_at, Whole}
use Rattle.tdb_world.proofs.Stopping.{no_other}

-- a transaction that is prepared had a Prepare of so many steps
steps_before : (o : Option ℕ) → is_some o ≡ true → (steps : ℕ) × (o ≡ Some steps)
steps_before None e = absurd (false≢true e)
steps_before (Some steps) e = (steps, refl)

no_plan : (t : Txn) → is_some t.prepared ≡ true → plans_in t ≡ false
no_plan t e = let was = steps_before t.prepared e in planned_before t was.0 was.1

pub commit_short : PreparedCommitIsShort
commit_short t e = let bare = no_plan t e in rw bare (by_gate (commits_in t && is_opened t.prepared))
  where
    by_gate : (b : Bool) → cond b 3 0 ≤ 3
    by_gate true = omega arith
    by_gate false = omega arith

-- A Commit that isn't refused, of an opener with such a transaction.
module _ (f : Form) (x : Own) (t : Txn) (has : x.txn ≡ Some t) (prepared : is_some t.prepared ≡ true) (granted : refusal f (OnGroup Commit) x ≡ None) where
  bare : plans_in t ≡ false
  bare = no_plan t prepared

  -- it goes on before its last turn
  step_is : (n : ℕ) → IsRow f (OnGroup Commit) x n Step → Step ≡ prepared_turn t n
  step_is n row =
      let early : n < commit_last (Some t) = subst (λ o. n < commit_last o) has (subst (λ q. n < last_by q (OnGroup Commit) x) granted row) in
      rw (lt-ltb n (commit_last (Some t)) early) refl

  never_starves : starves f (OnGroup Commit) x ≡ true → ⊥
  never_starves e =
      let it : plan_starves (Some t) ≡ true = subst (λ o. plan_starves o ≡ true) has (subst (λ q. starves_by q (OnGroup Commit) x ≡ true) granted e) in
      false≢true (sym bare ∙ it)

  -- and ends with it
  end_is : (n : ℕ) (r : Reply) → IsRow f (OnGroup Commit) x n (Ends r) → Ends Done ≡ prepared_turn t n
  end_is n r (inl ends) =
      let by_row : commit_ends (Some t) n r ≡ true = subst (λ o. commit_ends o n r ≡ true) has (subst (λ q. ends_by q (OnGroup Commit) x n r ≡ true) granted ends) in
      let last = subst (λ b. (if b then (n == 2) || (not_full r && (n == 8)) else n == commit_last (Some t)) ≡ true) bare by_row in
      rw (le-ltb n (commit_last (Some t)) (let is = eqb-true n (commit_last (Some t)) last in omega (arith, is))) refl
  end_is n r (inr starved) = absurd (never_starves starved.1)

  module _ (n : ℕ) (free : Type 0) (conflict : ℕ → ℕ → Type 0) (finds : Reply → Type 0) (number : ℕ) (m : Map) (turn : Turn) (y : Own) (mm : Map)
      (clear : (o b : ℕ) → conflict o b → ⊥) (row : IsRow f (OnGroup Commit) x n turn) where
    turn_is : Effect f free conflict finds number (OnGroup Commit) n x m turn y mm → turn ≡ prepared_turn t n
    turn_is (effect_waits o b e first un map own) = absurd (clear o b first)
    turn_is (effect_goes_on e is un map own) = e ∙ step_is n (subst (IsRow f (OnGroup Commit) x n) e row)
    turn_is (effect_changes e is late un made told map own) = e ∙ step_is n (subst (IsRow f (OnGroup Commit) x n) e row)
    turn_is (effect_answers r e is still un ready unmade says map own) =
        let done : r ≡ Done = says ∙ ap (λ q. told_by q (OnGroup Commit) x m) granted in
        e ∙ (ap Ends done ∙ end_is n r (subst (IsRow f (OnGroup Commit) x n) e row))
    turn_is (effect_shows r e is moving found map own) = absurd (let none = subst (λ q. moves_by q (OnGroup Commit) x ≡ true) granted moving in false≢true none)
    turn_is (effect_starves e may un map own) = absurd (never_starves may)
    turn_is (effect_is_full len need e is may ready un told map own) =
        absurd (false≢true (sym bare ∙ subst (λ o. plans o ≡ true) has (subst (λ q. fills_by q (OnGroup Commit) x ≡ true) granted may)))
    turn_is (effect_is_busy o b e first may map own) = absurd (false≢true (subst (λ q. busies_by q (OnGroup Commit) ≡ true) granted may))
    turn_is (effect_numbers q e is may same map own) = absurd (false≢true (subst (λ q. counts_by q (OnGroup Commit) ≡ true) granted may))
    turn_is (effect_finishes e is made map own) = e ∙ end_is n Done (subst (IsRow f (OnGroup Commit) x n) e row)

-- A turn of such an opener in a state in which no opener holds a byte more than once for writing.
module _ (f : Form) (old new : State) (who : ℕ) (task : Task) (turn : Turn) (t : Txn) (n : ℕ) (C : CommitsPrepared old who t n) (T : Turned f old who task turn new)
    (few : (p b : ℕ) → p ≢ who → old.table p b ≤ 2) (granted : refusal f (OnGroup Commit) (old.own who) ≡ None) where
  its_task : task ≡ record { command = OnGroup Commit; steps = n }
  its_task = let both = sym T.mine ∙ C.task in cc both

  wants_nothing : (b : ℕ) → want f old who task b ≡ 0
  wants_nothing b =
      let was = steps_before t.prepared C.prepared in
      ap (λ u. want f old who u b) its_task ∙ (finish_holds f (old.own who) t _ (old.view who) was.0 n b C.has was.1).1

  nobody : (p b : ℕ) → IsFirstConflict old.table who (want f old who task) p b → ⊥
  nobody p b F = omega (arith, F.conflict, wants_nothing b, few p b F.other)

  abbrev EffectOf : Task → Type 0
  EffectOf u =
      Effect f (IsFree old.table who (want f old who task)) (IsFirstConflict old.table who (want f old who task)) (Finds f (old.table who) (want f old who task) (seen (old.own who) old.file))
      (number_seen (old.own who) old.number (old.image_number who)) u.command u.steps (old.own who) old.file turn (new.own who) new.file

  pub turned_so : turn ≡ prepared_turn t n
  turned_so =
      turn_is f (old.own who) t C.has C.prepared granted n (IsFree old.table who (want f old who task)) (IsFirstConflict old.table who (want f old who task))
      (Finds f (old.table who) (want f old who task) (seen (old.own who) old.file)) (number_seen (old.own who) old.number (old.image_number who)) old.file turn (new.own who) new.file nobody
      (subst (λ (u : Task). IsRow f u.command (old.own who) u.steps turn) its_task T.row) (subst EffectOf its_task T.effect)

-- At each stage at which its transaction is prepared the opener aside may commit it.
module _ (f : Form) (o : Options) (owner : ℕ) (ps : List Piece) (k : Known) (past : Past) (s : Side) (t : Txn) (has : s.own.txn ≡ Some t) (prepared : is_some t.prepared ≡ true) where
  unprepared : (u : Txn) → s.own.txn ≡ Some u → u.prepared ≡ None → ⊥
  unprepared u e none =
      let same : u ≡ t = let both = sym e ∙ has in cc both in
      false≢true (sym (ap is_some none) ∙ (ap (λ (v : Txn). is_some v.prepared) same ∙ prepared))

  granted_at : (stage : Stage) → IsSide f o owner ps stage k past s → refusal f (OnGroup Commit) s.own ≡ None
  granted_at (At.Starting st) S = absurd (let none : None ≡ Some t = ap (λ (x : Own). x.txn) S.own.bare ∙ has in cc none)
  granted_at (At.Open txn command) S = absurd (unprepared _ S.own.txn refl)
  granted_at (At.Committing c) S = absurd (unprepared S.own.txn S.own.has.outer.has S.own.has.prepared_is)
  granted_at (At.Preparing p) S = absurd (unprepared S.own.txn S.own.has.outer.has S.own.has.prepared_is)
  granted_at (At.Prepared left command) S = S.own.has.outer.granted
  granted_at (At.Finishing c) S = S.own.has.outer.granted

-- so it may in each state of a world
module _ (w : Whole) (h : History) (o : ℕ) (t : Txn) (prepared : is_some t.prepared ≡ true) where
  side_granted : (aside : Option HolderState) (img : List ℕ) (past : Past) (side : Option Side) → SideIs w aside h img past side → ((state_with w img past side).own o).txn ≡ Some t
      → refusal (form_at w) (OnGroup Commit) ((state_with w img past side).own o) ≡ None
  side_granted None img past None A has = absurd (no_other w h o t img has)
  side_granted None img past (Some s) A has = absurd A
  side_granted (Some holder) img past None A has = absurd A
  side_granted (Some holder) img past (Some s) A has = elim (cases_eq o s.here) [
    | inl is ↦
        let here = put_here (state_in w.openers img).own s.here s.own o is in
        subst (λ x. refusal (form_at w) (OnGroup Commit) x ≡ None) (sym here)
        (granted_at (form_at w) (options_at w) holder.owner holder.locks A.known past s t (sym (ap (λ (x : Own). x.txn) here) ∙ has) prepared holder.stage A.side)
    | inr other ↦ absurd (no_other w h o t img (sym (ap (λ (x : Own). x.txn) (put_else (state_in w.openers img).own s.here s.own o other)) ∙ has))
  ]

pub prepared_goes_on : PreparedCommitGoesOn
prepared_goes_on w h state after o task turn t n (of_whole S) C T =
    turned_so (form_at w) state after o task turn t n C T
    (λ p b ne. let is = ap (λ (z : State). z.table p b) S.is in omega (arith, is, S.sound.apart p o b ne))
    (subst (λ (z : State). refusal (form_at w) (OnGroup Commit) (z.own o) ≡ None) (sym S.is)
    (side_granted w h o t C.prepared w.aside S.image S.past S.side S.is_side (subst (λ (z : State). (z.own o).txn ≡ Some t) S.is C.has)))
prepared_goes_on w h state after o task turn t n (of_stale S) C T = absurd (no_other w h o t S.image (subst (λ (z : State). (z.own o).txn ≡ Some t) S.is C.has))

-- a turn that leads from each state of a world to one
pub prepared_leads : (old new : Whole) (h later : History) (who : ℕ) (turn : Turn) → TurnLeads old new h later who turn → GoesAsPrepared old h (law_opener who) turn
prepared_leads old new h later who turn leads state t n S C =
    let led = leads state S in prepared_goes_on old h state led.0 (law_opener who) led.1 turn t n S C led.3
