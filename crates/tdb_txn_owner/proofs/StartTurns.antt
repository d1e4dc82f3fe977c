-- The turns of a Start are turns of the opener aside.
use Rattle.std.proofs.Common.{◌≡◌, ◌+◌, ◌≤◌, max, Bool, true, false, nat_lt, ◌∷◌, [], Some, None, refl, sym, ap, ◌∙◌, subst, arith}
use Rattle.std.specs.Prelude.{◌&&◌, not, is_none, is_some}
use Rattle.std.proofs.lemmas.Bool.{ltb-false}
use Rattle.tdb_space.specs.Form.{Form}
use Rattle.tdb_law.specs.Refusals.{refusal, first_that_applies, held_count, is_prepared}
use Rattle.tdb_law.specs.Refusals.Refusal.{OnlyReads, IsPrepared, NeverNests, LocksStand}
use Rattle.tdb_law.specs.Commands.{Reply}
use Rattle.tdb_law.specs.Commands.GroupCommand.{Start}
use Rattle.tdb_law.specs.Commands.Command.{OnGroup}
use Rattle.tdb_law.specs.Commands.Turn.{Step, Ends}
use Rattle.tdb_law.specs.Openers.{Own, explicit_locks, nowhere, outside}
use Rattle.tdb_law.specs.Outcomes.{begun_txn}
use Rattle.tdb_law.specs.Held.{locked}
use Rattle.tdb_law.specs.Rows.{start_locks}
use Rattle.tdb_steps.specs.Holdings.{table_of}
use Rattle.tdb_txn_turns.specs.Starts.{start_steps}
use Rattle.tdb_txn_turns.specs.declared.starting.StartTurn.TheVariants.{Step as Steps, Blocked, Memory, Done}
use Rattle.tdb_txn_turns.proofs.Lawful.{start_holds, start_keeps, start_row}
use Rattle.tdb_txn_owner.specs.Ends.{StartIsOwn, task_of}
use Rattle.tdb_txn_owner.proofs.GroupCounts.{step_settles, step_counts, end_counts, starts}
use Rattle.tdb_txn_owner.proofs.GroupEffects.{start_goes_on, start_starves, start_answers}
use Rattle.tdb_txn_owner.proofs.Turning.{EffectIs, still_turned, group_still}

-- a Start is refused where there is a cursor
last_passes : (a b c d : Bool) → first_that_applies ((a, OnlyReads) ∷ (b, IsPrepared) ∷ (c, NeverNests) ∷ (d, LocksStand) ∷ []) ≡ None → d ≡ false
last_passes false false false false e = refl
last_passes false false false true e = absurd (cc e)
last_passes false false true d e = absurd (cc e)
last_passes false true c d e = absurd (cc e)
last_passes true b c d e = absurd (cc e)

uncursored : (f : Form) (x : Own) → refusal f (OnGroup Start) x ≡ None → x.txn ≡ None → is_some x.cursor ≡ false
unfolding refusal
uncursored f x granted out = go (is_some x.cursor) refl
  where
    none_held : held_count x ≤ 0
    none_held = ltb-false 0 (held_count x) (sym (ap (λ o. is_none o && nat_lt 0 (held_count x)) out) ∙ last_passes x.options.read_only (is_prepared x.txn) (not (outside x) && not x.options.nesting) (outside x && nat_lt 0 (held_count x)) granted)

    go : (b : Bool) → is_some x.cursor ≡ b → is_some x.cursor ≡ false
    go true some = absurd (let more : explicit_locks x + 1 ≤ 0 = rw some at none_held in omega (arith, more))
    go false none = none

pub start_is_own : StartIsOwn
start_is_own f g table m q len owner old new s z x start (Steps next) ps rs out granted bare unblocked leads R H B L M =
    still_turned f table m m q q old new s z x x (task_of (OnGroup Start) (start_steps start)) Step old.settled (old.numbers s.here) B L (group_still f Start x) (M refl)
    (start_row f g x len start (Steps next) granted out leads) (start_goes_on f x m out granted (start_steps start))
    (λ b. let e = H b in let held = R.holds b in let same = (start_holds f x nowhere s.view (start_steps start + 1) b granted out).0 in let none = bare b in omega (arith, e, held, same, none))
    (sym (step_settles f Start x (start_steps start) old.settled)) (sym (step_counts f x Start starts (start_steps start) q (old.numbers s.here))) refl
start_is_own f g table m q len owner old new s z x start (Blocked o byte) ps rs out granted bare unblocked leads R H B L M = absurd (unblocked tt)
start_is_own f g table m q len owner old new s z x start Memory ps rs out granted bare unblocked leads R H B L M =
    still_turned f table m m q q old new s z x x (task_of (OnGroup Start) (start_steps start)) (Ends Reply.Memory) old.settled (old.numbers s.here) B L (group_still f Start x) (λ shown. absurd (let none = uncursored f x granted out in let e : true ≡ false = sym shown ∙ none in cc e))
    (start_row f g x len start Memory granted out leads) (start_starves f x m out granted (start_steps start))
    (λ b. let e = H b in let held = R.holds b in let none = bare b in omega (arith, e, held, none)) refl refl refl
start_is_own f g table m q len owner old new s z x start (Done txn) ps rs out granted bare unblocked leads R H B L M =
    still_turned f table m m q q old new s z x (record x { txn = Some (begun_txn x m) }) (task_of (OnGroup Start) (start_steps start)) (Ends Reply.Done) true q B L (group_still f Start x) (λ shown. absurd (let none = uncursored f x granted out in let e : true ≡ false = sym shown ∙ none in cc e))
    (start_row f g x len start (Done txn) granted out leads) (subst (λ n. EffectIs f (OnGroup Start) n x m (Ends Reply.Done) (record x { txn = Some (begun_txn x m) }) m) (sym leads.0) (start_answers f x m out granted))
    (λ b. let e = H b in let held = subst (λ n. table_of rs owner b ≡ max (locked start_locks n b) 0) leads.0 (R.holds b) in let same = start_keeps f x nowhere m b in omega (arith, e, held, same))
    (rw (granted, out) refl) (sym (end_counts f x Start starts Reply.Done q (old.numbers s.here))) (rw (granted, out) refl)
