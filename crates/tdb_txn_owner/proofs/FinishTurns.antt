-- The turns of a Commit of a prepared transaction are turns of the opener aside.
use Rattle.std.proofs.Common.{◌≡◌, ℕ, ◌+◌, ◌≤◌, true, false, nat_le, Some, refl, sym, ap, ◌∙◌, subst, inl, arith}
use Rattle.std.specs.Prelude.{◌&&◌, ◌==◌, if◌then◌else◌}
use Rattle.std.proofs.Math.Bool.{and-false}
use Rattle.std.proofs.lemmas.Bool.{le-leb}
use Rattle.std.proofs.lemmas.Bool.Decides.{nat_tests}
use Rattle.tdb_law.specs.Commands.{Reply}
use Rattle.tdb_law.specs.Commands.GroupCommand.{Commit}
use Rattle.tdb_law.specs.Commands.Command.{OnGroup}
use Rattle.tdb_law.specs.Commands.Turn.{Step, Ends}
use Rattle.tdb_law.specs.Openers.{Txn, ended, nowhere}
use Rattle.tdb_law.specs.Ends.{IsRow, may_end}
use Rattle.tdb_law.specs.Rows.{commits_in, gate_shut, plan_look, plans_in, was_planned}
use Rattle.tdb_txn_turns.specs.Finishes.{finish_steps}
use Rattle.tdb_txn_turns.specs.declared.finishing.FinishTurn.TheVariants.{Step as Steps, Done}
use Rattle.tdb_txn_turns.proofs.Lawful.{finish_holds, finish_row_law, planned_before}
use Rattle.tdb_txn_owner.specs.Ends.{FinishIsOwn, NothingIsOwn, task_of}
use Rattle.tdb_txn_owner.proofs.GroupCounts.{step_settles}
use Rattle.tdb_txn_owner.proofs.GroupEffects.{commit_step, commit_counts, commit_done, done_counts, ShutsAt}
use Rattle.tdb_txn_owner.proofs.Ending.{ended_turned}
use Rattle.tdb_txn_owner.proofs.Planned.{looks_early}
use Rattle.tdb_txn_owner.proofs.Turning.{EffectIs, still_turned, group_still}

-- the third turn shuts the gate that a Prepare opened
module _ (t : Txn) (steps : ℕ) (is : t.prepared ≡ Some steps) where
  late : 4 ≤ steps → nat_le 4 steps ≡ true
  late opened = le-leb 4 steps opened

  early : (n : ℕ) → n ≤ 2 → gate_shut t.prepared n ≡ false
  early n within = rw (is, not_yet n within) (and-false (nat_le 4 steps))
    where
      not_yet : (n : ℕ) → n ≤ 2 → nat_le 3 n ≡ false
      not_yet n within = grind (arith, nat_tests)

  shuts_at_two : 4 ≤ steps → ShutsAt t 2
  shuts_at_two opened = record { early = early; late = rw (is, late opened) refl; looked = let first = looks_early t in omega (arith, first) }

pub finish_is_own : FinishIsOwn
finish_is_own f table m mm q qq owner steps old new s z x txn c (Steps next) ps rs O is opened commits leads R H F B L M =
    still_turned f table m mm q qq old new s z x x (task_of (OnGroup Commit) (finish_steps c)) Step old.settled (old.numbers s.here) B L (group_still f Commit x) (M refl)
    row (commit_step f x txn O 2 (finish_steps c) (old.numbers s.here) q qq m mm (shuts_at_two txn steps is opened) commits F within)
    (λ b. let e = H b in let held = R.holds b in let same = (finish_holds f x txn nowhere s.view steps (finish_steps c + 1) b O.has is).0 in omega (arith, e, held, same))
    (sym (step_settles f Commit x (finish_steps c) old.settled))
    (commit_counts f x txn O 2 (finish_steps c) (old.numbers s.here) q qq m mm (shuts_at_two txn steps is opened) commits F within) refl
  where
    row : IsRow f (OnGroup Commit) x (finish_steps c) Step
    row = finish_row_law f x txn c (Steps next) steps O.granted O.has is commits opened leads

    within : finish_steps c ≤ 2
    within =
        let has = O.has in let granted = O.granted in let bare = planned_before txn steps is in let long = late txn steps is opened in
        let less = rw (granted, has, bare, commits, is, long) at row in omega (arith, less)
finish_is_own f table m mm q qq owner steps old new s z x txn c Done ps rs O is opened commits leads R H F B L M =
    ended_turned f table m mm q qq old new s z x txn Commit (finish_steps c) Reply.Done O.has B L (finish_row_law f x txn c Done steps O.granted O.has is commits opened leads)
    (subst (λ k. EffectIs f (OnGroup Commit) (finish_steps c) x m (Ends Reply.Done) (ended x) k) (sym F.map) (commit_done f x txn O (finish_steps c) (old.numbers s.here) q m looked (F.done refl)))
    (λ b. H b ∙ R.holds b) (F.number ∙ done_counts f x txn O (finish_steps c) (old.numbers s.here) q m looked (F.done refl))
  where
    looked : commits_in txn ≡ true → plan_look (Some txn) ≤ finish_steps c
    looked change = let first = looks_early txn in let last = ap finish_steps leads in omega (arith, first, last)

pub nothing_is_own : NothingIsOwn
nothing_is_own f table m q steps old new s z x txn O is unopened in_file none B L =
    ended_turned f table m m q q old new s z x txn Commit 0 Reply.Done O.has B L (inl ends)
    (commit_done f x txn O 0 (old.numbers s.here) q m looked in_file) none (done_counts f x txn O 0 (old.numbers s.here) q m looked in_file)
  where
    bare : plans_in txn ≡ false
    bare = planned_before txn steps is

    looked : commits_in txn ≡ true → plan_look (Some txn) ≤ 0
    looked change = rw bare (omega arith)

    short : nat_le 4 steps ≡ false
    short = grind (arith, nat_tests)

    ends : may_end f (OnGroup Commit) x 0 Reply.Done ≡ true
    ends = let has = O.has in let granted = O.granted in rw (granted, has, bare, is, short) (ap (λ b. 0 == (if b then 3 else 0)) (and-false (nat_le txn.depth 1 && txn.changed && was_planned (Some steps))))
