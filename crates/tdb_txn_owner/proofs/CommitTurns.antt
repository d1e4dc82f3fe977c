-- The turns of a Commit of a transaction that isn't prepared are turns of the opener aside.
use Rattle.std.proofs.Common.{◌≡◌, ℕ, ◌+◌, ◌≤◌, max, true, false, Some, None, refl, sym, ap, ◌∙◌, subst, arith}
use Rattle.std.specs.Prelude.{◌&&◌}
use Rattle.std.proofs.Math.Bool.{and-false}
use Rattle.tdb_law.specs.Commands.{Reply}
use Rattle.tdb_law.specs.Commands.GroupCommand.{Commit}
use Rattle.tdb_law.specs.Commands.Command.{OnGroup}
use Rattle.tdb_law.specs.Commands.Turn.{Step, Ends}
use Rattle.tdb_law.specs.Openers.{Txn, ended, nowhere}
use Rattle.tdb_law.specs.Ends.{IsRow}
use Rattle.tdb_law.specs.Held.{locked}
use Rattle.tdb_law.specs.Rows.{commits_in, gate_shut, plan_look, plans_in}
use Rattle.tdb_steps.specs.Holdings.{table_of}
use Rattle.tdb_txn_turns.specs.Committings.{commit_steps, CanEnd, unchanged, planned, shut}
use Rattle.tdb_txn_turns.specs.Laws.{HasChange, commits}
use Rattle.tdb_txn_turns.specs.Prepares.{start_held}
use Rattle.tdb_txn_turns.specs.declared.committing.Committing.{Committing}
use Rattle.tdb_txn_turns.specs.declared.committing.CommitTurn.TheVariants.{Step as Steps, Blocked, Full, Memory, Done}
use Rattle.tdb_txn_turns.proofs.Lawful.{commit_holds, commit_row_law}
use Rattle.tdb_txn_owner.specs.Ends.{CommitIsOwn, task_of}
use Rattle.tdb_txn_owner.proofs.GroupCounts.{step_settles}
use Rattle.tdb_txn_owner.proofs.GroupEffects.{commit_step, commit_counts, commit_starves, commit_full, commit_done, done_counts}
use Rattle.tdb_txn_owner.proofs.Ending.{ended_turned}
use Rattle.tdb_txn_owner.proofs.Planned.{has_change, going_row, looks_early, plans_commits, open_early, shuts_at_seven}
use Rattle.tdb_txn_owner.proofs.Turning.{EffectIs, still_turned, group_still}

-- where it is done it has looked at the file, if it has a change
done_late : (t : Txn) (c : Committing) → t.prepared ≡ None → HasChange t c → CanEnd c → commits_in t ≡ true → plan_look (Some t) ≤ commit_steps c
done_late t c free plan (unchanged numbered is) change =
    let none : plans_in t ≡ false = subst (HasChange t) is plan in
    let same = plans_commits t free in
    absurd (let e : true ≡ false = sym change ∙ same ∙ none in cc)
done_late t c free plan (planned third) change = let early = looks_early t in omega (arith, early, third)
done_late t c free plan (shut is) change = let early = looks_early t in let last = ap commit_steps is in omega (arith, early, last)

-- the gate stands open up to its eighth turn
unshut : (t : Txn) → t.prepared ≡ None → (n : ℕ) → n ≤ 7 → (commits_in t && gate_shut t.prepared n) ≡ false
unshut t free n within = ap (λ b. commits_in t && b) (open_early t free n within) ∙ and-false (commits_in t)

pub commit_is_own : CommitIsOwn
commit_is_own f table m mm q qq owner old new s z x txn c (Steps next) ps rs O free unblocked plan numbered leads R H F B L M =
    still_turned f table m mm q qq old new s z x x (task_of (OnGroup Commit) (commit_steps c)) Step old.settled (old.numbers s.here) B L (group_still f Commit x) (M refl)
    row (commit_step f x txn O 7 (commit_steps c) (old.numbers s.here) q qq m mm (shuts_at_seven txn free) change F within)
    (λ b. let e = H b in let held = subst (λ l. table_of rs owner b ≡ max (locked l (commit_steps c + 1) b) (start_held b)) (going_row c txn.numbered leads.0 numbered) (R.holds b) in
    let same = (commit_holds f x txn nowhere s.view Commit (commit_steps c + 1) b commits O.granted O.has plans).0 in omega (arith, e, held, same))
    (sym (step_settles f Commit x (commit_steps c) old.settled))
    (commit_counts f x txn O 7 (commit_steps c) (old.numbers s.here) q qq m mm (shuts_at_seven txn free) change F within) refl
  where
    plans : plans_in txn ≡ true
    plans = has_change txn c leads.0 plan

    change : commits_in txn ≡ true
    change = plans_commits txn free ∙ plans

    row : IsRow f (OnGroup Commit) x (commit_steps c) Step
    row = commit_row_law f x txn c (Steps next) O.granted O.has free plan leads

    within : commit_steps c ≤ 7
    within = let has = O.has in let granted = O.granted in let less = rw (granted, has, plans) at row in omega (arith, less)
commit_is_own f table m mm q qq owner old new s z x txn c (Blocked o byte again) ps rs O free unblocked plan numbered leads R H F B L M = absurd (unblocked tt)
commit_is_own f table m mm q qq owner old new s z x txn c (Full len need) ps rs O free unblocked plan numbered leads R H F B L M =
    ended_turned f table m mm q qq old new s z x txn Commit (commit_steps c) (Reply.Full len need) O.has B L (commit_row_law f x txn c (Full len need) O.granted O.has free plan leads)
    (subst (λ k. EffectIs f (OnGroup Commit) (commit_steps c) x m (Ends (Reply.Full len need)) (ended x) k) (sym F.map)
    (commit_full f x txn O (commit_steps c) len need m plans (let early = looks_early txn in let third = leads.1 in omega (arith, early, third)) (unshut txn free (commit_steps c) (let third = leads.1 in omega (arith, third)))))
    (λ b. H b ∙ R.holds b) F.number
  where
    plans : plans_in txn ≡ true
    plans = has_change txn c leads.0 plan
commit_is_own f table m mm q qq owner old new s z x txn c Memory ps rs O free unblocked plan numbered leads R H F B L M =
    ended_turned f table m mm q qq old new s z x txn Commit (commit_steps c) Reply.Memory O.has B L (commit_row_law f x txn c Memory O.granted O.has free plan leads)
    (subst (λ k. EffectIs f (OnGroup Commit) (commit_steps c) x m (Ends Reply.Memory) (ended x) k) (sym F.map)
    (commit_starves f x txn O (commit_steps c) m (has_change txn c leads.0 plan) (unshut txn free (commit_steps c) (let early = leads.1 in omega (arith, early)))))
    (λ b. H b ∙ R.holds b) F.number
commit_is_own f table m mm q qq owner old new s z x txn c Done ps rs O free unblocked plan numbered leads R H F B L M =
    ended_turned f table m mm q qq old new s z x txn Commit (commit_steps c) Reply.Done O.has B L (commit_row_law f x txn c Done O.granted O.has free plan leads)
    (subst (λ k. EffectIs f (OnGroup Commit) (commit_steps c) x m (Ends Reply.Done) (ended x) k) (sym F.map)
    (commit_done f x txn O (commit_steps c) (old.numbers s.here) q m (done_late txn c free plan leads) (F.done refl)))
    (λ b. H b ∙ R.holds b) (F.number ∙ done_counts f x txn O (commit_steps c) (old.numbers s.here) q m (done_late txn c free plan leads) (F.done refl))
