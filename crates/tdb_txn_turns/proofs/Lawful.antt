-- The turns of this crate are those of a world's rows.
use Rattle.std.proofs.Common.{◌≡◌, ℕ, ◌≤◌, [], Bool, true, false, nat_le, Option, None, Some, refl, subst, inl, inr, arith}
use Rattle.std.specs.Prelude.{◌&&◌, is_none}
use Rattle.std.proofs.lemmas.Bool.{and_parts, eq-eqb, false≢true, le-leb}
use Rattle.tdb_space.specs.Form.{Form}
use Rattle.tdb_law.specs.Commands.GroupCommand.{Commit}
use Rattle.tdb_law.specs.Commands.{Reply}
use Rattle.tdb_law.specs.Commands.Command.{OnGroup}
use Rattle.tdb_law.specs.Ends.{is_opened, may_end}
use Rattle.tdb_law.specs.Held.{held, wanted}
use Rattle.tdb_law.specs.Openers.{Own, Txn}
use Rattle.tdb_law.specs.Refusals.{Refusal, refusal}
use Rattle.tdb_law.specs.Rows.{commits_in, locks, plans_in}
use Rattle.tdb_txn_turns.specs.Committings.{commit_steps, CanEnd, unchanged, planned, shut, MayGoOn}
use Rattle.tdb_txn_turns.specs.Finishes.{finish_steps}
use Rattle.tdb_txn_turns.specs.Laws.{StartHolds, StartKeeps, CommitHolds, commits, prepares, PrepareKeeps, FinishHolds, StartRow, HasPlan, HasChange, PrepareRow, CommitRow, FinishRow}
use Rattle.tdb_txn_turns.specs.Prepares.{stage_steps, IsPlanning}
use Rattle.tdb_txn_turns.specs.declared.committing.Committing.{Committing}
use Rattle.tdb_txn_turns.specs.declared.committing.Committing.TheVariants.{Preparing, Finishing}
use Rattle.tdb_txn_turns.specs.declared.committing.CommitTurn.TheVariants as Commit
use Rattle.tdb_txn_turns.specs.declared.finishing.Finishing as Stages
use Rattle.tdb_txn_turns.specs.declared.finishing.Finishing.TheVariants.{Open, Applied, Settled, Shut}
use Rattle.tdb_txn_turns.specs.declared.finishing.FinishTurn.TheVariants as Finish
use Rattle.tdb_txn_turns.specs.declared.preparing.PrepareStage.{PrepareStage}
use Rattle.tdb_txn_turns.specs.declared.preparing.PrepareStage.TheVariants.{Unchanged, Begun, Records, Locked, Planned, Filled}
use Rattle.tdb_txn_turns.specs.declared.preparing.PrepareTurn.TheVariants as To
use Rattle.tdb_txn_turns.specs.Starts.{start_steps}
use Rattle.tdb_txn_turns.proofs.CommitTurns.{late_planning}
use Rattle.tdb_txn_turns.specs.declared.starting.Starting.{Starting}
use Rattle.tdb_txn_turns.specs.declared.starting.Starting.TheVariants as Starts
use Rattle.tdb_txn_turns.specs.declared.starting.StartTurn.TheVariants.{Step, Blocked, Memory, Done}

pub start_holds : StartHolds
unfolding held wanted
start_holds f x a v n b none out = (rw (none, out) refl, rw (none, out) (omega arith))

pub start_keeps : StartKeeps
start_keeps f x a m b = omega arith

-- who has the change to plan isn't prepared
is_unprepared : (o : Option ℕ) → is_none o ≡ true → o ≡ None
is_unprepared None e = refl
is_unprepared (Some steps) e = absurd (false≢true e)

pub unprepared : (t : Txn) → plans_in t ≡ true → t.prepared ≡ None
unprepared t plans = is_unprepared t.prepared (and_parts (nat_le t.depth 1 && t.changed) (is_none t.prepared) plans).1

pub commit_holds : CommitHolds
unfolding held wanted
commit_holds f x t a v g n b commits none has plans = let free = unprepared t plans in (rw (none, has, plans, free) (omega arith), rw (none, has, plans) (omega arith))
commit_holds f x t a v g n b prepares none has plans = let free = unprepared t plans in (rw (none, has, plans, free) (omega arith), rw (none, has, plans) (omega arith))

pub prepare_keeps : PrepareKeeps
prepare_keeps f x t a n b = omega arith

-- a transaction that is prepared has nothing to plan
pub planned_before : (t : Txn) (steps : ℕ) → t.prepared ≡ Some steps → plans_in t ≡ false
planned_before t steps is = rw is (go (nat_le t.depth 1) t.changed)
  where
    go : (p q : Bool) → (p && q && false) ≡ false
    go true true = refl
    go true false = refl
    go false true = refl
    go false false = refl

-- so its Commit locks nothing
no_locks : (f : Form) (x : Own) (t : Txn) (purging : Bool) (steps : ℕ) → x.txn ≡ Some t → t.prepared ≡ Some steps → locks f (OnGroup Commit) x purging ≡ []
no_locks f x t purging steps has is = go (refusal f (OnGroup Commit) x) refl
  where
    go : (o : Option Refusal) → refusal f (OnGroup Commit) x ≡ o → locks f (OnGroup Commit) x purging ≡ []
    go None e = let bare = planned_before t steps is in rw (e, has, bare) refl
    go (Some q) e = rw e refl

pub finish_holds : FinishHolds
unfolding held wanted
finish_holds f x t a v steps n b has is =
    let bare = no_locks f x t a.purging steps has is in
    (rw (bare, has) (omega arith), rw bare (omega arith))

start_early : (s : Starting) → start_steps s ≤ 2
start_early Starts.Begun = omega arith
start_early Starts.Claimed = omega arith
start_early Starts.Reading = omega arith

pub start_row : StartRow
start_row f g x len s (Step next) none out leads = rw (none, out) (let early = start_early next in omega (arith, leads, early))
start_row f g x len s (Blocked owner byte) none out leads = refl
start_row f g x len s Memory none out leads = inr (refl, rw (none, out) refl, omega (arith, leads))
start_row f g x len s (Done txn) none out leads = inl (rw (none, out) (eq-eqb (start_steps s) 2 leads.0))

-- a machine that may go on has a change to plan
has_plan : (t : Txn) (s : PrepareStage) → IsPlanning s → HasPlan t s → plans_in t ≡ true
has_plan t Unchanged some plan = absurd some
has_plan t (Begun txn) some plan = plan
has_plan t (Records txn) some plan = plan
has_plan t (Locked txn) some plan = plan
has_plan t (Planned state) some plan = plan
has_plan t (Filled state) some plan = plan

few_steps : (s : PrepareStage) → stage_steps s ≤ 4
few_steps Unchanged = omega arith
few_steps (Begun txn) = omega arith
few_steps (Records txn) = omega arith
few_steps (Locked txn) = omega arith
few_steps (Planned state) = omega arith
few_steps (Filled state) = omega arith

pub prepare_row_law : PrepareRow
prepare_row_law f x t p (To.Step next) none has plan leads =
    let plans = has_plan t p.stage leads.0 plan in
    rw (none, has, plans) (let few = few_steps next.stage in omega (arith, leads.2, few))
prepare_row_law f x t p (To.Blocked owner byte again) none has plan leads = refl
prepare_row_law f x t p To.Nothing none has plan leads = inl (elim leads [
  | inl idle ↦ let bare : plans_in t ≡ false = subst (HasPlan t) idle plan in rw (none, has, bare, idle) refl
  | inr third ↦ let plans = has_plan t p.stage (late_planning p.stage (omega (arith, third))) plan in rw (none, has, plans, third) refl
])
prepare_row_law f x t p (To.Full len need) none has plan leads =
    inl (let plans = has_plan t p.stage (late_planning p.stage (omega (arith, leads))) plan in rw (none, has, plans, leads) refl)
prepare_row_law f x t p To.Memory none has plan leads =
    inr (refl, (let plans = has_plan t p.stage leads.0 plan in rw (none, has, plans) refl), omega (arith, leads.1))
prepare_row_law f x t p (To.Done state) none has plan leads =
    inl (let plans = has_plan t p.stage (late_planning p.stage (omega (arith, leads))) plan in rw (none, has, plans, leads) refl)

-- the same of a Commit
has_change : (t : Txn) (c : Committing) → MayGoOn c → HasChange t c → plans_in t ≡ true
has_change t (Preparing p) some plan = has_plan t p.stage some plan
has_change t (Finishing s) some plan = plan

finish_few : (s : Stages.Finishing) → finish_steps s ≤ 3
finish_few (Open state) = omega arith
finish_few (Applied state) = omega arith
finish_few (Settled state) = omega arith
finish_few Shut = omega arith

at_most_eight : (c : Committing) → commit_steps c ≤ 8
at_most_eight (Preparing p) = let few = few_steps p.stage in omega (arith, few)
at_most_eight (Finishing s) = let few = finish_few s in omega (arith, few)

unopened : (t : Txn) → t.prepared ≡ None → (commits_in t && is_opened t.prepared) ≡ false
unopened t free = rw free (go (nat_le t.depth 1) t.changed)
  where
    go : (p q : Bool) → (p && q && true && false) ≡ false
    go true true = refl
    go true false = refl
    go false true = refl
    go false false = refl

third_changes : (t : Txn) (c : Committing) → commit_steps c ≡ 2 → HasChange t c → plans_in t ≡ true
third_changes t (Preparing p) third plan = has_plan t p.stage (late_planning p.stage (omega (arith, third))) plan
third_changes t (Finishing s) third plan = plan

commit_ends_law : (f : Form) (x : Own) (t : Txn) (c : Committing) → refusal f (OnGroup Commit) x ≡ None → x.txn ≡ Some t → t.prepared ≡ None → HasChange t c → CanEnd c
    → may_end f (OnGroup Commit) x (commit_steps c) Reply.Done ≡ true
commit_ends_law f x t c none has free plan (unchanged numbered is) =
    let bare : plans_in t ≡ false = subst (HasChange t) is plan in
    let no = unopened t free in
    rw (none, has, bare, no, is) refl
commit_ends_law f x t c none has free plan (planned third) = let plans = third_changes t c third plan in rw (none, has, plans, third) refl
commit_ends_law f x t c none has free plan (shut is) = let plans : plans_in t ≡ true = subst (HasChange t) is plan in rw (none, has, plans, is) refl

pub commit_row_law : CommitRow
commit_row_law f x t c (Commit.Step next) none has free plan leads =
    let plans = has_change t c leads.0 plan in
    rw (none, has, plans) (let few = at_most_eight next in omega (arith, leads.2, few))
commit_row_law f x t c (Commit.Blocked owner byte again) none has free plan leads = refl
commit_row_law f x t c (Commit.Full len need) none has free plan leads = inl (let plans = has_change t c leads.0 plan in rw (none, has, plans, leads.1) refl)
commit_row_law f x t c Commit.Memory none has free plan leads = inr (refl, (let plans = has_change t c leads.0 plan in rw (none, has, plans) refl), omega (arith, leads.1))
commit_row_law f x t c Commit.Done none has free plan leads = inl (commit_ends_law f x t c none has free plan leads)

-- and of one after a Prepare
pub finish_row_law : FinishRow
finish_row_law f x t s (Finish.Step next) steps none has is change opened leads =
    let bare = planned_before t steps is in
    let late : nat_le 4 steps ≡ true = le-leb 4 steps opened in
    rw (none, has, bare, change, is, late) (let few = finish_few next in omega (arith, leads, few))
finish_row_law f x t s Finish.Done steps none has is change opened leads =
    let bare = planned_before t steps is in
    let late : nat_le 4 steps ≡ true = le-leb 4 steps opened in
    inl (rw (none, has, bare, change, is, late, leads) refl)
