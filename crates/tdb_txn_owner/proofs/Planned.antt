-- What a Commit or a Prepare that may go on knows of its transaction.
use Rattle.std.proofs.Common.{◌≡◌, ℕ, ◌≤◌, Bool, true, false, nat_le, None, Some, refl, ap, ◌∙◌, arith}
use Rattle.std.specs.Prelude.{if◌then◌else◌}
use Rattle.std.proofs.lemmas.Bool.Decides.{nat_tests}
use Rattle.tdb_law.specs.Openers.{Txn}
use Rattle.tdb_law.specs.Rows.{commit_locks, commits_in, gate_shut, plan_look, plans_in}
use Rattle.tdb_txn_turns.specs.Committings.{commit_row, IsNumbered, MayGoOn}
use Rattle.tdb_txn_turns.specs.Laws.{HasChange, HasPlan}
use Rattle.tdb_txn_turns.specs.Prepares.{row_of, IsPlanning}
use Rattle.tdb_txn_turns.specs.declared.committing.Committing.{Committing}
use Rattle.tdb_txn_turns.specs.declared.committing.Committing.TheVariants.{Preparing, Finishing}
use Rattle.tdb_txn_turns.specs.declared.preparing.PrepareStage.{PrepareStage}
use Rattle.tdb_txn_turns.specs.declared.preparing.PrepareStage.TheVariants.{Unchanged, Begun, Records, Locked, Planned, Filled}
use Rattle.tdb_txn_owner.proofs.GroupEffects.{ShutsAt}

-- it has a change to plan
pub has_plan : (t : Txn) (s : PrepareStage) → IsPlanning s → HasPlan t s → plans_in t ≡ true
has_plan t Unchanged some plan = absurd some
has_plan t (Begun txn) some plan = plan
has_plan t (Records txn) some plan = plan
has_plan t (Locked txn) some plan = plan
has_plan t (Planned state) some plan = plan
has_plan t (Filled state) some plan = plan

pub has_change : (t : Txn) (c : Committing) → MayGoOn c → HasChange t c → plans_in t ≡ true
has_change t (Preparing p) some plan = has_plan t p.stage some plan
has_change t (Finishing s) some plan = plan

-- and its row has the locks of a commit
pub planning_row : (s : PrepareStage) (numbered : Bool) → IsPlanning s → row_of s numbered ≡ commit_locks numbered
planning_row Unchanged numbered some = absurd some
planning_row (Begun txn) numbered some = refl
planning_row (Records txn) numbered some = refl
planning_row (Locked txn) numbered some = refl
planning_row (Planned state) numbered some = refl
planning_row (Filled state) numbered some = refl

pub going_row : (c : Committing) (numbered : Bool) → MayGoOn c → IsNumbered c numbered → commit_row c numbered ≡ commit_locks numbered
going_row (Preparing p) numbered some same = planning_row p.stage p.numbered some ∙ ap commit_locks same
going_row (Finishing s) numbered some same = refl

module _ (t : Txn) where
  -- a Commit looks at the file at its second turn at the latest
  pub looks_early : plan_look (Some t) ≤ 1
  looks_early = go (plans_in t)
    where
      go : (b : Bool) → (if b then 1 else 0) ≤ 1
      go true = omega arith
      go false = omega arith

  -- of one that isn't prepared: a change to plan is one to commit, and the gate is shut by the eighth turn
  module _ (free : t.prepared ≡ None) where
    pub plans_commits : commits_in t ≡ plans_in t
    plans_commits = rw free refl

    pub open_early : (n : ℕ) → n ≤ 7 → gate_shut t.prepared n ≡ false
    open_early n within = rw free (early n within)
      where
        early : (n : ℕ) → n ≤ 7 → nat_le 8 n ≡ false
        early n within = grind (arith, nat_tests)

    pub shuts_at_seven : ShutsAt t 7
    shuts_at_seven = record { early = open_early; late = rw free refl; looked = let early = looks_early in omega (arith, early) }
