-- The turns of a Commit are those of a Prepare, and then those that end it.
use Rattle.std.proofs.Common.{◌≡◌, ℕ, ◌≤◌, ◌+◌, List, Bool, true, false, refl, ap, subst, sym, ◌∙◌, arith, inl, inr}
use Rattle.tdb_locks.specs.declared.piece.Piece.{Piece}
use Rattle.tdb_law.specs.Commands.Reply.{Done}
use Rattle.tdb_law.specs.Commands.Turn.{Step, Ends}
use Rattle.tdb_law.specs.Rows.{Lock, commit_locks}
use Rattle.tdb_law.specs.Held.{locked_next}
use Rattle.tdb_steps.proofs.Holdings.{next_turn}
use Rattle.tdb_txn_turns.specs.Committings.{commit_after, CommitLeads, unchanged, planned, IsOpened}
use Rattle.tdb_txn_turns.specs.Finishes.{finish_steps}
use Rattle.tdb_txn_turns.specs.Holding.{RowTurned}
use Rattle.tdb_txn_turns.specs.Prepares.{at_stage, IsPlanning, stage_steps, prepare_row, prepare_steps, row_of, PrepareLeads}
use Rattle.tdb_txn_turns.specs.declared.committing.Committing.TheVariants.{Preparing}
use Rattle.tdb_txn_turns.specs.declared.finishing.Finishing as Stages
use Rattle.tdb_txn_turns.specs.declared.finishing.Finishing.TheVariants.{Open, Applied, Settled, Shut}
use Rattle.tdb_txn_turns.specs.declared.preparing.Preparing as Prepares
use Rattle.tdb_txn_turns.specs.declared.preparing.PrepareStage.{PrepareStage}
use Rattle.tdb_txn_turns.specs.declared.preparing.PrepareStage.TheVariants.{Unchanged, Begun, Records, Locked, Planned, Filled}
use Rattle.tdb_txn_turns.specs.declared.preparing.PrepareTurn.{PrepareTurn}
use Rattle.tdb_txn_turns.specs.declared.preparing.PrepareTurn.TheVariants as To
use Rattle.tdb_txn_turns.proofs.CommitLocks.{fifth_wants}

module _ (row : List Lock) (kept : ℕ → ℕ) (owner n : ℕ) (ps old : List Piece) where
  -- the turn that opens the gate ends a Prepare, and is a step of a Commit
  pub row_opens : RowTurned true row kept owner n ps old (Ends Done) → ((b : ℕ) → locked_next row n b ≡ 0) → RowTurned false row kept owner n ps old Step
  row_opens R none = record {
    holds = λ b. let now = R.holds b in let more = next_turn row n b in let e = none b in omega (arith, now, more, e);
    others = R.others;
    rightly = R.rightly;
  }

-- the fifth turn of a Prepare wants nothing
fifth_bare : (s : PrepareStage) (numbered : Bool) (b : ℕ) → locked_next (row_of s numbered) 4 b ≡ 0
fifth_bare Unchanged numbered b = refl
fifth_bare (Begun txn) numbered b = fifth_wants numbered b
fifth_bare (Records txn) numbered b = fifth_wants numbered b
fifth_bare (Locked txn) numbered b = fifth_wants numbered b
fifth_bare (Planned state) numbered b = fifth_wants numbered b
fifth_bare (Filled state) numbered b = fifth_wants numbered b

pub opened_wants : (p : Prepares.Preparing) (turn : PrepareTurn) → PrepareLeads p turn → IsOpened turn → (b : ℕ) → locked_next (prepare_row p) (prepare_steps p) b ≡ 0
opened_wants p (To.Done state) leads is b = subst (λ n. locked_next (prepare_row p) n b ≡ 0) (sym leads) (fifth_bare p.stage p.numbered b)
opened_wants p (To.Step next) leads is b = absurd is
opened_wants p (To.Blocked owner byte again) leads is b = absurd is
opened_wants p To.Nothing leads is b = absurd is
opened_wants p (To.Full len need) leads is b = absurd is
opened_wants p To.Memory leads is b = absurd is

-- and the turns that end a commit want nothing
pub finishing_wants : (numbered : Bool) (s : Stages.Finishing) (b : ℕ) → locked_next (commit_locks numbered) (5 + finish_steps s) b ≡ 0
finishing_wants true (Open state) b = refl
finishing_wants true (Applied state) b = refl
finishing_wants true (Settled state) b = refl
finishing_wants true Shut b = refl
finishing_wants false (Open state) b = refl
finishing_wants false (Applied state) b = refl
finishing_wants false (Settled state) b = refl
finishing_wants false Shut b = refl

-- the turns of a Prepare lead as those of a Commit
pub late_planning : (s : PrepareStage) → 2 ≤ stage_steps s → IsPlanning s
late_planning Unchanged late = absurd (omega (arith, late))
late_planning (Begun txn) late = tt
late_planning (Records txn) late = tt
late_planning (Locked txn) late = tt
late_planning (Planned state) late = tt
late_planning (Filled state) late = tt

pub prepare_leads : (p : Prepares.Preparing) (turn : PrepareTurn) → PrepareLeads p turn → CommitLeads (Preparing p) (commit_after turn)
prepare_leads p (To.Step next) leads = (leads.0, leads.1, leads.2, λ numbered same. leads.3 ∙ same)
prepare_leads p (To.Blocked owner byte again) leads = (leads.0, leads.1, ap Preparing leads.2)
prepare_leads p To.Nothing leads = elim leads [
  | inl none ↦ unchanged p.numbered (ap (λ s. Preparing (at_stage p.numbered s)) none)
  | inr third ↦ planned third
]
prepare_leads p (To.Full len need) leads = (late_planning p.stage (omega (arith, leads)), leads)
prepare_leads p To.Memory leads = leads
prepare_leads p (To.Done state) leads = (late_planning p.stage (omega (arith, leads)), tt, omega (arith, leads), λ numbered same. tt)
