-- What the next turn of the opener aside wants of the lock bytes, and how it holds all records, by its stage.
use Rattle.std.specs.Prelude.{◌≡◌, ℕ, ◌&&◌, not, nat_lt, Bool, true, false, Option, None, Some, IfSome, if◌then◌else◌}
use Rattle.tdb_locks.specs.HeldLocks.{total_of}
use Rattle.tdb_locks.specs.declared.kind.Kind.{Kind}
use Rattle.tdb_locks.specs.declared.kind.Kind.TheVariants.{Read, Write}
use Rattle.tdb_locks.specs.declared.turn.Turn.{Turn}
use Rattle.tdb_law.specs.Held.{locked_next}
use Rattle.tdb_law.specs.Rows.{commit_locks, lock, lock_all}
use Rattle.tdb_steps.specs.LockRows.{strength_of}
use Rattle.tdb_txn.specs.Txn.{txn_depth, txn_doomed}
use Rattle.tdb_txn_turns.specs.Holding.{want_of}
use Rattle.tdb_txn_turns.specs.declared.committing.Committing.{Committing}
use Rattle.tdb_txn_turns.specs.declared.committing.Committing.TheVariants.{Preparing, Finishing}
use Rattle.tdb_txn_turns.specs.declared.preparing.PrepareStage.{PrepareStage}
use Rattle.tdb_txn_turns.specs.declared.preparing.PrepareStage.TheVariants as Plans
use Rattle.tdb_txn_turns.specs.declared.starting.Starting.{Starting}
use Rattle.tdb_txn_turns.specs.declared.starting.Starting.TheVariants.{Begun, Claimed, Reading}
use Rattle.tdb_commands.specs.declared.command.Command.{Command}
use Rattle.tdb_commands.specs.declared.command.Command.TheVariants as Given
use Rattle.tdb_txn_owner.specs.declared.open_txn.OpenTxn.{OpenTxn}
use Rattle.tdb_txn_owner.specs.declared.stage.PreparedTxn.{PreparedTxn}
use Rattle.tdb_txn_owner.specs.declared.stage.PreparedTxn.TheVariants.{Opened, Nothing}
use Rattle.tdb_txn_owner.specs.declared.stage.Stage.{Stage}
use Rattle.tdb_txn_owner.specs.declared.stage.Stage.TheVariants as At
use Rattle.tdb_txn_owner.specs.Holders.{is_idle}
use Rattle.tdb_txn_owner.specs.Stages.{stage_records}
use Rattle.tdb_txn_owner.specs.declared.wanting.Wants.{Wants}
use Rattle.tdb_txn_owner.specs.declared.wanting.Wants.TheVariants as Wants

-- what it wants of each byte
abbrev pub wanted_by : Wants → ℕ → ℕ
wanted_by Wants.Nothing b = 0
wanted_by Wants.Transaction b = want_of (lock 0 8 9 2) b
wanted_by (Wants.Records kind) b = want_of (lock_all 0 (strength_of kind)) b
wanted_by (Wants.Opening numbered) b = locked_next (commit_locks numbered) 1 b

-- the turns of a Start
abbrev pub start_wants : Starting → Wants
start_wants Begun = Wants.Transaction
start_wants Claimed = Wants.Records Read
start_wants Reading = Wants.Nothing

-- those of a Prepare, and of a Commit up to its open gate
abbrev pub plan_wants : Bool → PrepareStage → Wants
plan_wants numbered (Plans.Begun txn) = Wants.Records Write
plan_wants numbered (Plans.Records txn) = Wants.Opening numbered
plan_wants numbered _ = Wants.Nothing

abbrev pub commit_wants : Committing → Wants
commit_wants (Preparing p) = plan_wants p.numbered p.stage
commit_wants (Finishing s) = Wants.Nothing

-- The first turn of a Commit or a Prepare takes all records where the transaction is the outer one, and was changed,
-- and it isn't refused.
abbrev pub plans_open : OpenTxn → Bool
plans_open t = not (txn_doomed t.own.txn) && (not (nat_lt 0 (txn_depth t.own.txn)) && (not (nat_lt 0 (total_of t.held)) && t.own.changed))

abbrev pub open_wants : OpenTxn → Wants
open_wants t = if plans_open t then Wants.Records Write else Wants.Nothing

abbrev pub may_plan : Command → Bool
may_plan Given.Commit = true
may_plan Given.Prepare = true
may_plan _ = false

abbrev pub given_wants : OpenTxn → Option Command → Wants
given_wants t None = Wants.Nothing
given_wants t (Some c) = if may_plan c then open_wants t else Wants.Nothing

abbrev pub stage_wants : Stage → Wants
stage_wants (At.Starting s) = start_wants s
stage_wants (At.Open txn command) = given_wants txn command
stage_wants (At.Committing c) = commit_wants c
stage_wants (At.Preparing p) = plan_wants p.numbered p.stage
stage_wants (At.Prepared left command) = Wants.Nothing
stage_wants (At.Finishing s) = Wants.Nothing

-- so much of a byte beyond that of the sequence number it holds then
abbrev pub records_at : Option Kind → ℕ → ℕ
records_at None b = 0
records_at (Some kind) b = want_of (lock_all 0 (strength_of kind)) b

-- A turn that isn't blocked takes the records that it wants; any other leaves them as they were.
abbrev pub records_with : Wants → Option Kind → Option Kind
records_with (Wants.Records kind) held = Some kind
records_with _ held = held

abbrev pub records_by : Turn → Wants → Option Kind → Option Kind
records_by (Turn.Blocked owner byte) wants held = held
records_by _ wants held = records_with wants held

abbrev pub records_after : Stage → Turn → Option Kind
records_after stage turn = records_by turn (stage_wants stage) (stage_records stage)

abbrev pub RecordsGo : Stage → Turn → Option Stage → Type 0
RecordsGo stage turn after = IfSome after (λ later. stage_records later ≡ records_after stage turn)

-- after a step the opener is aside still, and its command isn't done
abbrev pub StepGoesOn : Turn → Option Stage → Type 0
StepGoesOn Turn.Step None = ⊥
StepGoesOn Turn.Step (Some stage) = is_idle stage ≡ false
StepGoesOn _ after = Unit {0}
