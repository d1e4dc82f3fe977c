-- The opener aside as one value, and what its calls make of it.
use Rattle.std.specs.Prelude.{◌≡◌, ℕ, List, Bool, true, false, Option, Some, is_none, IfSome}
use Rattle.std.specs.Option.{option_map}
use Rattle.tdb_disk.specs.History.{History}
use Rattle.tdb_disk.specs.Stop.{Leaves}
use Rattle.tdb_space.specs.Undoing.{Reopens}
use Rattle.tdb_locks.specs.declared.piece.Piece.{Piece}
use Rattle.tdb_law.specs.Commands.{Turn}
use Rattle.tdb_law.specs.Openers.{Task}
use Rattle.tdb_space.specs.Form.{Form}
use Rattle.tdb_txn.specs.Txn.{txn_depth}
use Rattle.tdb_txn_turns.specs.Committings.{CommitMayLeave}
use Rattle.tdb_txn_turns.specs.Finishes.{MayLeave}
use Rattle.tdb_txn_turns.specs.declared.committing.Committing.{Committing}
use Rattle.tdb_txn_turns.specs.declared.committing.Committing.TheVariants as Commits
use Rattle.tdb_txn_turns.specs.declared.finishing.Finishing.{Finishing}
use Rattle.tdb_txn_turns.specs.declared.finishing.Finishing.TheVariants.{Shut}
use Rattle.tdb_commands.specs.declared.command.Command.{Command}
use Rattle.tdb_law.specs.OneAside.Sides.{Past, Side}
use Rattle.tdb_commands.specs.declared.options.Options.{Options}
use Rattle.tdb_txn_owner.specs.declared.stage.PreparedTxn.{PreparedTxn}
use Rattle.tdb_txn_owner.specs.declared.stage.PreparedTxn.TheVariants.{Opened, Nothing}
use Rattle.tdb_txn_owner.specs.declared.stage.Stage.{Stage}
use Rattle.tdb_txn_owner.specs.declared.stage.Stage.TheVariants as At
use Rattle.tdb_txn_owner.specs.Stages.{Known}
use Rattle.tdb_txn_owner.specs.Turned.{StageTurned}

-- its number in its lock table, that table, and its stage
pub record HolderState : Type 0 where
  pub owner : ℕ
  pub locks : List Piece
  pub stage : Stage

-- its command is done
abbrev pub is_idle : Stage → Bool
is_idle (At.Open txn command) = is_none command
is_idle (At.Prepared left command) = is_none command
is_idle _ = false

-- how many transactions are open within the one that takes commands
abbrev pub stage_depth : Stage → ℕ
stage_depth (At.Open txn command) = txn_depth txn.own.txn
stage_depth _ = 0

-- the stage with a command that has had no turn
abbrev pub with_command : Stage → Command → Stage
with_command (At.Open txn command) c = At.Open txn (Some c)
with_command (At.Prepared left command) c = At.Prepared left (Some c)
with_command stage c = stage

-- It would leave an open gate if it died: its Prepare opened it, or its Commit did and hasn't shut it yet.
abbrev pub finish_gate : Finishing → Bool
finish_gate Shut = false
finish_gate _ = true

abbrev pub commit_gate : Committing → Bool
commit_gate (Commits.Preparing p) = false
commit_gate (Commits.Finishing s) = finish_gate s

abbrev pub prepared_gate : PreparedTxn → Bool
prepared_gate (Opened state) = true
prepared_gate (Nothing changed) = false

abbrev pub stage_gate : Stage → Bool
stage_gate (At.Committing c) = commit_gate c
stage_gate (At.Prepared left command) = prepared_gate left
stage_gate (At.Finishing s) = finish_gate s
stage_gate _ = false

-- What a stop in the next turn may leave: a Start leaves what there is, and each other stage what opens to the map of
-- the file before, but for a Commit from the turn on that shuts the gate.
abbrev pub StageMayLeave : Stage → History → Known → List ℕ → Type 0
StageMayLeave (At.Starting s) h k c = Leaves h c
StageMayLeave (At.Open txn command) h k c = Reopens k.file c
StageMayLeave (At.Committing commit) h k c = CommitMayLeave commit k.file k.image c
StageMayLeave (At.Preparing p) h k c = Reopens k.file c
StageMayLeave (At.Prepared left command) h k c = Reopens k.file c
StageMayLeave (At.Finishing s) h k c = MayLeave s k.file k.image c

abbrev pub left_stage : Option HolderState → Option Stage
left_stage holder = option_map (λ h. h.stage) holder

-- A turn of this opener: with some lock table, which is that of the opener that is left, it is one of the law's.
pub record HolderTurned (f : Form) (o : Options) (table : ℕ → ℕ → ℕ) (before : HolderState) (after : Option HolderState) (old new : History) (k : Known) (past : Past) (s : Side) (t : Task) (turn : Turn) : Type 0 where
  pub locks : List Piece
  pub left : IfSome after (λ h. (h.owner ≡ before.owner) × (h.locks ≡ locks))
  pub turned : StageTurned f o table before.owner locks before.stage (left_stage after) old new k past s t turn
