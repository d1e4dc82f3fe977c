-- What the turns of a Start, a Commit or a Prepare lead to.
use Rattle.std.specs.Prelude.{◌≡◌, ℕ, List, Bool, true, false, None, Some}
use Rattle.tdb_disk.specs.History.{History}
use Rattle.tdb_space.specs.Form.{Form}
use Rattle.tdb_locks.specs.declared.piece.Piece.{Piece}
use Rattle.tdb_locks.specs.declared.turn.Reply.{Reply}
use Rattle.tdb_locks.specs.declared.turn.Turn.{Turn}
use Rattle.tdb_txn_turns.specs.declared.committing.CommitTurn.{CommitTurn}
use Rattle.tdb_txn_turns.specs.declared.committing.CommitTurn.TheVariants as Commits
use Rattle.tdb_txn_turns.specs.declared.preparing.PrepareStage.{PrepareStage}
use Rattle.tdb_txn_turns.specs.declared.preparing.PrepareStage.TheVariants.{Unchanged}
use Rattle.tdb_txn_turns.specs.declared.preparing.PrepareTurn.{PrepareTurn}
use Rattle.tdb_txn_turns.specs.declared.preparing.PrepareTurn.TheVariants as Prepares
use Rattle.tdb_locks.specs.HeldLocks.{nothing_held}
use Rattle.tdb_walk.specs.Cursors.{rested}
use Rattle.tdb_walk.specs.declared.standing.Standing.TheVariants.{Past as Nowhere}
use Rattle.tdb_txn_turns.specs.declared.starting.Starting.{Starting}
use Rattle.tdb_txn_turns.specs.declared.starting.StartTurn.{StartTurn}
use Rattle.tdb_txn_turns.specs.declared.starting.StartTurn.TheVariants as Starts
use Rattle.tdb_txn_turns.specs.declared.finishing.FinishTurn.{FinishTurn}
use Rattle.tdb_txn_turns.specs.declared.finishing.FinishTurn.TheVariants as Finishes
use Rattle.tdb_law.specs.Openers.{Task}
use Rattle.tdb_commands.specs.InLaw.{law_turn}
use Rattle.tdb_law.specs.OneAside.Sides.{Past, Side}
use Rattle.tdb_commands.specs.declared.options.Options.{Options}
use Rattle.tdb_txn_owner.specs.Stages.{stage_task, Known, IsSide, KnowsFile}
use Rattle.tdb_txn_owner.specs.Turned.{MayTurn, StageTurned}
use Rattle.tdb_txn_owner.specs.declared.open_txn.OpenTxn.{OpenTxn}
use Rattle.tdb_txn_owner.specs.declared.stage.PreparedTxn.TheVariants.{Opened, Nothing}
use Rattle.tdb_txn_owner.specs.declared.stage.Stage.TheVariants as At
use Rattle.tdb_txn_owner.specs.declared.stage.Stage.{Stage}
use Rattle.tdb_txn_owner.specs.declared.stage.Went.{Went}

-- the command is done with the transaction; and a turn after which the opener is at a stage
abbrev pub is_over : Reply → Went
is_over reply = record { turn = Turn.Done reply; stage = None }

abbrev pub goes_on : Turn → Stage → Went
goes_on turn stage = record { turn = turn; stage = Some stage }

abbrev pub commit_went : CommitTurn → Went
commit_went (Commits.Step next) = goes_on Turn.Step (At.Committing next)
commit_went (Commits.Blocked owner byte again) = goes_on (Turn.Blocked owner byte) (At.Committing again)
commit_went (Commits.Full len need) = is_over (Reply.Full len need)
commit_went Commits.Memory = is_over Reply.Memory
commit_went Commits.Done = is_over Reply.Ok

-- a Prepare of a transaction in which something was changed, or nothing
abbrev pub prepare_went : Bool → PrepareTurn → Went
prepare_went changed (Prepares.Step next) = goes_on Turn.Step (At.Preparing next)
prepare_went changed (Prepares.Blocked owner byte again) = goes_on (Turn.Blocked owner byte) (At.Preparing again)
prepare_went changed Prepares.Nothing = goes_on (Turn.Done Reply.Ok) (At.Prepared (Nothing changed) None)
prepare_went changed (Prepares.Full len need) = is_over (Reply.Full len need)
prepare_went changed Prepares.Memory = is_over Reply.Memory
prepare_went changed (Prepares.Done state) = goes_on (Turn.Done Reply.Ok) (At.Prepared (Opened state) None)

abbrev pub has_changed : PrepareStage → Bool
has_changed Unchanged = false
has_changed _ = true

-- a Commit of a prepared transaction
abbrev pub finish_went : FinishTurn → Went
finish_went (Finishes.Step next) = goes_on Turn.Step (At.Finishing next)
finish_went Finishes.Done = is_over Reply.Ok

-- A Start: with its end the transaction is there, whose changes raise the sequence number or not, in which nothing is
-- counted, and with no cursor.
abbrev pub StartWent : Bool → Starting → StartTurn → Went → Type 0
StartWent numbered s (Starts.Step next) went = went ≡ goes_on Turn.Step (At.Starting next)
StartWent numbered s (Starts.Blocked owner byte) went = went ≡ goes_on (Turn.Blocked owner byte) (At.Starting s)
StartWent numbered s Starts.Memory went = went ≡ is_over Reply.Memory
StartWent numbered s (Starts.Done txn) went =
    (t : OpenTxn) × (t.own ≡ record { txn = txn; changed = false; numbered = numbered }) × (t.held ≡ nothing_held) × (t.walk.cursor ≡ rested Nowhere) × (t.walk.shown ≡ None) × (went ≡ goes_on (Turn.Done Reply.Ok) (At.Open t None))

-- A turn from this stage is one of the opener aside, whatever its state and what is known of the file, which had one
-- history and has the other.
abbrev pub TurnsFrom : Form → Options → ℕ → List Piece → List Piece → Stage → Went → History → History → Type 0
TurnsFrom f o owner ps rs stage went h new =
    (table : ℕ → ℕ → ℕ) (k : Known) (past : Past) (s : Side) (t : Task) → IsSide f o owner ps stage k past s → KnowsFile f stage h k → stage_task stage ≡ Some t → MayTurn f table s t
    → StageTurned f o table owner rs stage went.stage h new k past s t (law_turn went.turn)
