-- A turn, and the undo of a gate that a dead opener left open.
use Rattle.std.specs.Prelude.{ℕ, ◌≡◌, ◌≢◌, ◌≤◌, ◌+◌, ◌⊎◌, Bool, IsTrue, Some, Result, OnOk, OnErr, false, if◌then◌else◌}
use Rattle.tdb_disk.specs.Count.{Rose, RoseBy}
use Rattle.tdb_disk.specs.History.{seen}
use Rattle.tdb_disk.specs.Stop.{LeavesOnly}
use Rattle.tdb_law.specs.Commands.Command.{OnWalk}
use Rattle.tdb_law.specs.Commands.WalkCommand.{Close}
use Rattle.tdb_law.specs.Openers.{Task}
use Rattle.tdb_law.specs.World.{State}
use Rattle.tdb_space.specs.Opening.{entries, is_open}
use Rattle.tdb_undo.specs.Entries.{lengths}
use Rattle.tdb_undo.specs.Recovery.{recovery_syncs}
use Rattle.tdb_locks.specs.declared.turn.Reply.{Reply}
use Rattle.tdb_locks.specs.declared.turn.Turn.{Turn}
use Rattle.tdb_locks.specs.declared.turn.Turn.TheVariants.{Done, Step}
use Rattle.tdb_commands.specs.InLaw.{law_opener, law_turn}
use Rattle.tdb_world.specs.declared.undoing.Undone.{Undone}
use Rattle.tdb_world.specs.Whole.{form_at}
use Rattle.tdb_world.specs.Steps.{HasCommand, HasNoCommand, StartWaits, TurnLeads, UndoLeads}
use Rattle.tdb_world.specs.Stops.{IsChanging, IsSafe, OpensToState, TurnMayLeave}
use Rattle.tdb_world.specs.Prepared.{GoesAsPrepared}
use Rattle.tdb_world.specs.Room.{FullOfTurn, StarvesInFile}
use Rattle.tdb_world.specs.Looks.{StaysUnwritten}
use Rattle.tdb_world.specs.Syncs.{OnlyLooks, SyncsByStage}
use Rattle.tdb_world.specs.OverFile.{OverFile, HasState, KeepsForm}

-- a stop now leaves only files that open to the map and the number that the file has
abbrev pub IsSafeNow : OverFile → Type 0
IsSafeNow w = IsSafe (form_at w.world) w.history

-- In a state the file is safe, and an opener isn't in the middle of a change outside a transaction.
pub record IsSafeFor (w : OverFile) (who : ℕ) (state : State) : Type 0 where
  pub has : HasState w state
  pub safe : IsSafeNow w
  pub calm : IsChanging (form_at w.world) state (law_opener who) → ⊥

-- The command of an opener isn't a Close, which the opener doesn't outlive.
abbrev pub OutlivesCommand : State → ℕ → Type 0
OutlivesCommand state o = (task : Task) → state.task o ≡ Some task → task.command ≢ OnWalk Close

-- An opener took a turn of its command.
pub record TookTurn (tells : Bool) (old new : OverFile) (who : ℕ) (turn : Turn) : Type 0 where
  pub leads : IsTrue tells → TurnLeads old.world new.world old.history new.history who (law_turn turn)
  pub full : IsTrue tells → FullOfTurn old.world old.history who (law_turn turn)
  pub starves : StarvesInFile old.world who (law_turn turn)
  pub waits : StartWaits old.world who (law_turn turn)
  pub prepared : IsTrue tells → GoesAsPrepared old.world old.history (law_opener who) (law_turn turn)
  pub safe : IsTrue tells → (state : State) → IsSafeFor old who state → IsSafe (form_at old.world) new.history
  pub syncs : SyncsByStage tells old.world old.history who turn old.syncs new.syncs
  pub busy : turn ≡ Step → HasCommand new.world who
  pub idle : IsTrue tells → (state : State) (reply : Reply) → HasState old state → OutlivesCommand state (law_opener who) → turn ≡ Done reply → HasNoCommand new.world who
  pub fresh : new.world.stale ≡ false
  pub longer : old.size ≤ new.size
  pub form : KeepsForm old new

-- Each stop in a turn leaves a file that opens to the map of the state before, or maybe to that of the transaction in
-- the turn that shuts the gate of its Commit.
abbrev pub StopsInTurn : OverFile → OverFile → ℕ → Type 0
StopsInTurn old new who = (state : State) → IsSafeFor old who state → LeavesOnly old.history new.history (TurnMayLeave (form_at old.world) state (law_opener who))

-- an opener that only looks at the file makes no sync
abbrev pub LooksUnsynced : OverFile → OverFile → ℕ → Type 0
LooksUnsynced old new who = (state : State) → HasState old state → OnlyLooks (form_at old.world) state (law_opener who) → new.syncs ≡ old.syncs

-- a turn that writes nothing leaves the file as it is
abbrev pub LeavesFile : OverFile → OverFile → ℕ → Type 0
LeavesFile old new who = StaysUnwritten old.world who old.history new.history

-- The count of faults in a call: it never falls, and is as before where the call is answered Ok; where it isn't, it
-- rose, over a file that tells its bytes.
pub record CountsFaults {V F : Type 0} (tells : Bool) (old new : OverFile) (answer : Result V F) : Type 0 where
  pub never_falls : old.faults ≤ new.faults
  pub done : OnOk answer (new.faults ≡ old.faults)
  pub failed : IsTrue tells → (state : State) → HasState old state → OnErr answer (Rose old.faults new.faults)

-- The gate that a dead opener left open was undone: so many bytes were put back, and the file has this length now.
-- Bytes are told only where an undo was made, with its syncs.
pub record WasUndone (tells : Bool) (old new : OverFile) (undone : Undone) : Type 0 where
  pub leads : IsTrue tells → UndoLeads old.world new.world old.history new.history
  pub bytes : IsTrue tells → (state : State) → HasState old state
      → undone.bytes ≡ (if is_open (form_at old.world) (seen old.history) then lengths (entries (form_at old.world) (seen old.history)) else 0)
  pub safe : IsTrue tells → (state : State) → HasState old state → IsSafe (form_at old.world) new.history
  pub syncs : IsTrue tells → (state : State) → HasState old state → RoseBy (1 + recovery_syncs (form_at old.world) (seen old.history)) old.syncs new.syncs
  pub made : undone.bytes ≢ 0 → RoseBy 4 old.syncs new.syncs ⊎ RoseBy 7 old.syncs new.syncs
  pub world : new.world ≡ record (old.world) { stale = false }
  pub length : undone.to ≡ new.size
  pub shorter : new.size ≤ old.size

-- each stop in an undo leaves a file that opens to the map of the state before
abbrev pub StopsInUndo : OverFile → OverFile → Type 0
StopsInUndo old new = (state : State) → HasState old state → IsSafeNow old → LeavesOnly old.history new.history (OpensToState (form_at old.world) state)
