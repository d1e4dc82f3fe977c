-- What the calls of a group come to.
use Rattle.std.specs.Prelude.{ℕ, suc, ◌≡◌, ◌<◌, ◌≤◌, List, ◌∷◌, [], ◌++◌, Bool, IsTrue, true, false, Result, IfErr, MatchResult, Ok, OnOk, if◌then◌else◌, is_err, is_ok, length, set}
use Rattle.tdb_disk.specs.Count.{Rose}
use Rattle.tdb_disk.specs.Stop.{LeavesOnly}
use Rattle.tdb_law.specs.Openers.{Map}
use Rattle.tdb_law.specs.Replay.{put}
use Rattle.tdb_law.specs.World.{State}
use Rattle.tdb_commands.specs.InLaw.{law_command, law_reply}
use Rattle.tdb_commands.specs.declared.command.Command.{Command}
use Rattle.tdb_locks.specs.declared.turn.Reply.{Reply}
use Rattle.tdb_log.specs.Logs.{Logged}
use Rattle.tdb_world.specs.Calm.{OpensToEither}
use Rattle.tdb_world.specs.Loaded.{IsJustLoaded}
use Rattle.tdb_world.specs.OverFile.{OverFile}
use Rattle.tdb_world.specs.Stops.{IsSafe}
use Rattle.tdb_group.specs.Commands.{Replies}
use Rattle.tdb_group.specs.Each.{FailedFirst, HeardEach, PreparationLeft, RoseAt, StayEach, WentOn}
use Rattle.tdb_group.specs.Faults.{stop_at}
use Rattle.tdb_group.specs.Files.{HasNoTxn, StaysAt, maps}
use Rattle.tdb_group.specs.Group.{AreCancelled, EachPair, GroupState, HasMaps}
use Rattle.tdb_group.specs.Members.{Maps, form_of_file}
use Rattle.tdb_group.specs.Stops.{After, AfterSome}
use Rattle.tdb_group.specs.Turns.{Ran}
use Rattle.tdb_group.specs.declared.stop.GroupStop.{GroupStop}
use Rattle.tdb_group.specs.declared.stop.GroupStop.TheVariants.{Io, Memory}

-- A world in which nobody had joined was added, with a transaction that leads from the map of its file to the same.
pub record Added (tells : Bool) (w : OverFile) (old new : GroupState) (n : ℕ) : Type 0 where
  pub number : n ≡ length old.files
  pub begun : OverFile
  pub files : new ≡ record old { files = old.files ++ begun ∷ [] }
  pub ran : Ran {V = Unit {0}} w begun (Ok tt)
  pub leads : IsTrue tells → (state : State) → IsJustLoaded w.world w.history state → (ps : ℕ → Maps) → HasMaps ps old → HasMaps (put ps n (maps state.file state.file)) new
  pub stops : IsTrue tells → (state : State) → IsJustLoaded w.world w.history state → IsSafe (form_of_file w) w.history → StaysAt state.file w begun

-- why one isn't added: want of memory, or a failure of its disk, after which it is spent
abbrev pub IsStopOfAdding : Bool → OverFile → OverFile → ℕ → GroupStop → Type 0
IsStopOfAdding tells w now n (Memory at) = (at ≡ n) × (now.spent ≡ false) × (now.faults ≡ w.faults) × (IsTrue tells → (state : State) → IsJustLoaded w.world w.history state → HasNoTxn now)
IsStopOfAdding tells w now n (Io at) = (at ≡ n) × (now.spent ≡ true) × (IsTrue tells → (state : State) → IsJustLoaded w.world w.history state → Rose w.faults now.faults)
IsStopOfAdding tells w now n stop = ⊥

-- One wasn't added, and comes back without a transaction. The group is as it was.
pub record NotAdded (tells : Bool) (w now : OverFile) (old new : GroupState) (stop : GroupStop) : Type 0 where
  pub same : new ≡ old
  pub rises : w.faults ≤ now.faults
  pub cause : IsStopOfAdding tells w now (length old.files) stop
  pub stops : IsTrue tells → (state : State) → IsJustLoaded w.world w.history state → IsSafe (form_of_file w) w.history → StaysAt state.file w now

-- A command was done in the transaction of one file: its reply and what it makes of the transaction's map are those on
-- a plain one. It stops the group where the disk of that file failed. A stop leaves every file at its map before.
pub record DidAt (tells : Bool) (old new : GroupState) (n : ℕ) (c : Command) (answer : Result Reply GroupStop) : Type 0 where
  pub file : OverFile
  pub files : new ≡ record old { files = set old.files n file; stopped = is_err answer }
  pub fault : IfErr answer (λ stop. stop ≡ Io n)
  pub went : EachPair old.files new.files (λ m a b. WentOn answer a b)
  pub stays : IsTrue tells → (ps : ℕ → Maps) → HasMaps ps old → StayEach ps old.files new.files
  pub left : IsTrue tells → (ps : ℕ → Maps) → HasMaps ps old
      → MatchResult answer (λ r. (end : Map) × Replies (law_command c) (ps n).after (law_reply r) end × HasMaps (put ps n (maps (ps n).before end)) new) (λ _. RoseAt old.files new.files n)
  pub stops : IsTrue tells → (ps : ℕ → Maps) → HasMaps ps old → AfterSome 0 0 ps old.files new.files

-- The files were prepared in their order, and the last log was told how each grew. A stop leaves every file at its map
-- before; done, so does each stop now. Where there was no room for one all were cancelled.
pub record PreparedAll (tells : Bool) (old new : GroupState) (before after : List Logged) (answer : Result (Unit {0}) GroupStop) : Type 0 where
  pub flags : new ≡ record old { files = new.files; prepared = is_ok answer; stopped = is_err answer }
  pub count : length new.files ≡ length old.files
  pub number : IfErr answer (λ stop. stop_at stop < length old.files)
  pub heard : HeardEach old.files new.files before after answer
  pub went : EachPair old.files new.files (λ n a b. WentOn answer a b)
  pub stays : IsTrue tells → (ps : ℕ → Maps) → HasMaps ps old → StayEach ps old.files new.files
  pub left : IsTrue tells → (ps : ℕ → Maps) → HasMaps ps old → PreparationLeft (AreCancelled ps new.files) ps old.files new.files answer
  pub done : IsTrue tells → (ps : ℕ → Maps) → HasMaps ps old → OnOk answer (HasMaps ps new × After 0 ps new.files)
  pub stops : IsTrue tells → (ps : ℕ → Maps) → HasMaps ps old → AfterSome 0 0 ps old.files new.files

-- The first file that isn't finished was committed. It stops the group where the disk of that file failed, and nothing
-- else stops it. A stop leaves some number of the first files after their transactions, and the others before: as many
-- as were finished before, or one more. Done, it is one more from then on.
pub record FinishedNext (tells : Bool) (old new : GroupState) (answer : Result ℕ GroupStop) : Type 0 where
  pub file : OverFile
  pub files : new ≡ record old { files = set old.files old.finished file; finished = (if is_ok answer then suc old.finished else old.finished); stopped = is_err answer }
  pub number : MatchResult answer (λ n. n ≡ old.finished) (λ stop. stop ≡ Io old.finished)
  pub went : EachPair old.files new.files (λ n a b. WentOn answer a b)
  pub either : IsTrue tells → (ps : ℕ → Maps) → HasMaps ps old → EachPair old.files new.files (λ n a b. LeavesOnly a.history b.history (OpensToEither (form_of_file a) (ps n).before (ps n).after))
  pub left : IsTrue tells → (ps : ℕ → Maps) → HasMaps ps old → MatchResult answer (λ _. HasMaps ps new × After (suc old.finished) ps new.files) (λ _. RoseAt old.files new.files old.finished)
  pub stops : IsTrue tells → (ps : ℕ → Maps) → HasMaps ps old → AfterSome old.finished (suc old.finished) ps old.files new.files

-- Every transaction was cancelled, and the group is stopped. Where a disk failed this is the first such file. A stop
-- leaves every file at its map before.
pub record CancelledAll (tells : Bool) (old new : GroupState) (answer : Result (Unit {0}) GroupStop) : Type 0 where
  pub flags : new ≡ record old { files = new.files; stopped = true }
  pub count : length new.files ≡ length old.files
  pub fault : IfErr answer (λ stop. (stop ≡ Io (stop_at stop)) × (stop_at stop < length old.files))
  pub went : EachPair old.files new.files (λ n a b. WentOn answer a b)
  pub stays : IsTrue tells → (ps : ℕ → Maps) → HasMaps ps old → StayEach ps old.files new.files
  pub left : IsTrue tells → (ps : ℕ → Maps) → HasMaps ps old → MatchResult answer (λ _. AreCancelled ps new.files) (λ stop. FailedFirst ps old.files new.files (stop_at stop))
  pub stops : IsTrue tells → (ps : ℕ → Maps) → HasMaps ps old → AfterSome 0 0 ps old.files new.files
