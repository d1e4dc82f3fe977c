-- What the calls of a group come to at one file.
use Rattle.std.specs.Prelude.{ℕ, ◌≡◌, ◌⊎◌, List, [], ◌∷◌, Bool, IsTrue, true, false, None, Result, Ok, Err, MatchResult}
use Rattle.tdb_disk.specs.Count.{Rose}
use Rattle.tdb_disk.specs.Stop.{LeavesOnly}
use Rattle.tdb_law.specs.Commands.{Command as LawCommand}
use Rattle.tdb_law.specs.Openers.{Map}
use Rattle.tdb_law.specs.World.{State}
use Rattle.tdb_commands.specs.InLaw.{law_reply}
use Rattle.tdb_locks.specs.declared.turn.Reply.{Reply}
use Rattle.tdb_locks.specs.declared.turn.Reply.TheVariants.{Full}
use Rattle.tdb_log.specs.Logs.{Logged, ToldAll, ToldUpTo, growth}
use Rattle.tdb_log.specs.declared.log.LogRefusal.TheVariants as Unheard
use Rattle.tdb_world.specs.Calm.{OpensToEither, OpensToMap}
use Rattle.tdb_world.specs.Loaded.{IsJustLoaded}
use Rattle.tdb_world.specs.OverFile.{OverFile, HasState}
use Rattle.tdb_world.specs.Stops.{IsSafe}
use Rattle.tdb_group.specs.Commands.{Replies}
use Rattle.tdb_group.specs.Members.{IsSettled, IsUnderway, Maps, form_of_file, options_of_file}
use Rattle.tdb_group.specs.declared.stop.FileStop.{FileStop}
use Rattle.tdb_group.specs.declared.stop.FileStop.TheVariants.{Refused, Io, LogFailed}

-- the maps of a transaction that leads from the one to the other
abbrev pub maps : Map → Map → Maps
maps m n = record { before = m; after = n }

-- each stop since the first moment leaves a file that opens to this map
abbrev pub StaysAt : Map → OverFile → OverFile → Type 0
StaysAt m old new = LeavesOnly old.history new.history (OpensToMap (form_of_file old) m)

-- a world in which its first opener has no transaction
abbrev pub HasNoTxn : OverFile → Type 0
HasNoTxn w = (state : State) × HasState w state × ((state.own 0).txn ≡ None)

-- a reply that tells that there is no room
abbrev pub IsFull : Reply → Type 0
IsFull (Full len need) = Unit {0}
IsFull reply = ⊥

-- what a Start left, by its answer: a transaction that leads from the file's map to the same; or none
abbrev pub StartLeft : Map → OverFile → OverFile → Result (Unit {0}) FileStop → Type 0
StartLeft m old new (Ok v) = IsUnderway false (maps m m) new
StartLeft m old new (Err Io) = Rose old.faults new.faults
StartLeft m old new (Err stop) = HasNoTxn new

-- The opener of a world just loaded joined and began a transaction.
pub record Started (tells : Bool) (old new : OverFile) (answer : Result (Unit {0}) FileStop) : Type 0 where
  pub left : IsTrue tells → (state : State) → IsJustLoaded old.world old.history state → (options_of_file old).read_only ≡ false → StartLeft state.file old new answer
  pub stops : IsTrue tells → (state : State) → IsJustLoaded old.world old.history state → (options_of_file old).read_only ≡ false → IsSafe (form_of_file old) old.history → StaysAt state.file old new

-- A command was done in the transaction: its reply and what it makes of the transaction's map are those on a plain
-- one.
pub record Applied (tells : Bool) (c : LawCommand) (old new : OverFile) (answer : Result Reply FileStop) : Type 0 where
  pub left : IsTrue tells → (p : Maps) → IsUnderway false p old
      → MatchResult answer (λ r. (end : Map) × Replies c p.after (law_reply r) end × IsUnderway false (maps p.before end) new) (λ _. Rose old.faults new.faults)
  pub stops : IsTrue tells → (p : Maps) → IsUnderway false p old → StaysAt p.before old new

-- what a Prepare left, by its answer: a transaction that is prepared; or none, where there was no room
abbrev pub PrepareLeft : Maps → OverFile → OverFile → Result (Unit {0}) FileStop → Type 0
PrepareLeft p old new (Ok v) = IsUnderway true p new
PrepareLeft p old new (Err (Refused reply)) = IsFull reply × IsSettled p.before new
PrepareLeft p old new (Err Io) = Rose old.faults new.faults
PrepareLeft p old new (Err stop) = Unit {0}

-- The transaction was prepared, or the call broke off. The file stays at its map before.
pub record Prepared (tells : Bool) (old new : OverFile) (answer : Result (Unit {0}) FileStop) : Type 0 where
  pub left : IsTrue tells → (p : Maps) → IsUnderway false p old → PrepareLeft p old new answer
  pub stops : IsTrue tells → (p : Maps) → IsUnderway false p old → StaysAt p.before old new

-- what the last log was told of a file that was prepared: how it grew; or that it failed at that
abbrev pub HeardGrowth : ℕ → ℕ → List Logged → List Logged → Result (Unit {0}) FileStop → Type 0
HeardGrowth from to before after (Ok v) = ToldAll (growth from to) before after
HeardGrowth from to before after (Err LogFailed) = ToldUpTo Unheard.Failed (growth from to) before after
HeardGrowth from to before after (Err stop) = Unit {0}

-- The prepared transaction was committed. It fails only where the disk does, and each stop leaves the one map or the
-- other.
pub record Finished (tells : Bool) (old new : OverFile) (answer : Result (Unit {0}) FileStop) : Type 0 where
  pub left : IsTrue tells → (p : Maps) → IsUnderway true p old → MatchResult answer (λ _. IsSettled p.after new) (λ _. Rose old.faults new.faults)
  pub stops : IsTrue tells → (p : Maps) → IsUnderway true p old → LeavesOnly old.history new.history (OpensToEither (form_of_file old) p.before p.after)

-- a file that has this map while its transaction isn't finished, or is over
abbrev pub IsAt : Map → OverFile → Type 0
IsAt m w = ((prepared : Bool) × (n : Map) × IsUnderway prepared (maps m n) w) ⊎ IsSettled m w

-- The transaction was cancelled, where there was one.
pub record Cancelled (tells : Bool) (old new : OverFile) (answer : Result (Unit {0}) FileStop) : Type 0 where
  pub left : IsTrue tells → (m : Map) → IsAt m old → MatchResult answer (λ _. IsSettled m new) (λ _. Rose old.faults new.faults)
  pub stops : IsTrue tells → (m : Map) → IsAt m old → StaysAt m old new
