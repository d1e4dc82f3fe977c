-- What openers may ask for and what they are told: commands by level, replies, and the turns of a command.
use Rattle.std.specs.Prelude.{ℕ, List, Bool, true, false}

-- Commands on the map, each with its keys and values as bytes. A store is plain, or one of a key that must not be there
-- (`Insert`), or of one that must be (`Modify`).
pub data MapCommand : Type 0 where
  Fetch Has Delete : List ℕ → MapCommand
  Store Insert Modify Append : List ℕ → List ℕ → MapCommand
  Wipe Check : MapCommand

-- commands on the opener's explicit locks: on the chain of a key, or on all records
pub data LockCommand : Type 0 where
  ChainLock ChainLockNb ChainUnlock : List ℕ → LockCommand
  LockAll LockAllRead UnlockAll : LockCommand

-- commands on the opener's transaction
pub data GroupCommand : Type 0 where
  Start Commit Prepare Cancel : GroupCommand

-- commands on the opener's cursor, and the end of an opener
pub data WalkCommand : Type 0 where
  First Next EndWalk Close : WalkCommand

-- every command, by its level; `Seqnum` asks for the sequence number
pub data Command : Type 0 where
  OnMap : MapCommand → Command
  OnLocks : LockCommand → Command
  Seqnum : Command
  OnGroup : GroupCommand → Command
  OnWalk : WalkCommand → Command

-- what a command replies. `Done` says that it did what it says. `Busy` has an opener and a lock byte; `Full` the length
-- and what was needed; `Memory` is want of memory.
pub data Reply : Type 0 where
  Done End KeyMissing KeyThere ReadOnly NoTransaction InTransaction Nesting Doomed NotLocked Memory Yes No : Reply
  Value : List ℕ → Reply
  Pair : List ℕ → List ℕ → Reply
  Busy Full : ℕ → ℕ → Reply
  HeldLocks Number : ℕ → Reply

-- One turn of a command: a step, after which it goes on; blocked by an opener who holds a lock on a byte, after which
-- it tries the same again; or its end with a reply.
pub data Turn : Type 0 where
  Step : Turn
  Blocked : ℕ → ℕ → Turn
  Ends : Reply → Turn

-- a reply after which a command has changed nothing, whatever it was: want of memory, want of space, or a lock that is
-- held
abbrev pub is_spare : Reply → Bool
is_spare Memory = true
is_spare (Full len need) = true
is_spare (Busy owner byte) = true
is_spare _ = false

-- the command did what it says
abbrev pub is_done : Reply → Bool
is_done Done = true
is_done _ = false

-- it moves a cursor to the first record of its walk
abbrev pub is_first : Command → Bool
is_first (OnWalk First) = true
is_first _ = false
