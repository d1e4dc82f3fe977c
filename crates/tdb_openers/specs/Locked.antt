-- What the commands on explicit locks do to the lock table and to the counts.
use Rattle.std.specs.Prelude.{ℕ, ◌≡◌, ◌-◌, ◌+◌, List, Bool, true, false, Option, None, Some, if◌then◌else◌, nat_lt}
use Rattle.tdb_space.specs.Form.{Form}
use Rattle.tdb_locks.specs.HeldLocks.{HeldLocks, count_of}
use Rattle.tdb_locks.specs.LockTable.{ChangesRange, IsFree, IsFirstConflict}
use Rattle.tdb_locks.specs.declared.kind.Kind.{Kind}
use Rattle.tdb_locks.specs.declared.kind.Kind.TheVariants.{Write}
use Rattle.tdb_locks.specs.declared.locks.LockRefusal.{LockRefusal}
use Rattle.tdb_locks.specs.declared.locks.LockRefusal.TheVariants.{Conflict, Memory}
use Rattle.tdb_locks.specs.declared.piece.Piece.{Piece}
use Rattle.tdb_law.specs.Commands.{LockCommand, Command, Turn}
use Rattle.tdb_law.specs.Openers.{View}
use Rattle.tdb_law.specs.Refusals.{refusal}
use Rattle.tdb_law.specs.World.{HasFewChains}
use Rattle.tdb_law.specs.Effects.{task_left}
use Rattle.tdb_steps.specs.LockRows.{start_of, end_of, is_covered}
use Rattle.tdb_steps.specs.declared.rows.LockRow.{LockRow}
use Rattle.tdb_steps.specs.declared.rows.Region.TheVariants.{Chain, AllRecords}
use Rattle.tdb_locks.specs.declared.turn.Reply.{Reply}
use Rattle.tdb_locks.specs.declared.turn.Turn.{Turn as Turned}
use Rattle.tdb_commands.specs.declared.options.Options.{Options}
use Rattle.tdb_openers.specs.Openers.{AtRest, own_with}
use Rattle.tdb_openers.specs.Turning.{OpenerHolds, TurnsLocks, TurnsFile, resting}

-- the lock of a chain for writing, and that of all records, which a first turn takes
abbrev pub chain_row : ℕ → LockRow
chain_row chain = record { turn = 0; region = Chain chain; kind = Write }

abbrev pub all_row : Kind → LockRow
all_row kind = record { turn = 0; region = AllRecords; kind = kind }

-- from one table to another a lock of a row was taken where the explicit locks don't cover it, and else nothing changed
pub record IsTaken (held : HeldLocks) (owner : ℕ) (old new : List Piece) (r : LockRow) : Type 0 where
  pub covered : is_covered held r ≡ true → new ≡ old
  pub bare : is_covered held r ≡ false → ChangesRange old new owner (start_of r.region) (end_of r.region) (Some r.kind)
  pub free : is_covered held r ≡ false → IsFree old owner (start_of r.region) (end_of r.region) r.kind

-- where a lock of a row isn't granted for a conflict, that is the first
abbrev pub IsInTheWay : List Piece → ℕ → LockRow → LockRefusal → Type 0
IsInTheWay ps owner r (Conflict other byte kind) = IsFirstConflict ps owner (start_of r.region) (end_of r.region) r.kind other byte kind
IsInTheWay ps owner r Memory = Unit {0}

-- each chain and all records are held as often as before
pub record SameHeld (old new : HeldLocks) : Type 0 where
  pub counts : (chain : ℕ) → count_of new chain ≡ count_of old chain
  pub all : new.all ≡ old.all

-- the lock of all records once more: with its kind where it is the first
abbrev pub more_of : Option (Kind × ℕ) → Kind → Kind × ℕ
more_of None kind = (kind, 1)
more_of (Some all) kind = (all.0, all.1 + 1)

-- and once less
abbrev pub less_of : Option (Kind × ℕ) → Option (Kind × ℕ)
less_of None = None
less_of (Some all) = if nat_lt 1 all.1 then Some (all.0, all.1 - 1) else None

-- Before a turn of a command on explicit locks: it isn't refused, and its opener holds what it keeps.
pub record MayLock (f : Form) (options : Options) (live : Bool) (held : HeldLocks) (rest : AtRest) (k : LockCommand) (who : ℕ) (ps : List Piece) : Type 0 where
  pub few : HasFewChains f
  pub granted : refusal f (Command.OnLocks k) (own_with options live held rest) ≡ None
  pub holds : OpenerHolds f (own_with options live held rest) (resting rest) (Command.OnLocks k) 0 who ps

-- What such a turn makes of the lock table, of any file, which it leaves, and of the opener, in the words of the law.
pub record LockingTurned (f : Form) (options : Options) (live : Bool) (old new : HeldLocks) (rest : AtRest) (k : LockCommand) (who : ℕ) (ps qs : List Piece) (turn : Turn) : Type 0 where
  pub locks : TurnsLocks f (own_with options live old rest) (own_with options live new rest) (resting rest) (Command.OnLocks k) 0 (task_left (Command.OnLocks k) 0 turn) who ps qs turn
  pub file : (v : View) (img : List ℕ) → TurnsFile f (own_with options live old rest) (own_with options live new rest) (resting rest) v (Command.OnLocks k) 0 who ps img img turn

-- the turn that tells that a lock isn't granted: it waits, or is told at once
abbrev pub waiting : LockRefusal → Turned
waiting (Conflict owner byte kind) = Turned.Blocked owner byte
waiting Memory = Turned.Done Reply.Memory

abbrev pub at_once : LockRefusal → Turned
at_once (Conflict owner byte kind) = Turned.Done (Reply.Busy owner byte)
at_once Memory = Turned.Done Reply.Memory
