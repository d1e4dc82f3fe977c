-- The explicit locks of an opener inside its transaction, in the words of the law (`tdb_law`).
use Rattle.std.specs.Prelude.{ℕ, ◌+◌, ◌-◌, ◌*◌, ◌≡◌, ◌≢◌, ◌<◌, nat_le, Option, None, Some, if◌then◌else◌}
use Rattle.std.specs.FinMap.{get}
use Rattle.tdb_space.specs.Form.{Form}
use Rattle.tdb_locks.specs.HeldLocks.{HeldLocks, count_of}
use Rattle.tdb_locks.specs.declared.kind.Kind.{Kind}
use Rattle.tdb_locks.specs.declared.kind.Kind.TheVariants.{Read, Write}
use Rattle.tdb_law.specs.Commands.{LockCommand, Reply, is_done}
use Rattle.tdb_law.specs.Commands.LockCommand.{LockAll, LockAllRead}
use Rattle.tdb_law.specs.Commands.Command.{OnLocks}
use Rattle.tdb_law.specs.Openers.{Own, Txn, AllLock, count_at}
use Rattle.tdb_law.specs.Outcomes.{own_locked}
use Rattle.tdb_steps.specs.LockRows.{strength_of}
use Rattle.tdb_txn_turns.specs.InsideTxn.Turns.{TurnsInside}

-- the opener has this transaction, which isn't prepared
pub record IsInside (x : Own) (t : Txn) : Type 0 where
  pub has : x.txn ≡ Some t
  pub unprepared : t.prepared ≡ None

-- the explicit lock of all records
abbrev pub all_lock : Option (Kind × ℕ) → Option AllLock
all_lock None = None
all_lock (Some a) = Some (record { strength = strength_of a.0; count = a.1 })

-- The counts are those of the opener: by the lock byte of each chain, which has none where its count is 0, at no other
-- byte, and of all records.
pub record IsCounted (held : HeldLocks) (x : Own) : Type 0 where
  pub chains : (chain : ℕ) → count_at x (168 + 4 * chain) ≡ count_of held chain
  pub some : (b n : ℕ) → get x.counts b ≡ Some n → 0 < n
  pub only : (b : ℕ) → ((chain : ℕ) → b ≢ 168 + 4 * chain) → get x.counts b ≡ None
  pub all : x.all ≡ all_lock held.all

-- the command that locks all records with this kind
abbrev pub lock_all_of : Kind → LockCommand
lock_all_of Read = LockAllRead
lock_all_of Write = LockAll

-- the lock of all records once more, with its kind where it is the first; and once less
abbrev pub one_more : Option (Kind × ℕ) → Kind → Kind × ℕ
one_more None kind = (kind, 1)
one_more (Some a) kind = (a.0, a.1 + 1)

abbrev pub one_less : Kind × ℕ → Option (Kind × ℕ)
one_less a = if nat_le a.1 1 then None else Some (a.0, a.1 - 1)

-- the opener after a command on explicit locks with this reply: only one that is done counts
abbrev pub own_counted : Form → LockCommand → Own → Reply → Own
own_counted f k x r = if is_done r then own_locked f k x else x

-- Such a command of an opener x, after which these are its counts: its turn is one of the law's, and the counts are
-- those of the opener afterwards.
pub record CountsInside (f : Form) (x : Own) (k : LockCommand) (held : HeldLocks) (r : Reply) : Type 0 where
  pub turned : (n p : ℕ) → TurnsInside f x (own_counted f k x r) (OnLocks k) n p p r
  pub counts : IsCounted held (own_counted f k x r)
