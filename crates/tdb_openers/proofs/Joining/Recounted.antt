-- A turn in the words of the law, where openers are counted from 0.
use Rattle.std.proofs.Common.{◌≡◌, ℕ, ◌-◌, List, Bool, true, false, Option, None, Some, refl, ap}
use Rattle.std.specs.Prelude.{if◌then◌else◌}
use Rattle.std.specs.FinMap.{get}
use Rattle.tdb_locks.specs.declared.turn.Reply.{Reply}
use Rattle.tdb_locks.specs.declared.turn.Reply.TheVariants as Replies
use Rattle.tdb_locks.specs.declared.turn.Turn.{Turn}
use Rattle.tdb_locks.specs.declared.turn.Turn.TheVariants.{Step, Blocked, Done}
use Rattle.tdb_law.specs.Commands as Law
use Rattle.tdb_law.specs.Commands.{MapCommand}
use Rattle.tdb_law.specs.Commands.MapCommand.{Fetch, Has, Delete, Store, Insert, Modify, Append, Wipe, Check}
use Rattle.tdb_law.specs.Openers.{Map, has}
use Rattle.tdb_law.specs.MapCommands.{reply, fetched}
use Rattle.tdb_law.specs.Ends.{map_ends}
use Rattle.tdb_commands.specs.InLaw.{law_reply, law_turn}
use Rattle.tdb_steps.specs.PlainCommands.{reply_of, turn_of}

abbrev pub recounted_reply : Law.Reply → Law.Reply
recounted_reply (Law.Reply.Busy owner byte) = Law.Reply.Busy (owner - 1) byte
recounted_reply r = r

abbrev pub recounted : Law.Turn → Law.Turn
recounted Law.Turn.Step = Law.Turn.Step
recounted (Law.Turn.Blocked owner byte) = Law.Turn.Blocked (owner - 1) byte
recounted (Law.Turn.Ends r) = Law.Turn.Ends (recounted_reply r)

reply_is : (r : Reply) → recounted_reply (reply_of r) ≡ law_reply r
reply_is Replies.Ok = refl
reply_is (Replies.Value v) = refl
reply_is (Replies.Pair k v) = refl
reply_is Replies.End = refl
reply_is Replies.KeyMissing = refl
reply_is Replies.KeyThere = refl
reply_is (Replies.Busy owner byte) = refl
reply_is Replies.ReadOnly = refl
reply_is Replies.NoTransaction = refl
reply_is Replies.InTransaction = refl
reply_is Replies.Nesting = refl
reply_is Replies.Doomed = refl
reply_is (Replies.HeldLocks count) = refl
reply_is Replies.NotLocked = refl
reply_is (Replies.Full len need) = refl
reply_is Replies.Memory = refl
reply_is Replies.Yes = refl
reply_is Replies.No = refl
reply_is (Replies.Number n) = refl

pub turn_is : (turn : Turn) → recounted (turn_of turn) ≡ law_turn turn
turn_is Step = refl
turn_is (Blocked owner byte) = refl
turn_is (Done r) = ap Law.Turn.Ends (reply_is r)

-- no command on the map is told that a lock is busy
told_fetched : (o : Option (List ℕ)) → recounted_reply (fetched o) ≡ fetched o
told_fetched None = refl
told_fetched (Some v) = refl

either : (z : Bool) (p q : Law.Reply) → recounted_reply p ≡ p → recounted_reply q ≡ q → recounted_reply (if z then p else q) ≡ (if z then p else q)
either true p q one two = one
either false p q one two = two

pub told_same : (c : MapCommand) (m : Map) → recounted_reply (reply c m) ≡ reply c m
told_same (Fetch k) m = told_fetched (get m k)
told_same (Has k) m = either (has m k) Law.Reply.Yes Law.Reply.No refl refl
told_same (Delete k) m = either (has m k) Law.Reply.Done Law.Reply.KeyMissing refl refl
told_same (Store k v) m = refl
told_same (Insert k v) m = either (has m k) Law.Reply.KeyThere Law.Reply.Done refl refl
told_same (Modify k v) m = either (has m k) Law.Reply.Done Law.Reply.KeyMissing refl refl
told_same (Append k v) m = refl
told_same Wipe m = refl
told_same Check m = refl

-- the ends of a row are of any opener
busy_ends : (c : MapCommand) (n o p b : ℕ) → map_ends c n (Law.Reply.Busy p b) ≡ map_ends c n (Law.Reply.Busy o b)
busy_ends (Fetch k) n o p b = refl
busy_ends (Has k) n o p b = refl
busy_ends (Delete k) n o p b = refl
busy_ends (Store k v) n o p b = refl
busy_ends (Insert k v) n o p b = refl
busy_ends (Modify k v) n o p b = refl
busy_ends (Append k v) n o p b = refl
busy_ends Wipe n o p b = refl
busy_ends Check n o p b = refl

pub same_ends : (c : MapCommand) (n : ℕ) (r : Law.Reply) → map_ends c n (recounted_reply r) ≡ map_ends c n r
same_ends c n Law.Reply.Done = refl
same_ends c n Law.Reply.End = refl
same_ends c n Law.Reply.KeyMissing = refl
same_ends c n Law.Reply.KeyThere = refl
same_ends c n Law.Reply.ReadOnly = refl
same_ends c n Law.Reply.NoTransaction = refl
same_ends c n Law.Reply.InTransaction = refl
same_ends c n Law.Reply.Nesting = refl
same_ends c n Law.Reply.Doomed = refl
same_ends c n Law.Reply.NotLocked = refl
same_ends c n Law.Reply.Memory = refl
same_ends c n Law.Reply.Yes = refl
same_ends c n Law.Reply.No = refl
same_ends c n (Law.Reply.Value v) = refl
same_ends c n (Law.Reply.Pair k v) = refl
same_ends c n (Law.Reply.Busy owner byte) = busy_ends c n owner (owner - 1) byte
same_ends c n (Law.Reply.Full len need) = refl
same_ends c n (Law.Reply.HeldLocks count) = refl
same_ends c n (Law.Reply.Number number) = refl

pub same_done : (r : Law.Reply) → Law.is_done (recounted_reply r) ≡ Law.is_done r
same_done Law.Reply.Done = refl
same_done Law.Reply.End = refl
same_done Law.Reply.KeyMissing = refl
same_done Law.Reply.KeyThere = refl
same_done Law.Reply.ReadOnly = refl
same_done Law.Reply.NoTransaction = refl
same_done Law.Reply.InTransaction = refl
same_done Law.Reply.Nesting = refl
same_done Law.Reply.Doomed = refl
same_done Law.Reply.NotLocked = refl
same_done Law.Reply.Memory = refl
same_done Law.Reply.Yes = refl
same_done Law.Reply.No = refl
same_done (Law.Reply.Value v) = refl
same_done (Law.Reply.Pair k v) = refl
same_done (Law.Reply.Busy owner byte) = refl
same_done (Law.Reply.Full len need) = refl
same_done (Law.Reply.HeldLocks count) = refl
same_done (Law.Reply.Number number) = refl
