-- What the commands come to that the one opener of a file does.
use Rattle.std.specs.Prelude.{ℕ, ◌≡◌, ◌⊎◌, ◌≤◌, List, Bool, IsTrue, true, false, Option, None, Some, Result, Ok, Err, IfOk}
use Rattle.tdb_disk.specs.Count.{Rose}
use Rattle.tdb_disk.specs.Stop.{LeavesOnly}
use Rattle.tdb_space.specs.Form.{Form}
use Rattle.tdb_law.specs.Commands.{Command, Reply as LawReply}
use Rattle.tdb_law.specs.Commands.Command.{OnGroup}
use Rattle.tdb_law.specs.Commands.GroupCommand.{Commit, Start}
use Rattle.tdb_law.specs.Commands.Reply.{Done, Full, Memory}
use Rattle.tdb_law.specs.Commands.Turn.{Ends}
use Rattle.tdb_law.specs.Ends.{last_step, starves}
use Rattle.tdb_law.specs.Held.{may_want}
use Rattle.tdb_law.specs.Openers.{Map, Own, Task, seen}
use Rattle.tdb_law.specs.Outcomes.{busies, counts, fills, moves, told}
use Rattle.tdb_law.specs.Replay.{line_map, line_own}
use Rattle.tdb_commands.specs.InLaw.{law_reply}
use Rattle.tdb_locks.specs.declared.turn.Reply.{Reply}
use Rattle.tdb_world.specs.Calm.{IsGroup, OpensToEither}
use Rattle.tdb_world.specs.OverFile.{OverFile, KeepsForm, OnlyInMemory}
use Rattle.tdb_world.specs.Steps.{HasCommand}
use Rattle.tdb_world.specs.Stops.{IsSafe}
use Rattle.tdb_group.specs.Members.{IsMember, form_of_file}
use Rattle.tdb_group.specs.declared.stop.FileStop.{FileStop}
use Rattle.tdb_group.specs.declared.stop.FileStop.TheVariants.{Refused, Io, LogFailed, Memory as Starved}

-- A command that an opener can do by itself: one on its transaction, or one that takes no step; it takes eight steps
-- at most, wants no lock twice, and neither moves a cursor, nor asks for a number, nor may find a lock busy.
pub record IsPlain (f : Form) (c : Command) (x : Own) : Type 0 where
  pub calm : (last_step f c x ≡ 0) ⊎ IsGroup c
  pub short : last_step f c x ≤ 8
  pub wants : (k b : ℕ) → may_want f c x k b ≤ 2
  pub still : moves f c x ≡ false
  pub numberless : counts f c x ≡ false
  pub patient : busies f c x ≡ false
  pub live : x.live ≡ true

-- what it replies: what it is told on the map; or that memory is wanting, or space
pub data Tells (f : Form) (c : Command) (x : Own) (m : Map) (r : LawReply) : Type 0 where
  tells_told : r ≡ told f c x m → Tells f c x m r
  tells_memory : r ≡ Memory → starves f c x ≡ true → Tells f c x m r
  tells_full : (len need : ℕ) → r ≡ Full len need → fills f c x ≡ true → told f c x m ≡ Done → Tells f c x m r

-- Its end, after so many steps: the reply, and the committed map and the opener afterwards.
pub record Ended (f : Form) (c : Command) (x : Own) (m : Map) (r : LawReply) (end : Map) (y : Own) : Type 0 where
  pub steps : ℕ
  pub says : Tells f c x m r
  pub map : end ≡ line_map f c x (Ends r) m
  pub own : y ≡ line_own f c x steps (Ends r) m

-- the map that a stop in it may find committed: in a Commit that of the transaction, and else the one that is
-- committed
abbrev pub map_to : Command → Own → Map → Map
map_to (OnGroup Commit) x m = seen x m
map_to c x m = m

-- what a stop in it may leave: a file that opens to the one or the other
abbrev pub MayOpen : Form → Map → Command → Own → List ℕ → Type 0
MayOpen f m c x = OpensToEither f m (map_to c x m)

-- a command that is given, and has had no turn
abbrev pub new_task : Command → Task
new_task c = record { command = c; steps = 0 }

-- What a command left that replied: its end. It isn't done only where it is a Start that found no room in the count of
-- transactions; then all is as it was.
abbrev pub CommandLeft : Command → Option Task → Own → Map → OverFile → Option Reply → Type 0
CommandLeft c u x m w None = (u ≡ None) × (c ≡ OnGroup Start) × IsMember m x None w
CommandLeft c u x m w (Some r) = (end : Map) × (y : Own) × Ended (form_of_file w) c x m (law_reply r) end y × IsMember end y None w

-- what holds unless the disk failed, and what holds where it did
abbrev pub UnlessIo : {V : Type 0} → Result V FileStop → Type 0 → Type 0
UnlessIo (Ok v) p = p
UnlessIo (Err (Refused reply)) p = p
UnlessIo (Err Io) p = Unit {0}
UnlessIo (Err LogFailed) p = p
UnlessIo (Err Starved) p = p

abbrev pub OnIo : {V : Type 0} → Result V FileStop → Type 0 → Type 0
OnIo (Ok v) p = Unit {0}
OnIo (Err (Refused reply)) p = Unit {0}
OnIo (Err Io) p = p
OnIo (Err LogFailed) p = Unit {0}
OnIo (Err Starved) p = Unit {0}

-- A call went on from one moment of a file to another: unless the disk failed its world isn't spent and keeps its
-- form, and its count of faults is as it was.
pub record Ran {V : Type 0} (old new : OverFile) (answer : Result V FileStop) : Type 0 where
  pub form : UnlessIo answer (KeepsForm old new)
  pub unspent : UnlessIo answer (new.spent ≡ false)
  pub never_falls : old.faults ≤ new.faults
  pub quiet : UnlessIo answer (new.faults ≡ old.faults)

-- A command was done that had no turn yet, or wasn't given before. From a safe file each stop leaves one that opens as
-- it may in the command, and unless the disk failed the file is safe behind it.
pub record Did (tells : Bool) (c : Command) (u : Option Task) (old new : OverFile) (answer : Result (Option Reply) FileStop) : Type 0 where
  pub left : IsTrue tells → (m : Map) (x : Own) → IsMember m x u old → IsPlain (form_of_file old) c x → IfOk answer (CommandLeft c u x m new)
  pub stops : IsTrue tells → (m : Map) (x : Own) → IsMember m x u old → IsPlain (form_of_file old) c x → IsSafe (form_of_file old) old.history
      → LeavesOnly old.history new.history (MayOpen (form_of_file old) m c x)
  pub safe : IsTrue tells → (m : Map) (x : Own) → IsMember m x u old → IsPlain (form_of_file old) c x → IsSafe (form_of_file old) old.history
      → UnlessIo answer (IsSafe (form_of_file old) new.history)
  pub rose : IsTrue tells → (m : Map) (x : Own) → IsMember m x u old → IsPlain (form_of_file old) c x → OnIo answer (Rose old.faults new.faults)

-- The opener was given a command.
pub record Given (tells : Bool) (c : Command) (old new : OverFile) : Type 0 where
  pub busy : HasCommand new.world 1
  pub fresh : new.world.stale ≡ false
  pub memory : OnlyInMemory old new
  pub member : IsTrue tells → (m : Map) (x : Own) → IsMember m x None old → IsMember m x (Some (new_task c)) new

-- It wasn't: that comes only of a Start, by the count of transactions.
pub record NotGiven (tells : Bool) (c : Command) (old new : OverFile) : Type 0 where
  pub memory : OnlyInMemory old new
  pub member : IsTrue tells → (m : Map) (x : Own) → x.live ≡ true → IsMember m x None old → (c ≡ OnGroup Start) × IsMember m x None new
