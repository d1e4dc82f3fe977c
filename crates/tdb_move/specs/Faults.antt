-- Why a key isn't moved, by what broke off.
use Rattle.std.specs.Prelude.{Result, Ok, Err}
use Rattle.tdb_locks.specs.declared.turn.Reply.{Reply}
use Rattle.tdb_locks.specs.declared.turn.Reply.TheVariants as Replied
use Rattle.tdb_group.specs.declared.stop.GroupStop.{GroupStop}
use Rattle.tdb_group.specs.declared.stop.GroupStop.TheVariants as Stopped
use Rattle.tdb_move.specs.declared.fault.MoveFault.{MoveFault}
use Rattle.tdb_move.specs.declared.fault.MoveFault.TheVariants.{Device, Full, Log, Memory}

-- by the reply of a Prepare, which is `Full`
abbrev pub of_reply : Reply → MoveFault
of_reply (Replied.Full len need) = Full len need
of_reply reply = Memory

abbrev pub of_stop : GroupStop → MoveFault
of_stop (Stopped.Refused at reply) = of_reply reply
of_stop (Stopped.Io at) = Device
of_stop (Stopped.LogFailed at) = Log
of_stop (Stopped.Memory at) = Memory

-- what holds unless a disk failed, and what holds where one did
abbrev pub UnlessDevice : {V : Type 0} → Result V MoveFault → Type 0 → Type 0
UnlessDevice (Err Device) p = Unit {0}
UnlessDevice answer p = p

abbrev pub OnDevice : {V : Type 0} → Result V MoveFault → Type 0 → Type 0
OnDevice (Err Device) p = p
OnDevice answer p = Unit {0}

-- by the reply of a command that changes a file
abbrev pub done_by : Reply → Result (Unit {0}) MoveFault
done_by Replied.Ok = Ok tt
done_by (Replied.Full len need) = Err (Full len need)
done_by reply = Err Memory
