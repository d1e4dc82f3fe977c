-- Why a call of a group breaks off, by what broke off in it.
use Rattle.std.specs.Prelude.{ℕ, Bool, true, false, Option, Some, Result, Ok, Err}
use Rattle.tdb_locks.specs.declared.turn.Reply.{Reply}
use Rattle.tdb_log.specs.declared.log.LogRefusal.{LogRefusal}
use Rattle.tdb_log.specs.declared.log.LogRefusal.TheVariants as Unheard
use Rattle.tdb_group.specs.declared.stop.FileStop.{FileStop}
use Rattle.tdb_group.specs.declared.stop.FileStop.TheVariants.{Refused, Io, LogFailed, Memory}
use Rattle.tdb_group.specs.declared.stop.GroupStop.{GroupStop}
use Rattle.tdb_group.specs.declared.stop.GroupStop.TheVariants as Stopped

abbrev pub of_log : LogRefusal → FileStop
of_log Unheard.Failed = LogFailed
of_log Unheard.Memory = Memory

-- a stop at the file with this number, and the number of the file of a stop
abbrev pub at_file : FileStop → ℕ → GroupStop
at_file (Refused reply) at = Stopped.Refused at reply
at_file Io at = Stopped.Io at
at_file LogFailed at = Stopped.LogFailed at
at_file Memory at = Stopped.Memory at

abbrev pub stop_at : GroupStop → ℕ
stop_at (Stopped.Refused at reply) = at
stop_at (Stopped.Io at) = at
stop_at (Stopped.LogFailed at) = at
stop_at (Stopped.Memory at) = at

-- a stop for want of room, or that at the file whose cancel failed
abbrev pub refused : GroupStop → Result (Unit {0}) ℕ → GroupStop
refused stop (Ok v) = stop
refused stop (Err at) = Stopped.Io at

-- a command was done, by its reply
abbrev pub was_done : Option Reply → Bool
was_done (Some Reply.Ok) = true
was_done reply = false

-- what a log answered, as an answer of a call on one file
abbrev pub log_answer : Result (Unit {0}) LogRefusal → Result (Unit {0}) FileStop → Result (Unit {0}) FileStop
log_answer (Ok v) rest = rest
log_answer (Err refusal) rest = Err (of_log refusal)

-- What a Prepare comes to, by its reply and by what the last log answered: where there was no room that it is; else why
-- the log refused; and for want of memory what isn't done.
abbrev pub prepare_answer : Option Reply → Result (Unit {0}) LogRefusal → Result (Unit {0}) FileStop
prepare_answer (Some (Reply.Full len need)) heard = Err (Refused (Reply.Full len need))
prepare_answer (Some Reply.Ok) heard = log_answer heard (Ok tt)
prepare_answer reply heard = log_answer heard (Err Memory)
