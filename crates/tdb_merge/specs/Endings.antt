-- How a command ended, by the report of its play.
use Rattle.std.specs.Prelude.{List, [], ◌∷◌, Option, None, Some, Result, Ok, Err}
use Rattle.tdb_locks.specs.declared.turn.Reply.{Reply}
use Rattle.tdb_locks.specs.declared.turn.Turn.{Turn}
use Rattle.tdb_commands.specs.declared.line.Line.{Line}
use Rattle.tdb_merge.specs.declared.fault.MergeFault.{MergeFault}
use Rattle.tdb_merge.specs.declared.fault.MergeFault.TheVariants.{Full, Starved, Memory}

-- how a command ends: it is done, or why not
abbrev pub Ending : Type 0
Ending = Result (Unit {0}) MergeFault

-- by the reply with which a turn ends; and by the turn that a line tells, where it ends
abbrev pub reply_ending : Reply → Ending
reply_ending Reply.Ok = Ok tt
reply_ending (Reply.Full len need) = Err (Full len need)
reply_ending Reply.Memory = Err Starved
reply_ending reply = Err Memory

abbrev pub turn_ending : Turn → Option Ending
turn_ending (Turn.Done reply) = Some (reply_ending reply)
turn_ending turn = None

abbrev pub line_ending : Line → Option Ending
line_ending (Line.Took who command turn) = turn_ending turn
line_ending line = None

-- the first that lines tell. Nothing but memory may be wanting where none is told, or by any other reply.
abbrev pub ending_or : Option Ending → Ending → Ending
ending_or None rest = rest
ending_or (Some ending) rest = ending

abbrev pub ending_of : List Line → Ending
ending_of [] = Err Memory
ending_of (line ∷ lines) = ending_or (line_ending line) (ending_of lines)
