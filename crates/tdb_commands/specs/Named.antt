-- Plays and lines that name openers by their numbers, which begin at 1; and how the names of the law belong to those of
-- the code.
use Rattle.std.specs.Prelude.{◌≡◌, ◌≤◌}
use Rattle.tdb_locks.specs.declared.turn.Reply.{Reply}
use Rattle.tdb_locks.specs.declared.turn.Turn.{Turn}
use Rattle.tdb_commands.specs.declared.command.Command.{Command}
use Rattle.tdb_commands.specs.declared.play.Play.{Play}
use Rattle.tdb_commands.specs.declared.line.Line.{Line}
use Rattle.tdb_commands.specs.InLaw.{law_command, law_reply, law_turn, law_play, law_line}

-- a reply that names no opener but by a number from 1 on
abbrev pub IsNamedReply : Reply → Type 0
IsNamedReply (Reply.Busy owner byte) = 1 ≤ owner
IsNamedReply reply = Unit {0}

-- and so a turn
abbrev pub IsNamedTurn : Turn → Type 0
IsNamedTurn Turn.Step = Unit {0}
IsNamedTurn (Turn.Blocked owner byte) = 1 ≤ owner
IsNamedTurn (Turn.Done reply) = IsNamedReply reply

-- a play
abbrev pub IsNamedPlay : Play → Type 0
IsNamedPlay (Play.Give who command) = 1 ≤ who
IsNamedPlay (Play.Do who command) = 1 ≤ who
IsNamedPlay (Play.Turn who) = 1 ≤ who
IsNamedPlay (Play.Go who) = 1 ≤ who
IsNamedPlay (Play.Die who) = 1 ≤ who
IsNamedPlay play = Unit {0}

-- and a line
abbrev pub IsNamedLine : Line → Type 0
IsNamedLine (Line.Joined who) = 1 ≤ who
IsNamedLine (Line.JoinBlocked owner) = 1 ≤ owner
IsNamedLine (Line.Took who command turn) = (1 ≤ who) × IsNamedTurn turn
IsNamedLine (Line.Absent who) = 1 ≤ who
IsNamedLine (Line.Idle who) = 1 ≤ who
IsNamedLine (Line.Occupied who) = 1 ≤ who
IsNamedLine (Line.Unfinished who) = 1 ≤ who
IsNamedLine (Line.Died who) = 1 ≤ who
IsNamedLine line = Unit {0}

-- what the law says of a thing of the code is said of no other, and of each thing of the law some of the code is said
pub record IsOneForOne {Code Law : Type 0} (IsNamed : Code → Type 0) (in_law : Code → Law) : Type 0 where
  pub each : (said : Law) → (thing : Code) × IsNamed thing × (in_law thing ≡ said)
  pub one : (thing other : Code) → IsNamed thing → IsNamed other → in_law thing ≡ in_law other → thing ≡ other

-- any number of keys and values names a command
abbrev pub IsAny : Command → Type 0
IsAny command = Unit {0}

abbrev pub EachCommand : Type 0
EachCommand = IsOneForOne IsAny law_command

abbrev pub EachReply : Type 0
EachReply = IsOneForOne IsNamedReply law_reply

abbrev pub EachTurn : Type 0
EachTurn = IsOneForOne IsNamedTurn law_turn

abbrev pub EachPlay : Type 0
EachPlay = IsOneForOne IsNamedPlay law_play

abbrev pub EachLine : Type 0
EachLine = IsOneForOne IsNamedLine law_line
