-- The law names each thing of the code by one of its own, and so the other way round.
use Rattle.std.proofs.Common.{◌≡◌, ℕ, ◌+◌, ◌≤◌, List, refl, sym, ap, ◌∙◌, arith}
use Rattle.tdb_law.specs.Commands.{Command as LawCommand, MapCommand, LockCommand, GroupCommand, WalkCommand, Reply as LawReply, Turn as LawTurn}
use Rattle.tdb_law.specs.Plays.{Play as LawPlay}
use Rattle.tdb_law.specs.Lines.{Line as LawLine}
use Rattle.tdb_locks.specs.declared.turn.Reply.{Reply}
use Rattle.tdb_locks.specs.declared.turn.Turn.{Turn}
use Rattle.tdb_steps.specs.declared.flag.Flag.{Flag}
use Rattle.tdb_commands.specs.declared.command.Command.{Command}
use Rattle.tdb_commands.specs.declared.play.Play.{Play}
use Rattle.tdb_commands.specs.declared.line.Line.{Line}
use Rattle.tdb_commands.specs.InLaw.{law_opener, law_store, law_command, law_reply, law_turn, law_play, law_line}
use Rattle.tdb_commands.specs.Named.{IsNamedReply, IsNamedTurn, IsNamedPlay, IsNamedLine, EachCommand, EachReply, EachTurn, EachPlay, EachLine}

-- two things that are named alike are one, where each can be told from its name
told_apart : {Code Law : Type 0} (IsNamed : Code → Type 0) (in_law : Code → Law) (in_code : Law → Code) → ((thing : Code) → IsNamed thing → in_code (in_law thing) ≡ thing)
    → (thing other : Code) → IsNamed thing → IsNamed other → in_law thing ≡ in_law other → thing ≡ other
told_apart IsNamed in_law in_code back thing other named also e = sym (back thing named) ∙ ap in_code e ∙ back other also

-- the number of an opener of the law
number_back : (who : ℕ) → 1 ≤ who → law_opener who + 1 ≡ who
number_back who l = omega arith

opener_back : (who : ℕ) → law_opener (who + 1) ≡ who
opener_back who = omega arith

counted : (who : ℕ) → 1 ≤ who + 1
counted who = omega arith

abbrev code_command : LawCommand → Command
code_command (LawCommand.OnMap (MapCommand.Fetch key)) = Command.Fetch key
code_command (LawCommand.OnMap (MapCommand.Has key)) = Command.Has key
code_command (LawCommand.OnMap (MapCommand.Delete key)) = Command.Delete key
code_command (LawCommand.OnLocks (LockCommand.ChainLock key)) = Command.ChainLock key
code_command (LawCommand.OnLocks (LockCommand.ChainLockNb key)) = Command.ChainLockNb key
code_command (LawCommand.OnLocks (LockCommand.ChainUnlock key)) = Command.ChainUnlock key
code_command (LawCommand.OnMap (MapCommand.Store key value)) = Command.Store key value Flag.Replace
code_command (LawCommand.OnMap (MapCommand.Insert key value)) = Command.Store key value Flag.Insert
code_command (LawCommand.OnMap (MapCommand.Modify key value)) = Command.Store key value Flag.Modify
code_command (LawCommand.OnMap (MapCommand.Append key value)) = Command.Append key value
code_command (LawCommand.OnMap MapCommand.Wipe) = Command.Wipe
code_command (LawCommand.OnMap MapCommand.Check) = Command.Check
code_command (LawCommand.OnLocks LockCommand.LockAll) = Command.LockAll
code_command (LawCommand.OnLocks LockCommand.LockAllRead) = Command.LockAllRead
code_command (LawCommand.OnLocks LockCommand.UnlockAll) = Command.UnlockAll
code_command (LawCommand.OnGroup GroupCommand.Start) = Command.Start
code_command (LawCommand.OnGroup GroupCommand.Commit) = Command.Commit
code_command (LawCommand.OnGroup GroupCommand.Prepare) = Command.Prepare
code_command (LawCommand.OnGroup GroupCommand.Cancel) = Command.Cancel
code_command (LawCommand.OnWalk WalkCommand.First) = Command.First
code_command (LawCommand.OnWalk WalkCommand.Next) = Command.Next
code_command (LawCommand.OnWalk WalkCommand.EndWalk) = Command.EndWalk
code_command (LawCommand.OnWalk WalkCommand.Close) = Command.Close
code_command LawCommand.Seqnum = Command.Seqnum

command_law : (said : LawCommand) → law_command (code_command said) ≡ said
command_law (LawCommand.OnMap (MapCommand.Fetch key)) = refl
command_law (LawCommand.OnMap (MapCommand.Has key)) = refl
command_law (LawCommand.OnMap (MapCommand.Delete key)) = refl
command_law (LawCommand.OnLocks (LockCommand.ChainLock key)) = refl
command_law (LawCommand.OnLocks (LockCommand.ChainLockNb key)) = refl
command_law (LawCommand.OnLocks (LockCommand.ChainUnlock key)) = refl
command_law (LawCommand.OnMap (MapCommand.Store key value)) = refl
command_law (LawCommand.OnMap (MapCommand.Insert key value)) = refl
command_law (LawCommand.OnMap (MapCommand.Modify key value)) = refl
command_law (LawCommand.OnMap (MapCommand.Append key value)) = refl
command_law (LawCommand.OnMap MapCommand.Wipe) = refl
command_law (LawCommand.OnMap MapCommand.Check) = refl
command_law (LawCommand.OnLocks LockCommand.LockAll) = refl
command_law (LawCommand.OnLocks LockCommand.LockAllRead) = refl
command_law (LawCommand.OnLocks LockCommand.UnlockAll) = refl
command_law (LawCommand.OnGroup GroupCommand.Start) = refl
command_law (LawCommand.OnGroup GroupCommand.Commit) = refl
command_law (LawCommand.OnGroup GroupCommand.Prepare) = refl
command_law (LawCommand.OnGroup GroupCommand.Cancel) = refl
command_law (LawCommand.OnWalk WalkCommand.First) = refl
command_law (LawCommand.OnWalk WalkCommand.Next) = refl
command_law (LawCommand.OnWalk WalkCommand.EndWalk) = refl
command_law (LawCommand.OnWalk WalkCommand.Close) = refl
command_law LawCommand.Seqnum = refl

store_code : (flag : Flag) (key value : List ℕ) → code_command (law_store flag key value) ≡ Command.Store key value flag
store_code Flag.Replace key value = refl
store_code Flag.Insert key value = refl
store_code Flag.Modify key value = refl

command_code : (command : Command) → Unit {0} → code_command (law_command command) ≡ command
command_code (Command.Fetch key) named = refl
command_code (Command.Has key) named = refl
command_code (Command.Delete key) named = refl
command_code (Command.ChainLock key) named = refl
command_code (Command.ChainLockNb key) named = refl
command_code (Command.ChainUnlock key) named = refl
command_code (Command.Store key value flag) named = store_code flag key value
command_code (Command.Append key value) named = refl
command_code Command.Wipe named = refl
command_code Command.Check named = refl
command_code Command.LockAll named = refl
command_code Command.LockAllRead named = refl
command_code Command.UnlockAll named = refl
command_code Command.Start named = refl
command_code Command.Commit named = refl
command_code Command.Prepare named = refl
command_code Command.Cancel named = refl
command_code Command.First named = refl
command_code Command.Next named = refl
command_code Command.EndWalk named = refl
command_code Command.Close named = refl
command_code Command.Seqnum named = refl

pub each_command : EachCommand
each_command = record {
  each = λ said. (code_command said, tt, command_law said);
  one = told_apart _ law_command code_command command_code;
}

abbrev code_reply : LawReply → Reply
code_reply LawReply.Done = Reply.Ok
code_reply LawReply.End = Reply.End
code_reply LawReply.KeyMissing = Reply.KeyMissing
code_reply LawReply.KeyThere = Reply.KeyThere
code_reply LawReply.ReadOnly = Reply.ReadOnly
code_reply LawReply.NoTransaction = Reply.NoTransaction
code_reply LawReply.InTransaction = Reply.InTransaction
code_reply LawReply.Nesting = Reply.Nesting
code_reply LawReply.Doomed = Reply.Doomed
code_reply LawReply.NotLocked = Reply.NotLocked
code_reply LawReply.Memory = Reply.Memory
code_reply LawReply.Yes = Reply.Yes
code_reply LawReply.No = Reply.No
code_reply (LawReply.Value value) = Reply.Value value
code_reply (LawReply.Pair key value) = Reply.Pair key value
code_reply (LawReply.Busy owner byte) = Reply.Busy (owner + 1) byte
code_reply (LawReply.Full len need) = Reply.Full len need
code_reply (LawReply.HeldLocks count) = Reply.HeldLocks count
code_reply (LawReply.Number n) = Reply.Number n

code_reply_named : (said : LawReply) → IsNamedReply (code_reply said)
code_reply_named LawReply.Done = tt
code_reply_named LawReply.End = tt
code_reply_named LawReply.KeyMissing = tt
code_reply_named LawReply.KeyThere = tt
code_reply_named LawReply.ReadOnly = tt
code_reply_named LawReply.NoTransaction = tt
code_reply_named LawReply.InTransaction = tt
code_reply_named LawReply.Nesting = tt
code_reply_named LawReply.Doomed = tt
code_reply_named LawReply.NotLocked = tt
code_reply_named LawReply.Memory = tt
code_reply_named LawReply.Yes = tt
code_reply_named LawReply.No = tt
code_reply_named (LawReply.Value value) = tt
code_reply_named (LawReply.Pair key value) = tt
code_reply_named (LawReply.Busy owner byte) = counted owner
code_reply_named (LawReply.Full len need) = tt
code_reply_named (LawReply.HeldLocks count) = tt
code_reply_named (LawReply.Number n) = tt

reply_law : (said : LawReply) → law_reply (code_reply said) ≡ said
reply_law LawReply.Done = refl
reply_law LawReply.End = refl
reply_law LawReply.KeyMissing = refl
reply_law LawReply.KeyThere = refl
reply_law LawReply.ReadOnly = refl
reply_law LawReply.NoTransaction = refl
reply_law LawReply.InTransaction = refl
reply_law LawReply.Nesting = refl
reply_law LawReply.Doomed = refl
reply_law LawReply.NotLocked = refl
reply_law LawReply.Memory = refl
reply_law LawReply.Yes = refl
reply_law LawReply.No = refl
reply_law (LawReply.Value value) = refl
reply_law (LawReply.Pair key value) = refl
reply_law (LawReply.Busy owner byte) = ap (λ o. LawReply.Busy o byte) (opener_back owner)
reply_law (LawReply.Full len need) = refl
reply_law (LawReply.HeldLocks count) = refl
reply_law (LawReply.Number n) = refl

reply_code : (reply : Reply) → IsNamedReply reply → code_reply (law_reply reply) ≡ reply
reply_code Reply.Ok named = refl
reply_code Reply.End named = refl
reply_code Reply.KeyMissing named = refl
reply_code Reply.KeyThere named = refl
reply_code Reply.ReadOnly named = refl
reply_code Reply.NoTransaction named = refl
reply_code Reply.InTransaction named = refl
reply_code Reply.Nesting named = refl
reply_code Reply.Doomed named = refl
reply_code Reply.NotLocked named = refl
reply_code Reply.Memory named = refl
reply_code Reply.Yes named = refl
reply_code Reply.No named = refl
reply_code (Reply.Value value) named = refl
reply_code (Reply.Pair key value) named = refl
reply_code (Reply.Busy owner byte) named = ap (λ o. Reply.Busy o byte) (number_back owner named)
reply_code (Reply.Full len need) named = refl
reply_code (Reply.HeldLocks count) named = refl
reply_code (Reply.Number n) named = refl

pub each_reply : EachReply
each_reply = record {
  each = λ said. (code_reply said, code_reply_named said, reply_law said);
  one = told_apart IsNamedReply law_reply code_reply reply_code;
}

abbrev code_turn : LawTurn → Turn
code_turn LawTurn.Step = Turn.Step
code_turn (LawTurn.Blocked owner byte) = Turn.Blocked (owner + 1) byte
code_turn (LawTurn.Ends reply) = Turn.Done (code_reply reply)

code_turn_named : (said : LawTurn) → IsNamedTurn (code_turn said)
code_turn_named LawTurn.Step = tt
code_turn_named (LawTurn.Blocked owner byte) = counted owner
code_turn_named (LawTurn.Ends reply) = code_reply_named reply

turn_law : (said : LawTurn) → law_turn (code_turn said) ≡ said
turn_law LawTurn.Step = refl
turn_law (LawTurn.Blocked owner byte) = ap (λ o. LawTurn.Blocked o byte) (opener_back owner)
turn_law (LawTurn.Ends reply) = ap LawTurn.Ends (reply_law reply)

turn_code : (turn : Turn) → IsNamedTurn turn → code_turn (law_turn turn) ≡ turn
turn_code Turn.Step named = refl
turn_code (Turn.Blocked owner byte) named = ap (λ o. Turn.Blocked o byte) (number_back owner named)
turn_code (Turn.Done reply) named = ap Turn.Done (reply_code reply named)

pub each_turn : EachTurn
each_turn = record {
  each = λ said. (code_turn said, code_turn_named said, turn_law said);
  one = told_apart IsNamedTurn law_turn code_turn turn_code;
}

abbrev code_play : LawPlay → Play
code_play LawPlay.Join = Play.Join
code_play LawPlay.SetLog = Play.SetLog
code_play (LawPlay.Give who command) = Play.Give (who + 1) (code_command command)
code_play (LawPlay.Do who command) = Play.Do (who + 1) (code_command command)
code_play (LawPlay.TakeTurn who) = Play.Turn (who + 1)
code_play (LawPlay.Go who) = Play.Go (who + 1)
code_play (LawPlay.Die who) = Play.Die (who + 1)

code_play_named : (said : LawPlay) → IsNamedPlay (code_play said)
code_play_named LawPlay.Join = tt
code_play_named LawPlay.SetLog = tt
code_play_named (LawPlay.Give who command) = counted who
code_play_named (LawPlay.Do who command) = counted who
code_play_named (LawPlay.TakeTurn who) = counted who
code_play_named (LawPlay.Go who) = counted who
code_play_named (LawPlay.Die who) = counted who

play_law : (said : LawPlay) → law_play (code_play said) ≡ said
play_law LawPlay.Join = refl
play_law LawPlay.SetLog = refl
play_law (LawPlay.Give who command) = ap (λ o. LawPlay.Give o (law_command (code_command command))) (opener_back who) ∙ ap (LawPlay.Give who) (command_law command)
play_law (LawPlay.Do who command) = ap (λ o. LawPlay.Do o (law_command (code_command command))) (opener_back who) ∙ ap (LawPlay.Do who) (command_law command)
play_law (LawPlay.TakeTurn who) = ap LawPlay.TakeTurn (opener_back who)
play_law (LawPlay.Go who) = ap LawPlay.Go (opener_back who)
play_law (LawPlay.Die who) = ap LawPlay.Die (opener_back who)

play_code : (play : Play) → IsNamedPlay play → code_play (law_play play) ≡ play
play_code Play.Join named = refl
play_code Play.SetLog named = refl
play_code (Play.Give who command) named = ap (λ o. Play.Give o (code_command (law_command command))) (number_back who named) ∙ ap (Play.Give who) (command_code command tt)
play_code (Play.Do who command) named = ap (λ o. Play.Do o (code_command (law_command command))) (number_back who named) ∙ ap (Play.Do who) (command_code command tt)
play_code (Play.Turn who) named = ap Play.Turn (number_back who named)
play_code (Play.Go who) named = ap Play.Go (number_back who named)
play_code (Play.Die who) named = ap Play.Die (number_back who named)

pub each_play : EachPlay
each_play = record {
  each = λ said. (code_play said, code_play_named said, play_law said);
  one = told_apart IsNamedPlay law_play code_play play_code;
}

abbrev code_line : LawLine → Line
code_line (LawLine.Joined who) = Line.Joined (who + 1)
code_line (LawLine.JoinBlocked who) = Line.JoinBlocked (who + 1)
code_line (LawLine.Absent who) = Line.Absent (who + 1)
code_line (LawLine.Idle who) = Line.Idle (who + 1)
code_line (LawLine.Occupied who) = Line.Occupied (who + 1)
code_line (LawLine.Unfinished who) = Line.Unfinished (who + 1)
code_line (LawLine.Died who) = Line.Died (who + 1)
code_line LawLine.JoinMany = Line.JoinMany
code_line LawLine.JoinMemory = Line.JoinMemory
code_line (LawLine.LogsLeft count) = Line.LogsLeft count
code_line (LawLine.Grew one two) = Line.Grew one two
code_line (LawLine.Undone one two) = Line.Undone one two
code_line (LawLine.Took who command turn) = Line.Took (who + 1) (code_command command) (code_turn turn)

code_line_named : (said : LawLine) → IsNamedLine (code_line said)
code_line_named (LawLine.Joined who) = counted who
code_line_named (LawLine.JoinBlocked who) = counted who
code_line_named (LawLine.Absent who) = counted who
code_line_named (LawLine.Idle who) = counted who
code_line_named (LawLine.Occupied who) = counted who
code_line_named (LawLine.Unfinished who) = counted who
code_line_named (LawLine.Died who) = counted who
code_line_named LawLine.JoinMany = tt
code_line_named LawLine.JoinMemory = tt
code_line_named (LawLine.LogsLeft count) = tt
code_line_named (LawLine.Grew one two) = tt
code_line_named (LawLine.Undone one two) = tt
code_line_named (LawLine.Took who command turn) = (counted who, code_turn_named turn)

line_law : (said : LawLine) → law_line (code_line said) ≡ said
line_law (LawLine.Joined who) = ap LawLine.Joined (opener_back who)
line_law (LawLine.JoinBlocked who) = ap LawLine.JoinBlocked (opener_back who)
line_law (LawLine.Absent who) = ap LawLine.Absent (opener_back who)
line_law (LawLine.Idle who) = ap LawLine.Idle (opener_back who)
line_law (LawLine.Occupied who) = ap LawLine.Occupied (opener_back who)
line_law (LawLine.Unfinished who) = ap LawLine.Unfinished (opener_back who)
line_law (LawLine.Died who) = ap LawLine.Died (opener_back who)
line_law LawLine.JoinMany = refl
line_law LawLine.JoinMemory = refl
line_law (LawLine.LogsLeft count) = refl
line_law (LawLine.Grew one two) = refl
line_law (LawLine.Undone one two) = refl
line_law (LawLine.Took who command turn) =
    ap (λ o. LawLine.Took o (law_command (code_command command)) (law_turn (code_turn turn))) (opener_back who)
    ∙ ap (λ c. LawLine.Took who c (law_turn (code_turn turn))) (command_law command) ∙ ap (LawLine.Took who command) (turn_law turn)

line_code : (line : Line) → IsNamedLine line → code_line (law_line line) ≡ line
line_code (Line.Joined who) named = ap Line.Joined (number_back who named)
line_code (Line.JoinBlocked who) named = ap Line.JoinBlocked (number_back who named)
line_code (Line.Absent who) named = ap Line.Absent (number_back who named)
line_code (Line.Idle who) named = ap Line.Idle (number_back who named)
line_code (Line.Occupied who) named = ap Line.Occupied (number_back who named)
line_code (Line.Unfinished who) named = ap Line.Unfinished (number_back who named)
line_code (Line.Died who) named = ap Line.Died (number_back who named)
line_code Line.JoinMany named = refl
line_code Line.JoinMemory named = refl
line_code (Line.LogsLeft count) named = refl
line_code (Line.Grew one two) named = refl
line_code (Line.Undone one two) named = refl
line_code (Line.Took who command turn) named =
    ap (λ o. Line.Took o (code_command (law_command command)) (code_turn (law_turn turn))) (number_back who named.0)
    ∙ ap (λ c. Line.Took who c (code_turn (law_turn turn))) (command_code command tt) ∙ ap (Line.Took who command) (turn_code turn named.1)

pub each_line : EachLine
each_line = record {
  each = λ said. (code_line said, code_line_named said, line_law said);
  one = told_apart IsNamedLine law_line code_line line_code;
}
