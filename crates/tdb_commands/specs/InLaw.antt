-- The options, commands, plays and lines of the code in the words of the law of reports (`tdb_law`). Openers are
-- counted from 1 in the code, and from 0 in the law.
use Rattle.std.specs.Prelude.{ℕ, ◌-◌, List, map}
use Rattle.tdb_law.specs.Commands.{Command as LawCommand, MapCommand, LockCommand, GroupCommand, WalkCommand, Reply as LawReply, Turn as LawTurn}
use Rattle.tdb_law.specs.Openers.{Options as LawOptions}
use Rattle.tdb_law.specs.Plays.{Play as LawPlay}
use Rattle.tdb_law.specs.Lines.{Line as LawLine}
use Rattle.tdb_locks.specs.declared.turn.Reply.{Reply}
use Rattle.tdb_locks.specs.declared.turn.Turn.{Turn}
use Rattle.tdb_steps.specs.declared.flag.Flag.{Flag}
use Rattle.tdb_commands.specs.declared.options.Options.{Options}
use Rattle.tdb_commands.specs.declared.command.Command.{Command}
use Rattle.tdb_commands.specs.declared.play.Play.{Play}
use Rattle.tdb_commands.specs.declared.line.Line.{Line}

-- the opener of the law that the code names by this number
abbrev pub law_opener : ℕ → ℕ
law_opener who = who - 1

-- how a file is opened; the law has no limit of its length
abbrev pub options_of : Options → LawOptions
options_of o = record { nesting = o.nesting; read_only = o.read_only; seqnum = o.seqnum }

-- a store, by the keys that its flag takes
abbrev pub law_store : Flag → List ℕ → List ℕ → LawCommand
law_store Flag.Replace key value = LawCommand.OnMap (MapCommand.Store key value)
law_store Flag.Insert key value = LawCommand.OnMap (MapCommand.Insert key value)
law_store Flag.Modify key value = LawCommand.OnMap (MapCommand.Modify key value)

-- a command
abbrev pub law_command : Command → LawCommand
law_command (Command.Fetch key) = LawCommand.OnMap (MapCommand.Fetch key)
law_command (Command.Has key) = LawCommand.OnMap (MapCommand.Has key)
law_command (Command.Store key value flag) = law_store flag key value
law_command (Command.Append key value) = LawCommand.OnMap (MapCommand.Append key value)
law_command (Command.Delete key) = LawCommand.OnMap (MapCommand.Delete key)
law_command Command.Wipe = LawCommand.OnMap MapCommand.Wipe
law_command (Command.ChainLock key) = LawCommand.OnLocks (LockCommand.ChainLock key)
law_command (Command.ChainLockNb key) = LawCommand.OnLocks (LockCommand.ChainLockNb key)
law_command (Command.ChainUnlock key) = LawCommand.OnLocks (LockCommand.ChainUnlock key)
law_command Command.LockAll = LawCommand.OnLocks LockCommand.LockAll
law_command Command.LockAllRead = LawCommand.OnLocks LockCommand.LockAllRead
law_command Command.UnlockAll = LawCommand.OnLocks LockCommand.UnlockAll
law_command Command.Start = LawCommand.OnGroup GroupCommand.Start
law_command Command.Commit = LawCommand.OnGroup GroupCommand.Commit
law_command Command.Prepare = LawCommand.OnGroup GroupCommand.Prepare
law_command Command.Cancel = LawCommand.OnGroup GroupCommand.Cancel
law_command Command.First = LawCommand.OnWalk WalkCommand.First
law_command Command.Next = LawCommand.OnWalk WalkCommand.Next
law_command Command.EndWalk = LawCommand.OnWalk WalkCommand.EndWalk
law_command Command.Check = LawCommand.OnMap MapCommand.Check
law_command Command.Seqnum = LawCommand.Seqnum
law_command Command.Close = LawCommand.OnWalk WalkCommand.Close

-- a reply
abbrev pub law_reply : Reply → LawReply
law_reply Reply.Ok = LawReply.Done
law_reply (Reply.Value value) = LawReply.Value value
law_reply (Reply.Pair key value) = LawReply.Pair key value
law_reply Reply.End = LawReply.End
law_reply Reply.KeyMissing = LawReply.KeyMissing
law_reply Reply.KeyThere = LawReply.KeyThere
law_reply (Reply.Busy owner byte) = LawReply.Busy (law_opener owner) byte
law_reply Reply.ReadOnly = LawReply.ReadOnly
law_reply Reply.NoTransaction = LawReply.NoTransaction
law_reply Reply.InTransaction = LawReply.InTransaction
law_reply Reply.Nesting = LawReply.Nesting
law_reply Reply.Doomed = LawReply.Doomed
law_reply (Reply.HeldLocks count) = LawReply.HeldLocks count
law_reply Reply.NotLocked = LawReply.NotLocked
law_reply (Reply.Full len need) = LawReply.Full len need
law_reply Reply.Memory = LawReply.Memory
law_reply Reply.Yes = LawReply.Yes
law_reply Reply.No = LawReply.No
law_reply (Reply.Number n) = LawReply.Number n

-- what a turn led to
abbrev pub law_turn : Turn → LawTurn
law_turn Turn.Step = LawTurn.Step
law_turn (Turn.Blocked owner byte) = LawTurn.Blocked (law_opener owner) byte
law_turn (Turn.Done reply) = LawTurn.Ends (law_reply reply)

-- a play
abbrev pub law_play : Play → LawPlay
law_play Play.Join = LawPlay.Join
law_play (Play.Give who command) = LawPlay.Give (law_opener who) (law_command command)
law_play (Play.Do who command) = LawPlay.Do (law_opener who) (law_command command)
law_play (Play.Turn who) = LawPlay.TakeTurn (law_opener who)
law_play (Play.Go who) = LawPlay.Go (law_opener who)
law_play Play.SetLog = LawPlay.SetLog
law_play (Play.Die who) = LawPlay.Die (law_opener who)

-- a line
abbrev pub law_line : Line → LawLine
law_line (Line.Joined who) = LawLine.Joined (law_opener who)
law_line (Line.JoinBlocked owner) = LawLine.JoinBlocked (law_opener owner)
law_line Line.JoinMany = LawLine.JoinMany
law_line Line.JoinMemory = LawLine.JoinMemory
law_line (Line.Took who command turn) = LawLine.Took (law_opener who) (law_command command) (law_turn turn)
law_line (Line.Grew from to) = LawLine.Grew from to
law_line (Line.Absent who) = LawLine.Absent (law_opener who)
law_line (Line.Idle who) = LawLine.Idle (law_opener who)
law_line (Line.Occupied who) = LawLine.Occupied (law_opener who)
law_line (Line.LogsLeft count) = LawLine.LogsLeft count
law_line (Line.Unfinished who) = LawLine.Unfinished (law_opener who)
law_line (Line.Died who) = LawLine.Died (law_opener who)
law_line (Line.Undone bytes to) = LawLine.Undone bytes to

-- a list of plays, and a report
abbrev pub law_plays : List Play → List LawPlay
law_plays plays = map law_play plays

abbrev pub law_lines : List Line → List LawLine
law_lines lines = map law_line lines
