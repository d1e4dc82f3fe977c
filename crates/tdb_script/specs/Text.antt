-- The text of a report.
use Rattle.std.specs.Prelude.{ℕ, List, [], ◌∷◌, ◌++◌, codes, decimal}
use Rattle.std.specs.List.{flat_map}
use Rattle.tdb_locks.specs.declared.turn.Reply.{Reply}
use Rattle.tdb_locks.specs.declared.turn.Turn.{Turn}
use Rattle.tdb_dump.specs.Line.{data_line, pair_line}
use Rattle.tdb_commands.specs.declared.line.Line.{Line}

-- words with a space between them
abbrev pub spaced : List ℕ → List ℕ → List ℕ
spaced front rest = front ++ codes " " ++ rest

-- what a reply is printed as, in a report and by a command
abbrev pub reply_text : Reply → List ℕ
reply_text Reply.Ok = codes "ok"
reply_text (Reply.Value value) = data_line value
reply_text (Reply.Pair key value) = pair_line key value
reply_text Reply.End = codes "end"
reply_text Reply.KeyMissing = codes "noexist"
reply_text Reply.KeyThere = codes "exists"
reply_text (Reply.Busy owner byte) = spaced (codes "busy") (spaced (decimal owner) (decimal byte))
reply_text Reply.ReadOnly = codes "rdonly"
reply_text Reply.NoTransaction = codes "notransaction"
reply_text Reply.InTransaction = codes "intransaction"
reply_text Reply.Nesting = codes "nesting"
reply_text Reply.Doomed = codes "doomed"
reply_text (Reply.HeldLocks count) = spaced (codes "held") (decimal count)
reply_text Reply.NotLocked = codes "notlocked"
reply_text (Reply.Full len need) = spaced (codes "full") (spaced (decimal len) (decimal need))
reply_text Reply.Memory = codes "memory"
reply_text Reply.Yes = codes "yes"
reply_text Reply.No = codes "no"
reply_text (Reply.Number n) = spaced (codes "number") (decimal n)

-- what a turn led to
abbrev pub turn_text : Turn → List ℕ
turn_text Turn.Step = codes "step"
turn_text (Turn.Blocked owner byte) = spaced (codes "blocked") (spaced (decimal owner) (decimal byte))
turn_text (Turn.Done reply) = spaced (codes "done") (reply_text reply)

-- a line of a report, without its newline
abbrev pub line_text : Line → List ℕ
line_text (Line.Joined who) = spaced (decimal who) (codes "open")
line_text (Line.JoinBlocked owner) = spaced (codes "open blocked") (decimal owner)
line_text Line.JoinMany = codes "open many"
line_text Line.JoinMemory = codes "open memory"
line_text (Line.Took who command turn) = spaced (decimal who) (turn_text turn)
line_text (Line.Grew from to) = spaced (codes "grew") (spaced (decimal from) (decimal to))
line_text (Line.Absent who) = spaced (decimal who) (codes "absent")
line_text (Line.Idle who) = spaced (decimal who) (codes "idle")
line_text (Line.Occupied who) = spaced (decimal who) (codes "occupied")
line_text (Line.LogsLeft count) = spaced (codes "log") (decimal count)
line_text (Line.Unfinished who) = spaced (decimal who) (codes "unfinished")
line_text (Line.Died who) = spaced (decimal who) (codes "died")
line_text (Line.Undone bytes to) = spaced (codes "undone") (spaced (decimal bytes) (decimal to))

-- a line with its newline
abbrev pub printed_line : Line → List ℕ
printed_line line = line_text line ++ 10 ∷ []

-- the text of a report: its lines, in order
abbrev pub report_text : List Line → List ℕ
report_text lines = flat_map printed_line lines
