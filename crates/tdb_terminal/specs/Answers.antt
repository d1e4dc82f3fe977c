-- What becomes of a line that a person typed.
use Rattle.std.specs.Prelude.{ℕ, List}
use Rattle.tdb_script.specs.Lines.{words_of}
use Rattle.tdb_tool.specs.declared.order.Order.{Order}
use Rattle.tdb_tool.specs.Orders.{IsOrder, IsNoOrder}
use Rattle.tdb_terminal.specs.declared.answer.Answer.{Answer}
use Rattle.tdb_terminal.specs.declared.answer.Answer.TheVariants.{Command, Short, Help, Miswritten, Unknown}

-- a line is a command of a session
abbrev pub IsCommand : List ℕ → Type 0
IsCommand line = (order : Order) × IsOrder (words_of line) order

-- it is none
abbrev pub IsNoCommand : List ℕ → Type 0
IsNoCommand line = IsNoOrder (words_of line)

-- a line that is a command is handed on as it is, in the place of another a command, or nothing
abbrev pub Answers : List ℕ → Answer → Type 0
Answers line Command = IsCommand line
Answers line (Short text) = IsNoCommand line × IsCommand text.now
Answers line Help = IsNoCommand line
Answers line (Miswritten usage) = IsNoCommand line
Answers line (Unknown nearest) = IsNoCommand line
