-- What contracts see of a report.
use Rattle.std.specs.Prelude.{ℕ, List}
use Rattle.tdb_commands.specs.declared.line.Line.{Line}

-- its lines, in order, and for how many lines more there is room, which then take no memory
pub record Report : Type 0 where
  pub lines : List Line
  pub room : ℕ
