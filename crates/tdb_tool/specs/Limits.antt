-- The limits of sessions.
use Rattle.std.specs.Prelude.{◌≡◌}
use Rattle.tdb_tool.specs.declared.limits.TheConstants.{LONGEST_LINE, LONGEST_SESSION, MOST_MOVES}

-- A line of a session has at most 2 ^ 24 bytes, and its text 2 ^ 34. A list makes at most 2 ^ 28 moves.
pub record AreLimits : Type 0 where
  pub line : LONGEST_LINE ≡ 16777216
  pub text : LONGEST_SESSION ≡ 17179869184
  pub moves : MOST_MOVES ≡ 268435456
