-- The limits of scripts.
use Rattle.std.specs.Prelude.{◌≡◌}
use Rattle.tdb_script.specs.declared.limits.TheConstants.{LONGEST_SCRIPT, MOST_NUMBER}

-- A script has at most 2 ^ 24 bytes, and the number of an opener at most nine digits.
pub record AreLimits : Type 0 where
  pub script : LONGEST_SCRIPT ≡ 16777216
  pub number : MOST_NUMBER ≡ 999999999
