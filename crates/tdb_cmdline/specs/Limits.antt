-- The limits of words and of new files.
use Rattle.std.specs.Prelude.{◌≡◌}
use Rattle.tdb_cmdline.specs.declared.limits.TheConstants.{LONGEST_WORD, LONGEST_NUMBER, DEFAULT_SIZE, MOST_CHAINS}

-- A word of the command line has at most 2 ^ 24 bytes, a number there at most ten digits. A new file has 131 chains
-- (`DEFAULT_HASH_SIZE` of the stock library) where none are asked for, at most 2 ^ 20.
pub record AreLimits : Type 0 where
  pub word : LONGEST_WORD ≡ 16777216
  pub digits : LONGEST_NUMBER ≡ 10
  pub default : DEFAULT_SIZE ≡ 131
  pub most : MOST_CHAINS ≡ 1048576
