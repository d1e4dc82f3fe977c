-- The numbers of which commands are made: a linear congruential sequence of 32 bits.
use Rattle.std.specs.Prelude.{ℕ, ◌+◌, ◌*◌, ◌%◌, ◌^◌, ◌≡◌}
use Rattle.std.specs.Fn.{iterate}
use Rattle.tdb_gen.specs.declared.generator.Generator.{Generator}

-- the number behind another
abbrev pub next_number : ℕ → ℕ
next_number x = (1664525 * x + 1013904223) % 2 ^ 32

-- the number of the command with this index, which is counted from 0: the seed is the number before the first
abbrev pub number_at : ℕ → ℕ → ℕ
number_at seed i = iterate next_number (i + 1) seed

-- a generator has made so many commands from a seed as its index says
abbrev pub IsFrom : ℕ → Generator → Type 0
IsFrom seed g = g.number ≡ iterate next_number g.index seed
