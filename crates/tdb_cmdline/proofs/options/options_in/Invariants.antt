-- The options so far, and those of the rows that are left.
use Rattle.std.proofs.Common.{◌≡◌, ◌++◌, ℕ, drop, map}
use Rattle.clap.specs.Matches.{ids_left}
use Rattle.clap.specs.Words.{found_of, rows_of}
use Rattle.tdb_cmdline.specs.Clap.{options_in}
use Rattle.tdb_cmdline.proofs.options.options_in.Given as goal

abbrev pub invariant-loop-id : goal.invariant-loop-id
invariant-loop-id l = (n : ℕ) × (ids_left l.id-iterator ≡ map (λ row. row.id) (drop n (rows_of (found_of l.fn.matches))))
    × (l.options ++ options_in l.fn.command (drop n (rows_of (found_of l.fn.matches))) ≡ options_in l.fn.command (rows_of (found_of l.fn.matches)))
