-- The counts of an opener's explicit locks in the words of the law of reports (`tdb_law`).
use Rattle.std.specs.Prelude.{ℕ, ◌+◌, ◌*◌, List, [], ◌∷◌, nat_lt, if◌then◌else◌}
use Rattle.std.specs.FinMap.{empty, insert}
use Rattle.tdb_law.specs.Openers.{Counts}

-- how many times each chain is locked explicitly, by the lock byte of the chain; a chain that isn't locked has no entry
abbrev pub counts_of : List (ℕ × ℕ) → Counts
counts_of [] = empty
counts_of (e ∷ es) = if nat_lt 0 e.1 then insert (counts_of es) (168 + 4 * e.0) e.1 else counts_of es
