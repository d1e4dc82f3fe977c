-- Counts that rose one after the other.
use Rattle.std.proofs.Common.{ℕ, ◌+◌, ◌≤◌, arith}
use Rattle.tdb_disk.specs.Count.{RoseUpTo}

pub rose_then : (a b n x y z : ℕ) → RoseUpTo a x y → RoseUpTo b y z → a + b ≤ n → RoseUpTo n x z
rose_then a b n x y z p q h = record { no_more = omega (arith, p.no_more, q.no_more, h); never_falls = omega (arith, p.never_falls, q.never_falls) }

pub rose_within : (a n x y : ℕ) → RoseUpTo a x y → a ≤ n → RoseUpTo n x y
rose_within a n x y p h = record { no_more = omega (arith, p.no_more, h); never_falls = p.never_falls }
