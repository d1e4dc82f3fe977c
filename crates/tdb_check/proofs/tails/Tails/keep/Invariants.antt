-- The records that are left lead to the end or to a known tail, and those behind them are kept.
use Rattle.std.proofs.Common.{◌≡◌, ℕ, List, ◌++◌, length}
use Rattle.tdb_space.specs.Form.{Form}
use Rattle.tdb_space.specs.Extents.{Extent as Held}
use Rattle.tdb_check.specs.declared.extent.Extent.{Extent}
use Rattle.tdb_check.specs.Tails.{AllKept, Closing}
use Rattle.tdb_check.proofs.tails.Tails.keep.Given as goal

abbrev pub invariant-loop-e : goal.invariant-loop-e
invariant-loop-e l = record {
  closing : (f : Form) (img : List ℕ) (seen : List Held) → Closing f img seen l.fn.self l.fn.dead.items l.fn.rest → Closing f img seen l.self l.dead.items l.least;
  kept : (done : List Extent) × (l.fn.dead.items ≡ l.dead.items ++ done) × AllKept l.self done;
}

abbrev pub decreases-loop-e : goal.decreases-loop-e
decreases-loop-e l = length l.dead.items
