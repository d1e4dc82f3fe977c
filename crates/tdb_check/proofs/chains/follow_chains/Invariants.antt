-- The chains of the blocks so far were followed.
use Rattle.std.proofs.Common.{◌≡◌, ◌+◌, ◌-◌, ◌*◌, ◌≤◌, IsTrue, length}
use Rattle.tdb_disk.specs.Count.{RoseUpTo}
use Rattle.tdb_check.specs.Reads.{chains_reads}
use Rattle.tdb_check.specs.Extent.{extents_seen}
use Rattle.tdb_check.specs.Tails.{TailsOf}
use Rattle.tdb_check.specs.Chains.{ChainsTo}
use Rattle.tdb_space.specs.Frame.{Looked}
use Rattle.tdb_check.proofs.chains.follow_chains.Given as goal

abbrev pub decreases-loop-first : goal.decreases-loop-first
decreases-loop-first g l = l.chains - l.first

abbrev pub invariant-loop-first : goal.invariant-loop-first
invariant-loop-first g l = record {
  followed : IsTrue g.S.Space.tells → length (g.S.Space.image l.fn.s) ≡ l.len
      → ChainsTo (g.S.Space.form l.fn.s) (g.S.Space.image l.fn.s) l.first l.fn.extents.items l.extents.items l.live
      × TailsOf (g.S.Space.form l.fn.s) (g.S.Space.image l.fn.s) (extents_seen l.extents.items) l.notes.tails;
  within : l.first ≤ l.chains;
  count : l.live + length l.fn.extents.items ≤ length l.extents.items;
  bytes_read : IsTrue g.S.Space.tells → length (g.S.Space.image l.fn.s) ≡ l.len
      → RoseUpTo (4 * l.first + chains_reads 1 (g.S.Space.form l.fn.s) (g.S.Space.image l.fn.s) 0 l.first) (g.S.Space.bytes_read l.fn.s) (g.S.Space.bytes_read l.s);
  chains : l.chains ≡ (g.S.Space.form l.fn.s).chains;
  looked : Looked g.S.Space l.fn.s l.s;
  faults : g.S.Space.faults l.s ≡ g.S.Space.faults l.fn.s;
}
