-- The chains of the block so far were followed.
use Rattle.std.proofs.Common.{◌≡◌, ◌+◌, ◌*◌, ◌≤◌, ℕ, List, IsTrue, length, take, drop}
use Rattle.tdb_disk.specs.Count.{RoseUpTo}
use Rattle.tdb_space.specs.Form.{chain_head}
use Rattle.tdb_check.specs.declared.extent.Extent.{Extent}
use Rattle.tdb_check.specs.Extent.{extents_seen}
use Rattle.tdb_check.specs.Tails.{TailsOf}
use Rattle.tdb_check.specs.Chains.{ChainsTo}
use Rattle.tdb_check.specs.Reads.{chains_reads}
use Rattle.tdb_space.specs.Frame.{Looked}
use Rattle.tdb_check.proofs.chains.follow_block.Given as goal

abbrev pub invariant-loop-i : goal.invariant-loop-i
invariant-loop-i g l = record {
  followed : IsTrue g.S.Space.tells → length (g.S.Space.image l.fn.s) ≡ l.len → l.heads ≡ take (4 * l.count) (drop (chain_head l.first) (g.S.Space.image l.fn.s))
      → (before : List Extent) (n : ℕ) → ChainsTo (g.S.Space.form l.fn.s) (g.S.Space.image l.fn.s) l.first before l.fn.extents.items n
      → TailsOf (g.S.Space.form l.fn.s) (g.S.Space.image l.fn.s) (extents_seen l.fn.extents.items) l.fn.notes.tails
      → ChainsTo (g.S.Space.form l.fn.s) (g.S.Space.image l.fn.s) (l.first + l.i) before l.extents.items (n + l.live)
      × TailsOf (g.S.Space.form l.fn.s) (g.S.Space.image l.fn.s) (extents_seen l.extents.items) l.notes.tails;
  count : l.live + length l.fn.extents.items ≤ length l.extents.items;
  bytes_read : IsTrue g.S.Space.tells → length (g.S.Space.image l.fn.s) ≡ l.len → l.heads ≡ take (4 * l.count) (drop (chain_head l.first) (g.S.Space.image l.fn.s))
      → RoseUpTo (chains_reads 1 (g.S.Space.form l.fn.s) (g.S.Space.image l.fn.s) l.first l.i) (g.S.Space.bytes_read l.fn.s) (g.S.Space.bytes_read l.s);
  looked : Looked g.S.Space l.fn.s l.s;
  faults : g.S.Space.faults l.s ≡ g.S.Space.faults l.fn.s;
}
