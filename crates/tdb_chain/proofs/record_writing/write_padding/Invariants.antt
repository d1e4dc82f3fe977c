-- So many pieces of padding were written, one behind the other.
use Rattle.std.proofs.Common.{◌≡◌, ◌*◌, IsTrue, [], ◌∷◌, replicate}
use Rattle.tdb_disk.specs.Count.{RoseUpTo}
use Rattle.tdb_disk.specs.Image.{overlay}
use Rattle.tdb_words.specs.declared.record.TheConstants.{PADDING}
use Rattle.tdb_space.specs.Frame.{Wrote}
use Rattle.tdb_space.specs.SpareLeft.{LeavesRoom}
use Rattle.tdb_space.specs.Stays.{OnlyIn}
use Rattle.tdb_chain.specs.Reads.{write_reads}
use Rattle.tdb_chain.proofs.record_writing.write_padding.Given as goal

abbrev pub invariant-loop-i : goal.invariant-loop-i
invariant-loop-i g l = record {
  written : IsTrue g.S.Space.tells → g.S.Space.image l.s ≡ overlay (g.S.Space.image l.fn.s) l.at (replicate (4096 * l.i) PADDING);
  only : IsTrue g.S.Space.tells → OnlyIn ((l.at, 4096 * l.count) ∷ []) (g.S.Space.image l.fn.s) (g.S.Space.image l.s);
  size : g.S.Space.size l.s ≡ g.S.Space.size l.fn.s;
  wrote : Wrote g.S.Space l.fn.s l.s;
  faults : g.S.Space.faults l.s ≡ g.S.Space.faults l.fn.s;
  bytes_read : RoseUpTo (write_reads l.i (4096 * l.i)) (g.S.Space.bytes_read l.fn.s) (g.S.Space.bytes_read l.s);
  spare : LeavesRoom l.i (4096 * l.i) (g.S.Space.spare l.fn.s) (g.S.Space.spare l.s);
}
