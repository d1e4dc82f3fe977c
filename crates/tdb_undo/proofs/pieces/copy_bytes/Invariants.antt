-- So many bytes were copied, and a stop leaves the target torn at most.
use Rattle.std.proofs.Common.{◌≡◌, ◌+◌, ◌-◌, ◌≤◌, IsTrue}
use Rattle.std.specs.Prelude.{slice_index}
use Rattle.tdb_disk.specs.Count.{RoseUpTo}
use Rattle.tdb_disk.specs.History.{seen}
use Rattle.tdb_disk.specs.Stop.{LeavesOnly}
use Rattle.tdb_space.specs.Opening.{lies_in}
use Rattle.tdb_undo.specs.Torn.{TornIn, Put}
use Rattle.tdb_undo.proofs.pieces.copy_bytes.Given as goal

abbrev pub invariant-loop-done : goal.invariant-loop-done
invariant-loop-done g l = record {
  within : l.done ≤ l.count;
  stops : IsTrue g.D.Disk.tells → LeavesOnly (g.D.Disk.history l.fn.d) (g.D.Disk.history l.d) (TornIn (lies_in l.to l.count) (g.D.Disk.history l.fn.d));
  put : IsTrue g.D.Disk.tells → Put (lies_in l.to l.done) (λ i. slice_index (seen (g.D.Disk.history l.fn.d)) (l.from + (i - l.to))) (seen (g.D.Disk.history l.fn.d)) (seen (g.D.Disk.history l.d));
  size : g.D.Disk.size l.d ≡ g.D.Disk.size l.fn.d;
  faults : g.D.Disk.faults l.d ≡ g.D.Disk.faults l.fn.d;
  syncs : g.D.Disk.syncs l.d ≡ g.D.Disk.syncs l.fn.d;
  bytes_read : RoseUpTo l.done (g.D.Disk.bytes_read l.fn.d) (g.D.Disk.bytes_read l.d);
}

abbrev pub decreases-loop-done : goal.decreases-loop-done
decreases-loop-done g l = l.count - l.done
