-- So many bytes are zero, and a stop leaves them torn at most.
use Rattle.std.proofs.Common.{◌≡◌, ◌-◌, ◌≤◌, IsTrue}
use Rattle.tdb_disk.specs.History.{seen}
use Rattle.tdb_disk.specs.Stop.{LeavesOnly}
use Rattle.tdb_space.specs.Opening.{lies_in}
use Rattle.tdb_undo.specs.Torn.{TornIn, Put}
use Rattle.tdb_undo.proofs.pieces.zero_bytes.Given as goal

abbrev pub invariant-loop-done : goal.invariant-loop-done
invariant-loop-done g l = record {
  within : l.done ≤ l.count;
  stops : IsTrue g.D.Disk.tells → LeavesOnly (g.D.Disk.history l.fn.d) (g.D.Disk.history l.d) (TornIn (lies_in l.from l.count) (g.D.Disk.history l.fn.d));
  put : IsTrue g.D.Disk.tells → Put (lies_in l.from l.done) (λ _. 0) (seen (g.D.Disk.history l.fn.d)) (seen (g.D.Disk.history l.d));
  size : g.D.Disk.size l.d ≡ g.D.Disk.size l.fn.d;
  faults : g.D.Disk.faults l.d ≡ g.D.Disk.faults l.fn.d;
  syncs : g.D.Disk.syncs l.d ≡ g.D.Disk.syncs l.fn.d;
  bytes_read : g.D.Disk.bytes_read l.d ≡ g.D.Disk.bytes_read l.fn.d;
}

abbrev pub decreases-loop-done : goal.decreases-loop-done
decreases-loop-done g l = l.count - l.done
