-- The bytes before one were written.
use Rattle.std.proofs.Common.{◌≡◌, IsTrue}
use Rattle.std.specs.Prelude.{slice_index, ◌&&◌, nat_lt}
use Rattle.tdb_disk.specs.History.{seen}
use Rattle.tdb_disk.specs.Stop.{LeavesOnly}
use Rattle.tdb_undo.specs.Torn.{TornIn, Put}
use Rattle.tdb_undo.specs.Front.{differs}
use Rattle.tdb_undo.proofs.front.write_front.Given as goal

abbrev pub invariant-loop-i : goal.invariant-loop-i
invariant-loop-i g l = record {
  stops : IsTrue g.D.Disk.tells → LeavesOnly (g.D.Disk.history l.fn.d) (g.D.Disk.history l.d) (TornIn (differs l.before l.after) (g.D.Disk.history l.fn.d));
  put : IsTrue g.D.Disk.tells → Put (λ k. differs l.before l.after k && nat_lt k l.i) (slice_index l.after) (seen (g.D.Disk.history l.fn.d)) (seen (g.D.Disk.history l.d));
  size : g.D.Disk.size l.d ≡ g.D.Disk.size l.fn.d;
  faults : g.D.Disk.faults l.d ≡ g.D.Disk.faults l.fn.d;
  syncs : g.D.Disk.syncs l.d ≡ g.D.Disk.syncs l.fn.d;
  bytes_read : g.D.Disk.bytes_read l.d ≡ g.D.Disk.bytes_read l.fn.d;
}
