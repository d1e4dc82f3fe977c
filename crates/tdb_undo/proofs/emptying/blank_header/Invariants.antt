-- So many words are 0.
use Rattle.std.proofs.Common.{◌≡◌, ◌*◌, IsTrue}
use Rattle.tdb_disk.specs.History.{seen}
use Rattle.tdb_disk.specs.Stop.{LeavesOnly, Quiet}
use Rattle.tdb_space.specs.Opening.{lies_in}
use Rattle.tdb_undo.specs.Torn.{Put}
use Rattle.tdb_undo.specs.Recovery.{HeaderTouched}
use Rattle.tdb_undo.proofs.emptying.blank_header.Given as goal

abbrev pub invariant-loop-k : goal.invariant-loop-k
invariant-loop-k g l = record {
  stops : IsTrue g.D.Disk.tells → Quiet (g.D.Disk.history l.fn.d) → LeavesOnly (g.D.Disk.history l.fn.d) (g.D.Disk.history l.d) (HeaderTouched l.fn.order l.at (seen (g.D.Disk.history l.fn.d)));
  put : IsTrue g.D.Disk.tells → Put (lies_in l.at (4 * l.k)) (λ _. 0) (seen (g.D.Disk.history l.fn.d)) (seen (g.D.Disk.history l.d));
  size : g.D.Disk.size l.d ≡ g.D.Disk.size l.fn.d;
  faults : g.D.Disk.faults l.d ≡ g.D.Disk.faults l.fn.d;
  syncs : g.D.Disk.syncs l.d ≡ g.D.Disk.syncs l.fn.d;
  bytes_read : g.D.Disk.bytes_read l.d ≡ g.D.Disk.bytes_read l.fn.d;
}
