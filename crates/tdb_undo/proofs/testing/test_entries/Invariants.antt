-- The entries before a place have no fault.
use Rattle.std.proofs.Common.{◌≡◌, ◌+◌, ◌-◌, ◌≤◌, IsTrue}
use Rattle.tdb_disk.specs.Count.{RoseUpTo}
use Rattle.tdb_disk.specs.History.{seen}
use Rattle.tdb_undo.specs.Window.{Holds}
use Rattle.tdb_undo.proofs.Rest.{Tested}
use Rattle.tdb_undo.proofs.testing.test_entries.Given as goal

abbrev pub invariant-loop-place : goal.invariant-loop-place
invariant-loop-place g l = record {
  above : l.area.at + 24 ≤ l.place;
  within : l.place ≤ l.end;
  fits : l.total ≤ l.place;
  short : l.window.len ≤ 4096;
  holds : IsTrue g.D.Disk.tells → Holds l.window (seen (g.D.Disk.history l.fn.d));
  tested : IsTrue g.D.Disk.tells → Tested l.order (seen (g.D.Disk.history l.fn.d)) l.start l.end l.area.header.key_len l.place l.total l.fn.front l.front;
  still : g.D.Disk.history l.d ≡ g.D.Disk.history l.fn.d;
  size : g.D.Disk.size l.d ≡ g.D.Disk.size l.fn.d;
  faults : g.D.Disk.faults l.d ≡ g.D.Disk.faults l.fn.d;
  syncs : g.D.Disk.syncs l.d ≡ g.D.Disk.syncs l.fn.d;
  from : l.window.from ≤ l.place;
  ends : l.window.from + l.window.len ≤ l.end;
  reads : RoseUpTo (l.window.from + l.window.len - l.start + (l.place - l.start)) (g.D.Disk.bytes_read l.fn.d) (g.D.Disk.bytes_read l.d);
}

abbrev pub decreases-loop-place : goal.decreases-loop-place
decreases-loop-place g l = l.end - l.place
