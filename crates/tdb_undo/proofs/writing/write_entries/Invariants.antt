-- The entries before a place were written back.
use Rattle.std.proofs.Common.{◌≡◌, ◌+◌, ◌-◌, ◌≤◌, IsTrue, None}
use Rattle.tdb_disk.specs.Count.{RoseUpTo}
use Rattle.tdb_disk.specs.History.{seen}
use Rattle.tdb_disk.specs.Stop.{LeavesOnly}
use Rattle.tdb_space.specs.Opening.{entry_fault}
use Rattle.tdb_undo.specs.Torn.{TornIn}
use Rattle.tdb_undo.specs.Window.{Holds}
use Rattle.tdb_undo.specs.Entries.{entries_stop, entries_in, is_written}
use Rattle.tdb_undo.proofs.GivenBack.{Giving}
use Rattle.tdb_undo.proofs.writing.write_entries.Given as goal

abbrev pub invariant-loop-place : goal.invariant-loop-place
invariant-loop-place g l = record {
  above : l.area.at + 24 ≤ l.place;
  within : l.place ≤ l.end;
  short : l.window.len ≤ 4096;
  holds : IsTrue g.D.Disk.tells → entry_fault (entries_stop l.area) l.area.header.key_len (entries_in l.order (seen (g.D.Disk.history l.fn.d)) l.area) ≡ None
      → Holds l.window (seen (g.D.Disk.history l.fn.d));
  giving : IsTrue g.D.Disk.tells → entry_fault (entries_stop l.area) l.area.header.key_len (entries_in l.order (seen (g.D.Disk.history l.fn.d)) l.area) ≡ None
      → Giving l.order l.area (seen (g.D.Disk.history l.fn.d)) (l.area.at + 24) l.place (seen (g.D.Disk.history l.d));
  stops : IsTrue g.D.Disk.tells → entry_fault (entries_stop l.area) l.area.header.key_len (entries_in l.order (seen (g.D.Disk.history l.fn.d)) l.area) ≡ None
      → LeavesOnly (g.D.Disk.history l.fn.d) (g.D.Disk.history l.d) (TornIn (is_written l.area (entries_in l.order (seen (g.D.Disk.history l.fn.d)) l.area)) (g.D.Disk.history l.fn.d));
  size : g.D.Disk.size l.d ≡ g.D.Disk.size l.fn.d;
  faults : g.D.Disk.faults l.d ≡ g.D.Disk.faults l.fn.d;
  syncs : g.D.Disk.syncs l.d ≡ g.D.Disk.syncs l.fn.d;
  from : l.window.from ≤ l.place;
  ends : l.window.from + l.window.len ≤ l.end;
  reads : RoseUpTo (l.window.from + l.window.len - (l.area.at + 24) + (l.place - (l.area.at + 24))) (g.D.Disk.bytes_read l.fn.d) (g.D.Disk.bytes_read l.d);
}

abbrev pub decreases-loop-place : goal.decreases-loop-place
decreases-loop-place g l = l.end - l.place
