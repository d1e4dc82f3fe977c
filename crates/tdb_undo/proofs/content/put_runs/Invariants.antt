-- The entries for the runs before one were put.
use Rattle.std.proofs.Common.{◌≡◌, ◌+◌, ◌≤◌, IsTrue, drop, length}
use Rattle.tdb_disk.specs.History.{seen}
use Rattle.tdb_disk.specs.Stop.{LeavesOnly}
use Rattle.tdb_space.specs.Opening.{lies_in}
use Rattle.tdb_undo.specs.Torn.{TornIn}
use Rattle.tdb_undo.specs.Content.{RunsFit}
use Rattle.tdb_undo.specs.Reads.{run_bytes}
use Rattle.tdb_undo.proofs.Puts.{Putting}
use Rattle.tdb_undo.proofs.content.put_runs.Given as goal

abbrev pub invariant-loop-i : goal.invariant-loop-i
invariant-loop-i g l = record {
  above : l.area.at + 24 ≤ l.place;
  within : l.place + 4 ≤ l.area.at + 24 + l.area.header.rec_len;
  stops : IsTrue g.D.Disk.tells → LeavesOnly (g.D.Disk.history l.fn.d) (g.D.Disk.history l.d) (TornIn (lies_in (l.area.at + 24) l.area.header.rec_len) (g.D.Disk.history l.fn.d));
  putting : IsTrue g.D.Disk.tells → RunsFit l.area (length (seen (g.D.Disk.history l.fn.d))) l.runs → Putting l.order l.area l.runs (drop l.i l.runs) (seen (g.D.Disk.history l.fn.d)) l.place (seen (g.D.Disk.history l.d));
  size : g.D.Disk.size l.d ≡ g.D.Disk.size l.fn.d;
  faults : g.D.Disk.faults l.d ≡ g.D.Disk.faults l.fn.d;
  syncs : g.D.Disk.syncs l.d ≡ g.D.Disk.syncs l.fn.d;
  rises : g.D.Disk.bytes_read l.fn.d ≤ g.D.Disk.bytes_read l.d;
  reads : g.D.Disk.bytes_read l.d + run_bytes (drop l.i l.runs) ≤ g.D.Disk.bytes_read l.fn.d + run_bytes l.runs;
}
