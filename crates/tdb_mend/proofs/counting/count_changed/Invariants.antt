-- The bytes up to an offset were compared; the file and the disk are as they were.
use Rattle.std.proofs.Common.{◌≡◌, ◌-◌, ◌≤◌, IsTrue, count_by, drop, not}
use Rattle.std.specs.Prelude.{◌==◌, slice_index}
use Rattle.std.specs.List.{range_with_len}
use Rattle.tdb_disk.specs.History.{seen}
use Rattle.tdb_space.specs.DiskState.{disk_state}
use Rattle.tdb_mend.specs.View.{mended_view, SameFile}
use Rattle.tdb_mend.proofs.counting.count_changed.Given as goal

abbrev pub invariant-loop-at : goal.invariant-loop-at
invariant-loop-at g l = record {
  within : l.at ≤ l.len;
  most : l.changed ≤ l.at;
  count : IsTrue g.D.Disk.tells → l.changed ≡ count_by (λ i. not (slice_index (drop l.fn.file.start (seen (g.D.Disk.history l.fn.d))) i == slice_index (mended_view l.fn.file (seen (g.D.Disk.history l.fn.d))) i)) (range_with_len 0 l.at);
  same : SameFile (seen (g.D.Disk.history l.fn.d)) l.fn.file l.file;
  disk : disk_state (g.D.Disk.history l.d) (g.D.Disk.size l.d) (g.D.Disk.syncs l.d) ≡ disk_state (g.D.Disk.history l.fn.d) (g.D.Disk.size l.fn.d) (g.D.Disk.syncs l.fn.d);
  faults : g.D.Disk.faults l.d ≡ g.D.Disk.faults l.fn.d;
}

abbrev pub decreases-loop-at : goal.decreases-loop-at
decreases-loop-at g l = l.len - l.at
