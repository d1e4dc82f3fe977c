-- The heads up to an offset are 0, in whole blocks but for the last.
use Rattle.std.proofs.Common.{◌≡◌, ℕ, ◌+◌, ◌-◌, ◌*◌, ◌<◌, ◌≤◌, ◌⊎◌, IsTrue}
use Rattle.std.specs.Prelude.{◌/◌, ◌%◌, slice_index}
use Rattle.tdb_disk.specs.Count.{RoseUpTo}
use Rattle.tdb_disk.specs.Stop.{Torn}
use Rattle.tdb_space.specs.Frame.{Wrote}
use Rattle.tdb_space.specs.Form.{data_start, free_head}
use Rattle.tdb_space.specs.SpareLeft.{LeavesRoom}
use Rattle.tdb_chain.specs.Reads.{write_reads}
use Rattle.tdb_steps.proofs.wiping.zero_heads.Given as goal

abbrev pub invariant-loop-at : goal.invariant-loop-at
invariant-loop-at g l = record {
  low : 168 ≤ l.at;
  high : l.at ≤ data_start (g.S.Space.form l.fn.s);
  blocks : ((l.at - 168) % 4096 ≡ 0) ⊎ (l.at ≡ data_start (g.S.Space.form l.fn.s));
  zeros : IsTrue g.S.Space.tells → (i : ℕ) → free_head ≤ i → i < l.at → slice_index (g.S.Space.image l.s) i ≡ 0;
  only : IsTrue g.S.Space.tells → Torn free_head (4 * ((g.S.Space.form l.fn.s).chains + 1)) (g.S.Space.image l.fn.s) (g.S.Space.image l.s);
  size : g.S.Space.size l.s ≡ g.S.Space.size l.fn.s;
  wrote : Wrote g.S.Space l.fn.s l.s;
  faults : g.S.Space.faults l.s ≡ g.S.Space.faults l.fn.s;
  bytes_read : RoseUpTo (write_reads ((l.at - 168 + 4095) / 4096) (l.at - 168)) (g.S.Space.bytes_read l.fn.s) (g.S.Space.bytes_read l.s);
  spare : LeavesRoom ((l.at - 168 + 4095) / 4096) (l.at - 168) (g.S.Space.spare l.fn.s) (g.S.Space.spare l.s);
}

abbrev pub decreases-loop-at : goal.decreases-loop-at
decreases-loop-at g l = data_start (g.S.Space.form l.fn.s) - l.at
