-- The records so far were passed and noted, and their extents put at the end.
use Rattle.std.proofs.Common.{◌≡◌, ◌+◌, ◌-◌, ◌≤◌, IsTrue, length}
use Rattle.std.specs.Prelude.{◌/◌, sum_by}
use Rattle.tdb_space.specs.Form.{free_head}
use Rattle.tdb_space.specs.FirstFault.{free_list}
use Rattle.tdb_check.specs.Trail.{met}
use Rattle.tdb_space.specs.Chain.{offsets, free_of}
use Rattle.tdb_check.specs.Reads.{record_reads}
use Rattle.tdb_space.specs.Frame.{Looked}
use Rattle.tdb_check.proofs.Following.{Following}
use Rattle.tdb_check.proofs.free_list.follow_free_list.Given as goal

abbrev pub invariant-loop-turn : goal.invariant-loop-turn
invariant-loop-turn g l = record {
  followed : IsTrue g.S.Space.tells → length (g.S.Space.image l.fn.s) ≡ l.len
      → Following (g.S.Space.form l.fn.s) free_list (g.S.Space.image l.fn.s) free_head (met l.met) l.fn.extents.items l.extents.items l._turn l.place l.at;
  reads : IsTrue g.S.Space.tells → length (g.S.Space.image l.fn.s) ≡ l.len
      → g.S.Space.bytes_read l.s + sum_by (record_reads (g.S.Space.form l.fn.s) (g.S.Space.image l.fn.s)) (offsets (g.S.Space.form l.fn.s).order (g.S.Space.image l.fn.s) (length (g.S.Space.image l.fn.s) / 4 - l._turn) l.at)
      ≤ g.S.Space.bytes_read l.fn.s + (4 + sum_by (record_reads (g.S.Space.form l.fn.s) (g.S.Space.image l.fn.s)) (free_of (g.S.Space.form l.fn.s) (g.S.Space.image l.fn.s)));
  never_falls : IsTrue g.S.Space.tells → length (g.S.Space.image l.fn.s) ≡ l.len → g.S.Space.bytes_read l.fn.s ≤ g.S.Space.bytes_read l.s;
  looked : Looked g.S.Space l.fn.s l.s;
  faults : g.S.Space.faults l.s ≡ g.S.Space.faults l.fn.s;
}
