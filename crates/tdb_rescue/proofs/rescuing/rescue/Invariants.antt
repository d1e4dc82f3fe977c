-- All pairs before the place were found, and their text was written up to what is still held.
use Rattle.std.proofs.Common.{◌≡◌, ◌-◌, ◌*◌, ◌≤◌, IsTrue}
use Rattle.tdb_space.specs.Frame.{Looked}
use Rattle.tdb_rescue.specs.Window.{Shows}
use Rattle.tdb_rescue.proofs.Progress.{Progress}
use Rattle.tdb_rescue.proofs.rescuing.rescue.Given as goal

abbrev pub invariant-loop-s : goal.invariant-loop-s
invariant-loop-s g l = record {
  shows : IsTrue g.S.Space.tells → Shows (g.S.Space.image l.fn.s) l.window;
  progress : IsTrue g.S.Space.tells → Progress (IsTrue g.K.Sink.tells) (g.S.Space.form l.fn.s) (g.S.Space.image l.fn.s) (g.K.Sink.written l.fn.out) (g.K.Sink.written l.out) l.text.items l.at l.count;
  few : 4 * l.count ≤ l.at;
  looked : Looked g.S.Space l.fn.s l.s;
  faults : g.S.Space.faults l.s ≡ g.S.Space.faults l.fn.s;
  sink_faults : g.K.Sink.faults l.out ≡ g.K.Sink.faults l.fn.out;
  bytes_read : g.S.Space.bytes_read l.fn.s ≤ g.S.Space.bytes_read l.s;
}

abbrev pub decreases-loop-s : goal.decreases-loop-s
decreases-loop-s g l = l.len - l.at
