-- The records so far stand one after the other, and each was put into its list.
use Rattle.std.proofs.Common.{◌-◌, ◌≡◌, ℕ, ◌+◌, ◌≤◌, List, [], IsTrue, length}
use Rattle.tdb_disk.specs.Count.{RoseUpTo}
use Rattle.tdb_space.specs.Form.{data_start}
use Rattle.tdb_space.specs.Frame.{Looked}
use Rattle.tdb_check.specs.Keys.{KeptIn}
use Rattle.tdb_check.specs.InSequence.{IsWindowOn, reach_of}
use Rattle.tdb_check.specs.Links.{PutDown, GatheredTo, count_of}
use Rattle.tdb_check.proofs.in_sequence.gather.Given as goal

abbrev pub decreases-loop-at : goal.decreases-loop-at
decreases-loop-at g l = l.len - l.at

abbrev pub invariant-loop-at : goal.invariant-loop-at
invariant-loop-at g l = record {
  gathered : IsTrue g.S.Space.tells → length (g.S.Space.image l.fn.s) ≡ l.len
      → PutDown (g.S.Space.form l.fn.s) (g.S.Space.image l.fn.s) [] l.fn.lists → KeptIn (g.S.Space.form l.fn.s) (g.S.Space.image l.fn.s) [] l.fn.keys
      → GatheredTo (g.S.Space.form l.fn.s) (g.S.Space.image l.fn.s) l.fn.undo l.left l.lists l.keys l.at;
  shows : IsTrue g.S.Space.tells → IsWindowOn (g.S.Space.image l.fn.s) l.window;
  above : data_start (g.S.Space.form l.fn.s) ≤ l.at;
  from : l.window.from ≤ l.at;
  start : data_start (g.S.Space.form l.fn.s) ≤ reach_of l.window;
  reach : reach_of l.window ≤ l.len;
  count : count_of l.lists ≤ l.at;
  bytes_read : RoseUpTo (reach_of l.window - data_start (g.S.Space.form l.fn.s)) (g.S.Space.bytes_read l.fn.s) (g.S.Space.bytes_read l.s);
  looked : Looked g.S.Space l.fn.s l.s;
  faults : g.S.Space.faults l.s ≡ g.S.Space.faults l.fn.s;
}
