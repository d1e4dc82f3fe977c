-- The marks of the records so far are counted.
use Rattle.std.proofs.Common.{◌≡◌, length}
use Rattle.tdb_check.proofs.Alike.{CountsFirst}
use Rattle.tdb_check.proofs.keys.mark_counts.Given as goal

abbrev pub invariant-loop-record : goal.invariant-loop-record
invariant-loop-record l = record {
  long : length l.counts.items ≡ l.places;
  counted : CountsFirst l.counts.items l.noted l.record-index;
}
