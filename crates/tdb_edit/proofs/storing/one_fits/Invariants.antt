-- None of the records before a place is long enough.
use Rattle.std.proofs.Common.{◌≡◌, drop}
use Rattle.tdb_free.specs.FreeList.{first_fit}
use Rattle.tdb_edit.proofs.storing.one_fits.Given as goal

abbrev pub invariant-loop-i : goal.invariant-loop-i
invariant-loop-i l = record {
  left : first_fit l.records l.rec_len ≡ first_fit (drop l.i l.records) l.rec_len;
}
