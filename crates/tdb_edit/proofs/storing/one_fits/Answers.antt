-- A record that is long enough is the first such; else it is passed; and none is left at the end.
use Rattle.std.proofs.Common.{sym, ◌∙◌, ap, arith}
use Rattle.std.specs.Prelude.{is_some}
use Rattle.std.proofs.Math.ListN.{drop_of_length-le}
use Rattle.tdb_free.specs.FreeList.{first_fit}
use Rattle.tdb_edit.proofs.Fits.{fit_found, fit_passed}
use Rattle.tdb_edit.proofs.storing.one_fits.Goals as goal

pub returns-then-rec_len-from : goal.returns-then-rec_len-from
returns-then-rec_len-from c = fit_found c.args.rec_len c.args.records.now c.loop-i.i (c.in-Some.field-0-0, c.in-Some.len) c.in-Some.ensures.0 c.in-Some.ensures.1 c.loop-i.invariant.left (omega (arith, c.if-rec_len-from.true, c.from.ensures))

pub loop-i-preserved : goal.loop-i-preserved
loop-i-preserved c = record {
  left = fit_passed c.args.rec_len c.args.records.now c.loop-i.i (c.in-Some.field-0-0, c.in-Some.len) c.in-Some.ensures.0 c.in-Some.ensures.1 c.loop-i.invariant.left (omega (arith, c.if-rec_len-from.false, c.from.ensures));
}

pub returns : goal.returns
returns c = sym (ap is_some (c.loop-i.invariant.left ∙ ap (λ l. first_fit l c.args.rec_len) (drop_of_length-le c.args.records.now (omega (arith, c.loop-i-test.false, c.len-i-end.ensures)))))
