-- The lines are passed up to the first that tells an ending.
use Rattle.std.proofs.Common.{refl, sym, ◌∙◌, arith}
use Rattle.tdb_merge.proofs.Ended.{ending_found, ending_none, ending_passed}
use Rattle.tdb_merge.proofs.ending.ending_of.Goals as goal

pub loop-i-init : goal.loop-i-init
loop-i-init c = refl

pub loop-i-preserved : goal.loop-i-preserved
loop-i-preserved c =
    c.loop-i.invariant ∙ ending_passed c.args.report.now.lines c.loop-i.i c.in-Some.line.now c.in-Some.ensures.0 c.in-Some.ensures.1 (sym c.line_ending.ensures ∙ c.in_default-line_ending.is)

pub returns-in-Some-line_ending : goal.returns-in-Some-line_ending
returns-in-Some-line_ending c =
    sym (c.loop-i.invariant ∙ ending_found c.args.report.now.lines c.loop-i.i c.in-Some.line.now c.in-Some-line_ending.ending c.in-Some.ensures.0 c.in-Some.ensures.1 (sym c.line_ending.ensures ∙ c.in-Some-line_ending.is))

pub returns : goal.returns
returns c = sym (c.loop-i.invariant ∙ ending_none c.args.report.now.lines c.loop-i.i (let past = c.loop-i-test.false in let count = c.len-i-end.ensures in omega (arith, past, count)))
