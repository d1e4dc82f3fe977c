-- One run more was put.
use Rattle.std.proofs.Common.{arith}
use Rattle.std.proofs.lemmas.List.{length-drop}
use Rattle.tdb_dump.proofs.Runs.{run_put}
use Rattle.tdb_dump.proofs.escapes.push_all_escaped.Goals as goal

pub loop-done-preserved : goal.loop-done-preserved
loop-done-preserved c = record {
  within = omega (arith, c.in_ok-done.ensures.more.1, length-drop c.loop-done.done c.args.bytes.now, c.loop-done.invariant.within);
  put = run_put c.args.bytes.now c.args.text.now.items c.loop-done.text.items c.push_run.new.text.items c.loop-done.done c.in_ok-done.field-0 c.loop-done.invariant.put c.in_ok-done.ensures.text;
}
