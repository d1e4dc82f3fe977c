use Rattle.std.proofs.Common.{◌≤◌}
use Rattle.bench.proofs.locks.run.Given as goal

abbrev pub invariant-loop-round : goal.invariant-loop-round
invariant-loop-round l = l.refused ≤ l.round
