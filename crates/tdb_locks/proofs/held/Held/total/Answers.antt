use Rattle.std.proofs.Common.{arith}
use Rattle.tdb_locks.proofs.Counting.{sum-bound}
use Rattle.tdb_locks.proofs.held.Held.total.Goals as goal

pub overflow_add-result : goal.overflow_add-result
overflow_add-result c = omega (arith, sum-bound c.self.inside.chains.entries c.self.invariant.0, c.self.invariant.1)
