use Rattle.std.proofs.Common.{arith}
use Rattle.tdb_locks.proofs.Counting.{sum-bound}
use Rattle.tdb_locks.proofs.held.Held.raise_chain.Goals as goal

pub overflow_add-self : goal.overflow_add-self
overflow_add-self c = omega (arith, sum-bound c.self.inside.chains.entries c.self.invariant.0, c.self.invariant.1)
