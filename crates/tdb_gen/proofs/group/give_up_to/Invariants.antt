-- The commands up to an index were given.
use Rattle.std.proofs.Common.{◌≡◌, ◌-◌, ◌≤◌, ℕ, false, Ok}
use Rattle.tdb_gen.specs.Numbers.{IsFrom}
use Rattle.tdb_gen.specs.Plays.{gifts}
use Rattle.tdb_gen.specs.Taking.{TakenUncounted}
use Rattle.tdb_gen.proofs.group.give_up_to.Given as goal

abbrev pub invariant-loop : goal.invariant-loop
invariant-loop g l = record {
  index : l.generator.index ≡ l.counter;
  behind : l.fn.generator.index ≤ l.counter;
  taken : (seed : ℕ) → IsFrom seed l.fn.generator → TakenUncounted g.D.Disk.tells l.fn.world l.world (gifts seed l.fn.generator.index (l.counter - l.fn.generator.index)) (Ok tt);
  unspent : l.world.spent ≡ false;
  from : (seed : ℕ) → IsFrom seed l.fn.generator → IsFrom seed l.generator;
}
