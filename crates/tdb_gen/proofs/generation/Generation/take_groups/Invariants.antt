-- So many groups were taken to their ends.
use Rattle.std.proofs.Common.{◌≡◌, ◌*◌, ℕ, min, Ok}
use Rattle.tdb_gen.specs.Numbers.{IsFrom}
use Rattle.tdb_gen.specs.Plays.{group_list, together}
use Rattle.tdb_gen.specs.Taking.{place, Taken}
use Rattle.tdb_gen.proofs.generation.Generation.take_groups.Given as goal

abbrev pub invariant-loop : goal.invariant-loop
invariant-loop g l = record {
  taken : (seed : ℕ) → IsFrom seed l.fn.self.generator
      → Taken g.D.Disk.tells (place l.fn.world l.fn.self.counts (g.L.Logs.logs l.fn.logs))
      (place l.world l.self.counts (g.L.Logs.logs l.logs)) (together (group_list l.commands seed l.counter)) (Ok tt);
  index : l.self.generator.index ≡ min l.commands (3 * l.counter);
  from : (seed : ℕ) → IsFrom seed l.fn.self.generator → IsFrom seed l.self.generator;
}
