use Rattle.std.proofs.Common.{◌≡◌, ◌+◌, ◌≤◌, length}
use Rattle.std.specs.Prelude.{IsTrue}
use Rattle.tdb_disk.specs.History.{clock, seen}
use Rattle.tdb_cache.specs.Blocks.{kept_count, AllSized}
use Rattle.tdb_cache.specs.Laid.{laid}
use Rattle.tdb_cache.proofs.blocks.Blocks.flush.Given as goal

abbrev pub invariant-loop-self : goal.invariant-loop-self
invariant-loop-self g l = record {
  view : IsTrue g.D.Disk.tells
      → laid l.self (seen (g.D.Disk.history l.d)) ≡ laid l.initial.self (seen (g.D.Disk.history l.initial.d));
  sized : AllSized l.self (g.D.Disk.size l.d);
  fewer : kept_count l.self ≤ kept_count l.initial.self;
  calls : clock (g.D.Disk.history l.d) + kept_count l.self
      ≤ clock (g.D.Disk.history l.initial.d) + kept_count l.initial.self;
  size : g.D.Disk.size l.d ≡ g.D.Disk.size l.initial.d;
  faults : g.D.Disk.faults l.d ≡ g.D.Disk.faults l.initial.d;
  syncs : g.D.Disk.syncs l.d ≡ g.D.Disk.syncs l.initial.d;
}

abbrev pub decreases-loop-self : goal.decreases-loop-self
decreases-loop-self g l = length l.self.places.items
