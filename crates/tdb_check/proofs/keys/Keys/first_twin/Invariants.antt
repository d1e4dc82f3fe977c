-- Among the first `most` records two have the same key, and among the first `least` none.
use Rattle.std.proofs.Common.{◌≡◌, ◌-◌, ◌<◌, ◌≤◌, IsTrue, length, take}
use Rattle.tdb_words.specs.Hash.{h_jenkins}
use Rattle.tdb_check.specs.Keys.{AllNoted, NotedDiffer}
use Rattle.tdb_check.proofs.Halving.{Halved}
use Rattle.tdb_check.specs.Reads.{twin_reads}
use Rattle.tdb_space.specs.Frame.{Looked}
use Rattle.tdb_check.proofs.keys.Keys.first_twin.Given as goal

abbrev pub invariant-loop-most : goal.invariant-loop-most
invariant-loop-most g l = record {
  within : l.most ≤ length l.fn.self.noted.items;
  some : l.least < l.most;
  noted : l.self.noted ≡ l.fn.self.noted;
  apart : IsTrue g.S.Space.tells → length (g.S.Space.image l.fn.s) ≡ l.len → AllNoted h_jenkins (g.S.Space.form l.fn.s) (g.S.Space.image l.fn.s) l.fn.self.noted.items
      → NotedDiffer (g.S.Space.form l.fn.s) (g.S.Space.image l.fn.s) (take l.least l.fn.self.noted.items);
  twice : IsTrue g.S.Space.tells → length (g.S.Space.image l.fn.s) ≡ l.len → AllNoted h_jenkins (g.S.Space.form l.fn.s) (g.S.Space.image l.fn.s) l.fn.self.noted.items
      → NotedDiffer (g.S.Space.form l.fn.s) (g.S.Space.image l.fn.s) (take l.most l.fn.self.noted.items) → ⊥;
  halved : IsTrue g.S.Space.tells → length (g.S.Space.image l.fn.s) ≡ l.len → AllNoted h_jenkins (g.S.Space.form l.fn.s) (g.S.Space.image l.fn.s) l.fn.self.noted.items
      → Halved (twin_reads (g.S.Space.form l.fn.s) (g.S.Space.image l.fn.s) l.fn.self.noted.items) (l.most - l.least) (g.S.Space.bytes_read l.fn.s) (g.S.Space.bytes_read l.s);
  looked : Looked g.S.Space l.fn.s l.s;
  faults : g.S.Space.faults l.s ≡ g.S.Space.faults l.fn.s;
}

abbrev pub decreases-loop-most : goal.decreases-loop-most
decreases-loop-most g l = l.most - l.least
