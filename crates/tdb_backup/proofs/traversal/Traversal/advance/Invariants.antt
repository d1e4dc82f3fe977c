-- The walk has given what it had, and has passed chains without pairs at most.
use Rattle.std.proofs.Common.{◌≡◌, ◌+◌, ◌≤◌, ◌-◌, ℕ, List, IsTrue}
use Rattle.tdb_space.specs.Frame.{Looked}
use Rattle.tdb_space.specs.Extents.{HandPair}
use Rattle.tdb_space.specs.Accepted.{AcceptWith}
use Rattle.tdb_backup.specs.Traversal.{Gave, most_left}
use Rattle.tdb_backup.specs.Reads.{ahead_reads}
use Rattle.tdb_backup.proofs.traversal.Traversal.advance.Given as goal

abbrev pub invariant-loop-self : goal.invariant-loop-self
invariant-loop-self g l = record {
  gave : IsTrue g.S.Space.tells → (hands : List HandPair) → AcceptWith (g.S.Space.form l.fn.s) (g.S.Space.image l.fn.s) hands → (given : List (List ℕ × List ℕ))
      → Gave (g.S.Space.form l.fn.s) (g.S.Space.image l.fn.s) given l.fn.self → Gave (g.S.Space.form l.fn.s) (g.S.Space.image l.fn.s) given l.self;
  no_more : most_left (g.S.Space.form l.fn.s).chains (g.S.Space.size l.fn.s) l.self ≤ most_left (g.S.Space.form l.fn.s).chains (g.S.Space.size l.fn.s) l.fn.self;
  looked : Looked g.S.Space l.fn.s l.s;
  faults : g.S.Space.faults l.s ≡ g.S.Space.faults l.fn.s;
  bytes_read : g.S.Space.bytes_read l.fn.s ≤ g.S.Space.bytes_read l.s;
  reads : IsTrue g.S.Space.tells → g.S.Space.bytes_read l.s + ahead_reads (g.S.Space.form l.fn.s) (g.S.Space.image l.fn.s) l.self ≤ g.S.Space.bytes_read l.fn.s + ahead_reads (g.S.Space.form l.fn.s) (g.S.Space.image l.fn.s) l.fn.self;
}

abbrev pub decreases-loop-self : goal.decreases-loop-self
decreases-loop-self g l = (g.S.Space.form l.fn.s).chains - l.self.next_chain
