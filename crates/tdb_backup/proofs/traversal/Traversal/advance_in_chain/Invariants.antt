-- The walk has given what it had, and has passed dead records at most.
use Rattle.std.proofs.Common.{◌≡◌, ◌+◌, ◌≤◌, ℕ, List, IsTrue}
use Rattle.tdb_space.specs.Frame.{Looked}
use Rattle.tdb_backup.specs.Traversal.{Gave}
use Rattle.tdb_backup.specs.Reads.{rest_reads}
use Rattle.tdb_backup.proofs.traversal.Traversal.advance_in_chain.Given as goal

abbrev pub invariant-loop-self : goal.invariant-loop-self
invariant-loop-self g l = record {
  gave : IsTrue g.S.Space.tells → (given : List (List ℕ × List ℕ))
      → Gave (g.S.Space.form l.fn.s) (g.S.Space.image l.fn.s) given l.fn.self → Gave (g.S.Space.form l.fn.s) (g.S.Space.image l.fn.s) given l.self;
  same_chain : l.self.next_chain ≡ l.fn.self.next_chain;
  no_more : l.self.left ≤ l.fn.self.left;
  looked : Looked g.S.Space l.fn.s l.s;
  faults : g.S.Space.faults l.s ≡ g.S.Space.faults l.fn.s;
  bytes_read : g.S.Space.bytes_read l.fn.s ≤ g.S.Space.bytes_read l.s;
  reads : IsTrue g.S.Space.tells → g.S.Space.bytes_read l.s + rest_reads (g.S.Space.form l.fn.s) (g.S.Space.image l.fn.s) l.self ≤ g.S.Space.bytes_read l.fn.s + rest_reads (g.S.Space.form l.fn.s) (g.S.Space.image l.fn.s) l.fn.self;
}

abbrev pub decreases-loop-self : goal.decreases-loop-self
decreases-loop-self g l = l.self.left
