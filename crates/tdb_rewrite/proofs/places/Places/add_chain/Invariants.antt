-- The records that were passed are among the places, and the view is as it was.
use Rattle.std.proofs.Common.{◌≡◌, ◌++◌, ℕ, ◌+◌, ◌*◌, ◌≤◌, List, length, IsTrue}
use Rattle.tdb_words.specs.Word.{word}
use Rattle.tdb_space.specs.Form.{chain_head}
use Rattle.tdb_space.specs.Frame.{Looked}
use Rattle.tdb_rewrite.specs.Places.{HaveHeaders, offs_of}
use Rattle.tdb_rewrite.specs.Walk.{IsWholeList, Ahead}
use Rattle.tdb_rewrite.proofs.places.Places.add_chain.Given as goal

abbrev pub invariant-loop-found : goal.invariant-loop-found
invariant-loop-found g l = record {
  passed : IsTrue g.S.Space.tells → (offs : List ℕ)
      → IsWholeList (g.S.Space.form l.fn.s) (g.S.Space.image l.fn.s) (word (g.S.Space.form l.fn.s).order (g.S.Space.image l.fn.s) (chain_head l.chain)) offs
      → chain_head l.chain + 4 ≤ g.S.Space.size l.fn.s
      → (left : List ℕ) × Ahead (g.S.Space.form l.fn.s) (g.S.Space.image l.fn.s) left l.walk × (offs_of l.fn.self.records.items ++ offs ≡ offs_of l.self.records.items ++ left);
  headers : IsTrue g.S.Space.tells → HaveHeaders (g.S.Space.form l.fn.s) (g.S.Space.image l.fn.s) l.fn.self.records.items
      → HaveHeaders (g.S.Space.form l.fn.s) (g.S.Space.image l.fn.s) l.self.records.items;
  few : 4 * (length l.self.records.items + l.walk.left) ≤ 4 * length l.fn.self.records.items + l.fn.self.len;
  chains : l.self.chains ≡ l.fn.self.chains;
  len : l.self.len ≡ l.fn.self.len;
  looked : Looked g.S.Space l.fn.s l.s;
  faults : g.S.Space.faults l.s ≡ g.S.Space.faults l.fn.s;
}

abbrev pub decreases-loop-found : goal.decreases-loop-found
decreases-loop-found g l = l.walk.left
