-- Some records of the chain were passed and are shown, and the view is as it was.
use Rattle.std.proofs.Common.{◌≡◌, ℕ, ◌+◌, ◌≤◌, List, IsTrue}
use Rattle.tdb_words.specs.Word.{word}
use Rattle.tdb_space.specs.Frame.{Looked}
use Rattle.tdb_space.specs.Form.{chain_head}
use Rattle.tdb_rewrite.specs.Walk.{IsWholeList}
use Rattle.tdb_rewrite.proofs.Showing.{Noted}
use Rattle.tdb_rewrite.proofs.lines.chain_lines.Given as goal

abbrev pub invariant-loop-shown : goal.invariant-loop-shown
invariant-loop-shown g l = record {
  noted : IsTrue g.S.Space.tells → (offs : List ℕ)
      → IsWholeList (g.S.Space.form l.fn.s) (g.S.Space.image l.fn.s) (word (g.S.Space.form l.fn.s).order (g.S.Space.image l.fn.s) (chain_head l.chain)) offs
      → chain_head l.chain + 4 ≤ g.S.Space.size l.fn.s → Noted (g.S.Space.form l.fn.s) (g.S.Space.image l.fn.s) offs l.shown l.walk;
  looked : Looked g.S.Space l.fn.s l.s;
  faults : g.S.Space.faults l.s ≡ g.S.Space.faults l.fn.s;
  bytes_read : g.S.Space.bytes_read l.fn.s ≤ g.S.Space.bytes_read l.s;
}

abbrev pub decreases-loop-shown : goal.decreases-loop-shown
decreases-loop-shown g l = l.walk.left
