-- The records so far were passed and put down, and the view is as it was.
use Rattle.std.proofs.Common.{◌≡◌, ℕ, ◌≤◌, List, IsTrue}
use Rattle.tdb_words.specs.Word.{word}
use Rattle.tdb_space.specs.Frame.{Looked}
use Rattle.tdb_space.specs.Form.{free_head}
use Rattle.tdb_space.specs.Chain.{Free}
use Rattle.tdb_free.proofs.PutDown.{PutDown}
use Rattle.tdb_free.proofs.listing.list.Given as goal

abbrev pub invariant-loop-turn : goal.invariant-loop-turn
invariant-loop-turn g l = record {
  put : IsTrue g.S.Space.tells → (offs : List ℕ) → Free (g.S.Space.form l.fn.s) (g.S.Space.image l.fn.s) (word (g.S.Space.form l.fn.s).order (g.S.Space.image l.fn.s) free_head) offs
      → PutDown (g.S.Space.form l.fn.s) (g.S.Space.image l.fn.s) offs l.records l._turn l.at;
  looked : Looked g.S.Space l.fn.s l.s;
  faults : g.S.Space.faults l.s ≡ g.S.Space.faults l.fn.s;
  bytes_read : g.S.Space.bytes_read l.fn.s ≤ g.S.Space.bytes_read l.s;
}
