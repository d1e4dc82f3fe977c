-- The walk came so far along the free list, and the view is as it was.
use Rattle.std.proofs.Common.{◌≡◌, ℕ, ◌+◌, ◌*◌, ◌≤◌, ◌⊎◌, List, IsTrue}
use Rattle.std.specs.Prelude.{◌%◌}
use Rattle.tdb_words.specs.Word.{word}
use Rattle.tdb_space.specs.Frame.{Looked}
use Rattle.tdb_space.specs.Form.{free_head}
use Rattle.tdb_space.specs.Chain.{Free}
use Rattle.tdb_free.specs.FreeList.{is_long_enough}
use Rattle.tdb_free.proofs.Passed.{Passed}
use Rattle.tdb_free.proofs.search.find_fit.Given as goal

abbrev pub invariant-loop-turn : goal.invariant-loop-turn
invariant-loop-turn g l = record {
  passed : IsTrue g.S.Space.tells → (offs : List ℕ)
      → Free (g.S.Space.form l.fn.s) (g.S.Space.image l.fn.s) (word (g.S.Space.form l.fn.s).order (g.S.Space.image l.fn.s) free_head) offs
      → Passed (g.S.Space.form l.fn.s) (g.S.Space.image l.fn.s) offs (is_long_enough l.rec_len) l._turn l.before l.at;
  led_aligned : l.before % 4 ≡ 0;
  led : (l.before ≡ free_head) ⊎ (l.before + 4 ≤ g.S.Space.size l.fn.s);
  looked : Looked g.S.Space l.fn.s l.s;
  faults : g.S.Space.faults l.s ≡ g.S.Space.faults l.fn.s;
  bytes_read : g.S.Space.bytes_read l.fn.s ≤ g.S.Space.bytes_read l.s;
  most : g.S.Space.bytes_read l.s ≤ g.S.Space.bytes_read l.fn.s + (4 + 24 * l._turn);
}
