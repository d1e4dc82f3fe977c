-- The walk came so far along the free list, and read no more than a word of each record; the view is as it was.
use Rattle.std.proofs.Common.{◌≡◌, ℕ, ◌+◌, ◌*◌, ◌≤◌, ◌⊎◌, List, IsTrue}
use Rattle.std.specs.Prelude.{◌%◌, IfSome}
use Rattle.tdb_words.specs.Word.{word}
use Rattle.tdb_space.specs.Frame.{Looked}
use Rattle.tdb_space.specs.Form.{free_head}
use Rattle.tdb_space.specs.Chain.{Free}
use Rattle.tdb_free.specs.Walk.{IsUpTo, LinkWithin}
use Rattle.tdb_free.proofs.Walked.{Seen}
use Rattle.tdb_free.proofs.walk.find_links.Given as goal

abbrev pub invariant-loop-turn : goal.invariant-loop-turn
invariant-loop-turn g l = record {
  first_seen : IsTrue g.S.Space.tells → (offs : List ℕ)
      → Free (g.S.Space.form l.fn.s) (g.S.Space.image l.fn.s) (word (g.S.Space.form l.fn.s).order (g.S.Space.image l.fn.s) free_head) offs
      → Seen (g.S.Space.form l.fn.s) (g.S.Space.image l.fn.s) offs l.first l.to_first l._turn l.here.before l.here.at;
  second_seen : IsTrue g.S.Space.tells → (offs : List ℕ)
      → Free (g.S.Space.form l.fn.s) (g.S.Space.image l.fn.s) (word (g.S.Space.form l.fn.s).order (g.S.Space.image l.fn.s) free_head) offs
      → Seen (g.S.Space.form l.fn.s) (g.S.Space.image l.fn.s) offs l.second l.to_second l._turn l.here.before l.here.at;
  first_within : IfSome l.to_first (λ k. LinkWithin (g.S.Space.size l.fn.s) l.first k);
  second_within : IfSome l.to_second (λ k. LinkWithin (g.S.Space.size l.fn.s) l.second k);
  led_aligned : l.here.before % 4 ≡ 0;
  led : (l.here.before ≡ free_head) ⊎ (l.here.before + 4 ≤ g.S.Space.size l.fn.s);
  looked : Looked g.S.Space l.fn.s l.s;
  faults : g.S.Space.faults l.s ≡ g.S.Space.faults l.fn.s;
  bytes_read : g.S.Space.bytes_read l.fn.s ≤ g.S.Space.bytes_read l.s;
  most : g.S.Space.bytes_read l.s ≤ g.S.Space.bytes_read l.fn.s + (4 + 4 * l._turn);
  few : IsTrue g.S.Space.tells → (offs : List ℕ)
      → Free (g.S.Space.form l.fn.s) (g.S.Space.image l.fn.s) (word (g.S.Space.form l.fn.s).order (g.S.Space.image l.fn.s) free_head) offs
      → (most : ℕ) → IsUpTo (g.S.Space.form l.fn.s) (g.S.Space.image l.fn.s) offs l.first most → IsUpTo (g.S.Space.form l.fn.s) (g.S.Space.image l.fn.s) offs l.second most
      → l._turn ≤ most;
}
