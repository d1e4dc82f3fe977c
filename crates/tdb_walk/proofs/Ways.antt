-- The way of a move: the chains that it can read, up to where it comes to.
use Rattle.std.proofs.Common.{◌≡◌, ℕ, ◌+◌, ◌<◌, ◌≤◌, List, Some, None, sym, ◌∙◌, subst, inl, inr, arith}
use Rattle.std.proofs.lemmas.Bool.{cases_lt, cases_eq}
use Rattle.tdb_words.specs.Word.{word}
use Rattle.tdb_space.specs.Form.{Form, chain_head}
use Rattle.tdb_space.specs.Extents.{HandPair}
use Rattle.tdb_space.specs.Accepted.{AcceptWith}
use Rattle.tdb_locks.specs.HeldLocks.{HeldLocks}
use Rattle.tdb_locks.specs.declared.piece.Piece.{Piece}
use Rattle.tdb_law.specs.Layout.{chains_in}
use Rattle.tdb_law.specs.Layout.Place.{before_chain}
use Rattle.tdb_walk.specs.declared.live.Live.{Live}
use Rattle.tdb_walk.specs.declared.heads.Head.{Head}
use Rattle.tdb_walk.specs.declared.way.Way.TheVariants.{Met, Blocked, End}
use Rattle.tdb_walk.specs.Heads.{AreEmpty, IsFirstFilled}
use Rattle.tdb_walk.specs.Looks.{FindsIn}
use Rattle.tdb_walk.specs.NextLive.{first_live}
use Rattle.tdb_walk.specs.Way.{CanRead, CanReadTo, IsHeldOff, IsWay}
use Rattle.tdb_walk.proofs.Ahead.{none_before}
use Rattle.tdb_walk.proofs.Searched.{passed_empty, search_ends, search_finds, search_stays}

module _ (f : Form) (img : List ℕ) (ps : List Piece) (owner : ℕ) (own : HeldLocks) (from chain : ℕ)
    (free : CanReadTo f img ps owner own from chain) where
  -- chains without records are none that the move reads
  free_empty : (to : ℕ) → AreEmpty (λ j. word f.order img (chain_head j)) chain to → CanReadTo f img ps owner own from to
  free_empty to empty j above low filled = elim (cases_lt j chain) [ inl early ↦ free j above early filled | inr late ↦ absurd (filled (empty j late low)) ]

  pub way_free : (head : Head) → IsFirstFilled f img chain (Some head) → CanRead ps owner own head.chain → CanReadTo f img ps owner own from (head.chain + 1)
  way_free head first can j above low filled =
      elim (cases_eq j head.chain) [
        | inl here ↦ subst (CanRead ps owner own) (sym here) can
        | inr apart ↦ free_empty head.chain first.empty j above (omega (arith, low, apart)) filled
      ]

  module _ (hands : List HandPair) (A : AcceptWith f img hands) (least : from ≤ chain) (passed : (j : ℕ) → from ≤ j → j < chain → first_live (chains_in f img j) ≡ None) where
    pub way_ends : IsFirstFilled f img chain None → IsWay f img ps owner own (before_chain from) from End
    way_ends empty = (search_ends f img hands A from chain least passed empty, free_empty f.chains empty)

    pub way_meets : (head : Head) (live : Live) → IsFirstFilled f img chain (Some head) → FindsIn f img head (Some live) → CanRead ps owner own head.chain → IsWay f img ps owner own (before_chain from) from (Met live)
    way_meets head live first walks can = (
      search_finds f img hands A from chain least passed head live first walks,
      subst (λ k. CanReadTo f img ps owner own from (k + 1)) (sym (search_stays f img hands A from chain least passed head live first walks)) (way_free head first can),
    )

    pub way_stops : (head : Head) (other byte : ℕ) → IsFirstFilled f img chain (Some head) → IsHeldOff ps owner own head.chain other byte → IsWay f img ps owner own (before_chain from) from (Blocked head.chain other byte)
    way_stops head other byte first off = record {
      above = omega (arith, least, first.least);
      below = first.below;
      passed = none_before (chains_in f img) from head.chain (passed_empty f img hands A from chain least passed head.chain (omega (arith, first.below)) first.empty);
      free = free_empty head.chain first.empty;
      filled = λ e. first.filled (first.leads ∙ e);
      off = off;
    }
