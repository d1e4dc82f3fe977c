-- The steps of a give: the record behind the hand leaves the list, then the one before it, and what they make with the
-- hand becomes the first.
use Rattle.std.proofs.Common.{ℕ, List, Option}
use Rattle.tdb_space.specs.Form.{Form}
use Rattle.tdb_space.specs.Extents.{HandPair}
use Rattle.tdb_free.specs.FreeList.{CanBeGiven, Given, MadeFirst, starts_at, ends_at, end_of, with_next, with_previous}
use Rattle.tdb_free.specs.Search.{Beside, previous_then}
use Rattle.tdb_free.specs.Removal.{LeftOut, rest_of}
use Rattle.tdb_free.specs.Stretch.{found_pair}
use Rattle.tdb_free.specs.declared.neighbours.Neighbours.{Neighbours}
use Rattle.tdb_free.specs.declared.search.Spot.{Spot}
use Rattle.tdb_free.proofs.Merged.{given_next, given_both, given_made}
use Rattle.tdb_free.proofs.OnceLeft.{previous_spot}
use Rattle.tdb_free.proofs.Removed.{TakenOut, taken_out}

module _ (f : Form) (a offs : List ℕ) (h : HandPair) (found : Neighbours) (C : CanBeGiven f a offs h) (B : Beside f a offs h found) (b : List ℕ) (N : LeftOut f a b found.next) where
  abbrev previous : Option Spot
  previous = previous_then found.next found.previous

  -- the record behind the hand left the list
  pub next_out : TakenOut f a b offs (starts_at (end_of h)) found.next
  next_out = taken_out f a b offs (starts_at (end_of h)) found.next C.listed B.next N

  pub given_then : CanBeGiven f b (rest_of found.next offs) (with_next h (found_pair found.next))
  given_then = given_next f a b offs h found.next C next_out

  module _ (c : List ℕ) (P : LeftOut f b c (previous_then found.next found.previous)) where
    -- and so did the one before it
    pub previous_out : TakenOut f b c (rest_of found.next offs) (ends_at h.0) (previous_then found.next found.previous)
    previous_out =
        taken_out f b c (rest_of found.next offs) (ends_at h.0) previous given_then.listed
        (previous_spot f a b offs h C.listed found.next found.previous B.next B.previous N) P

    pub given_last : CanBeGiven f c (rest_of (previous_then found.next found.previous) (rest_of found.next offs)) (with_previous (with_next h (found_pair found.next)) (found_pair (previous_then found.next found.previous)))
    given_last = given_both f a b offs h found.next C next_out c previous previous_out

    -- what they make became the first
    pub given_steps : (d : List ℕ) → MadeFirst f c d (with_previous (with_next h (found_pair found.next)) (found_pair (previous_then found.next found.previous))) → Given f a d offs h
    given_steps d M = given_made f a b offs h found.next C next_out c previous previous_out d M
