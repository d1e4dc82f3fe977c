-- A file that grows by a hand stays accepted, and holds the same pairs.
use Rattle.std.proofs.Common.{◌≡◌, ℕ, ◌+◌, ◌<◌, ◌≤◌, ◌⊎◌, List, ◌∷◌, length, ◌∙◌, inl, inr, arith}
use Rattle.std.specs.Prelude.{slice_index, ◌%◌}
use Rattle.std.proofs.lemmas.Bool.{cases_lt}
use Rattle.tdb_words.specs.declared.record.TheConstants.{PADDING}
use Rattle.tdb_space.specs.Form.{Form, data_start}
use Rattle.tdb_space.specs.Pairs.{order_of, map_of}
use Rattle.tdb_space.specs.Extents.{HandPair, AllHandOk, times, hand_extents}
use Rattle.tdb_space.specs.Accepted.{AcceptWith}
use Rattle.tdb_space.specs.Exchange.{GrownBy}
use Rattle.tdb_space.proofs.Extents.Counts.{where_is}
use Rattle.tdb_space.proofs.Extents.Counts.Lies.{lies, below, above}
use Rattle.tdb_space.proofs.Accepted.Hands.{hands_kept, hands_within}
use Rattle.tdb_space.proofs.Accepted.Remains.{Remains, listed, listed_and, listed_within, remains_accepted, remains_order, remains_map}

module _ (f : Form) (a b : List ℕ) (n : ℕ) (hands : List HandPair) (A : AcceptWith f a hands) (G : GrownBy f a b n) where
  remains : Remains f a b
  remains = record {
    longer = omega (arith, G.size);
    low = λ i under _. G.others i (omega (arith, under, A.long));
    held = λ i some. G.others i (listed_within f a hands i A some).1;
  }

  sized : length b % 4 ≡ 0
  sized = omega (arith, G.size, G.aligned, A.sized)

  in_place : AllHandOk f b ((length a, n) ∷ hands)
  in_place = (record { aligned = A.sized; len_aligned = G.aligned; above = A.long; within = omega (arith, G.size) }, hands_kept f a b hands (omega (arith, G.size)) A.held)

  -- what is held at first stands below the new hand
  held_below : (i : ℕ) → 1 ≤ listed f a i + times (hand_extents hands) i → i < length a
  held_below i some =
      elim (cases_lt 0 (listed f a i)) [
        | inl in_list ↦ (listed_within f a hands i A (omega (arith, in_list))).1
        | inr no_list ↦ (hands_within f a hands i A.held (omega (arith, some, no_list))).1
      ]

  apart : (i : ℕ) → listed f a i + times (hand_extents ((length a, n) ∷ hands)) i ≤ 1
  apart i =
      elim (where_is (length a, 24 + n) i) [
        | lies from _ one ↦
            elim (cases_lt 0 (listed f a i + times (hand_extents hands) i)) [
              | inl some ↦ absurd (omega (arith, from, held_below i (omega (arith, some))))
              | inr none ↦ omega (arith, one, none)
            ]
        | below _ out ↦ omega (arith, out, A.apart i, listed_and f a hands i)
        | above _ out ↦ omega (arith, out, A.apart i, listed_and f a hands i)
      ]

  stray : (i : ℕ) → data_start f ≤ i → i < length b → listed f a i ≡ 0 → times (hand_extents ((length a, n) ∷ hands)) i ≡ 0 → (slice_index b i ≡ 0) ⊎ (slice_index b i ≡ PADDING)
  stray i from to no_list no_hand =
      let within : i < length a = elim (where_is (length a, 24 + n) i) [ lies _ _ one ↦ absurd (omega (arith, one, no_hand)) | below under _ ↦ under | above over _ ↦ absurd (omega (arith, over, to, G.size)) ] in
      let same : slice_index b i ≡ slice_index a i = G.others i within in
      elim (A.stray i from within (omega (arith, no_list, no_hand, listed_and f a hands i))) [ inl zero_there ↦ inl (same ∙ zero_there) | inr padding ↦ inr (same ∙ padding) ]

  -- the image is accepted with the new hand more, and holds the same pairs
  pub grow_accepted : AcceptWith f b ((length a, n) ∷ hands)
  grow_accepted = remains_accepted f a b hands A remains ((length a, n) ∷ hands) sized in_place apart stray

  pub grow_order : order_of f b ≡ order_of f a
  grow_order = remains_order f a b hands A remains ((length a, n) ∷ hands) sized in_place apart stray

  pub grow_map : (q : List ℕ) → map_of f b q ≡ map_of f a q
  grow_map = remains_map f a b hands A remains ((length a, n) ∷ hands) sized in_place apart stray
