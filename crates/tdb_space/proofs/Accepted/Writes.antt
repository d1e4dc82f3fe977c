-- A write into hands keeps an image accepted, with the same pairs and the same map.
use Rattle.std.proofs.Common.{◌≡◌, ℕ, ◌+◌, ◌<◌, ◌≤◌, ◌⊎◌, List, length, ◌∙◌, ap, inl, inr, arith}
use Rattle.std.specs.Prelude.{slice_index, ◌%◌}
use Rattle.tdb_words.specs.declared.record.TheConstants.{PADDING}
use Rattle.tdb_space.specs.Form.{Form, data_start}
use Rattle.tdb_space.specs.Pairs.{order_of, map_of}
use Rattle.tdb_space.specs.Extents.{HandPair, AllHandOk, times, hand_extents}
use Rattle.tdb_space.specs.Accepted.{AcceptWith}
use Rattle.tdb_space.specs.Exchange.{InHands}
use Rattle.tdb_space.proofs.Accepted.Hands.{hands_kept, hands_above}
use Rattle.tdb_space.proofs.Accepted.Remains.{Remains, listed, listed_and, remains_accepted, remains_order, remains_map}

module _ (f : Form) (a b : List ℕ) (hands : List HandPair) (A : AcceptWith f a hands) (W : InHands f a b hands) where
  remains : Remains f a b
  remains = record {
    longer = omega (arith, W.size);
    low = λ i below _. W.others i (hands_above f a hands i A.held below);
    held = λ i some. W.others i (omega (arith, some, A.apart i, listed_and f a hands i));
  }

  sized : length b % 4 ≡ 0
  sized = ap (λ n. n % 4) W.size ∙ A.sized

  in_place : AllHandOk f b hands
  in_place = hands_kept f a b hands (omega (arith, W.size)) A.held

  apart : (i : ℕ) → listed f a i + times (hand_extents hands) i ≤ 1
  apart i = omega (arith, A.apart i, listed_and f a hands i)

  stray : (i : ℕ) → data_start f ≤ i → i < length b → listed f a i ≡ 0 → times (hand_extents hands) i ≡ 0 → (slice_index b i ≡ 0) ⊎ (slice_index b i ≡ PADDING)
  stray i from to no_list no_hand =
      let same : slice_index b i ≡ slice_index a i = W.others i no_hand in
      elim (A.stray i from (omega (arith, to, W.size)) (omega (arith, no_list, no_hand, listed_and f a hands i))) [ inl zero_there ↦ inl (same ∙ zero_there) | inr padding ↦ inr (same ∙ padding) ]

  pub write_accepted : AcceptWith f b hands
  write_accepted = remains_accepted f a b hands A remains hands sized in_place apart stray

  pub write_order : order_of f b ≡ order_of f a
  write_order = remains_order f a b hands A remains hands sized in_place apart stray

  pub write_map : (q : List ℕ) → map_of f b q ≡ map_of f a q
  write_map = remains_map f a b hands A remains hands sized in_place apart stray
