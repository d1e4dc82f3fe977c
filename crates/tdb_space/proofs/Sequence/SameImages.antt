-- The sequence number, the word at 48: two images that differ at most there have the same records, lists, pairs and
-- map, and are accepted alike.
use Rattle.std.proofs.Common.{◌≡◌, ℕ, ◌+◌, ◌<◌, ◌≤◌, ◌⊎◌, List, length, ◌∙◌, ap, inl, inr, arith}
use Rattle.std.specs.Prelude.{slice_index, ◌%◌}
use Rattle.tdb_words.specs.declared.record.TheConstants.{PADDING}
use Rattle.tdb_space.specs.Form.{Form, data_start}
use Rattle.tdb_space.specs.Chain.{chain_of, free_of}
use Rattle.tdb_space.specs.Pairs.{order_of, map_of}
use Rattle.tdb_space.specs.Extents.{HandPair, AllHandOk, times, hand_extents}
use Rattle.tdb_space.specs.Accepted.{AcceptWith}
use Rattle.tdb_space.specs.Exchange.{ButSequence}
use Rattle.tdb_space.proofs.Accepted.Hands.{hands_kept}
use Rattle.tdb_space.proofs.Accepted.Remains.{Remains, listed, listed_and, listed_within, remains_accepted, remains_chain, remains_free, remains_order, remains_map}

module _ (f : Form) (a b : List ℕ) (hands : List HandPair) (A : AcceptWith f a hands) (S : ButSequence a b) where
  remains : Remains f a b
  remains = record {
    longer = omega (arith, S.size);
    low = λ i below apart. S.others i apart;
    held = λ i some. S.others i (inr (omega (arith, (listed_within f a hands i A some).0)));
  }

  sized : length b % 4 ≡ 0
  sized = ap (λ n. n % 4) S.size ∙ A.sized

  in_place : AllHandOk f b hands
  in_place = hands_kept f a b hands (omega (arith, S.size)) A.held

  apart : (i : ℕ) → listed f a i + times (hand_extents hands) i ≤ 1
  apart i = omega (arith, A.apart i, listed_and f a hands i)

  stray : (i : ℕ) → data_start f ≤ i → i < length b → listed f a i ≡ 0 → times (hand_extents hands) i ≡ 0 → (slice_index b i ≡ 0) ⊎ (slice_index b i ≡ PADDING)
  stray i from to no_list no_hand =
      let same : slice_index b i ≡ slice_index a i = S.others i (inr (omega (arith, from))) in
      elim (A.stray i from (omega (arith, to, S.size)) (omega (arith, no_list, no_hand, listed_and f a hands i))) [ inl zero_there ↦ inl (same ∙ zero_there) | inr padding ↦ inr (same ∙ padding) ]

  pub sequence_accepted : AcceptWith f b hands
  sequence_accepted = remains_accepted f a b hands A remains hands sized in_place apart stray

  pub sequence_chain : (k : ℕ) → k < f.chains → chain_of f b k ≡ chain_of f a k
  sequence_chain = remains_chain f a b hands A remains hands sized in_place apart stray

  pub sequence_free : free_of f b ≡ free_of f a
  sequence_free = remains_free f a b hands A remains hands sized in_place apart stray

  pub sequence_order : order_of f b ≡ order_of f a
  sequence_order = remains_order f a b hands A remains hands sized in_place apart stray

  pub sequence_map : (q : List ℕ) → map_of f b q ≡ map_of f a q
  sequence_map = remains_map f a b hands A remains hands sized in_place apart stray
