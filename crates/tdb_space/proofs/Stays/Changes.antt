-- What a change of an image leaves to others: changes one after the other, and what each kind of change leaves.
use Rattle.std.proofs.Common.{◌≡◌, ℕ, ◌+◌, ◌<◌, ◌≤◌, List, [], ◌∷◌, length, refl, sym, ◌∙◌, ap, subst, inl, inr, arith}
use Rattle.std.specs.Prelude.{slice_index, ◌⊎◌}
use Rattle.std.specs.Map.{lookup}
use Rattle.std.proofs.lemmas.Bool.{cases_lt, cases_eq, eq-eqb, ne_eqb}
use Rattle.tdb_words.specs.Word.{word}
use Rattle.tdb_words.proofs.Words.{word_agrees}
use Rattle.tdb_space.specs.Form.{Form, chain_head, free_head, data_start}
use Rattle.tdb_space.specs.Record.{IsChained, IsFree, rec_len_of}
use Rattle.tdb_space.specs.Chain.{Linked, chain_of, free_of}
use Rattle.tdb_space.specs.Pairs.{pairs, map_of, home, same_key}
use Rattle.tdb_space.specs.Extents.{HandPair, times, extents, extent_at, area, hand_extents}
use Rattle.tdb_space.specs.Accepted.{AcceptWith}
use Rattle.tdb_space.specs.Exchange.{Exchanged, FreeExchanged, InHands, ButSequence}
use Rattle.tdb_space.specs.Stays.{ChainStays, FreeStays, FrontStays, ChangesOnly, ChainsStay}
use Rattle.tdb_space.proofs.Extents.Counts.{once_in, times_all, times_member, times_two}
use Rattle.tdb_space.proofs.Exchange.Kept.{Still, bodies_still, extents_kept, list_left, pairs_kept, times_within, word_kept}
use Rattle.tdb_space.proofs.Accepted.Areas.{area_within}
use Rattle.tdb_space.proofs.Accepted.Hands.{hands_above}
use Rattle.tdb_space.proofs.Accepted.Laid.{accepted_filed}
use Rattle.tdb_space.proofs.Pairs.Maps.{map_home, home_below}
use Rattle.tdb_space.proofs.Sequence.SameImages.{sequence_accepted, sequence_map}
use Rattle.tdb_space.proofs.Chain.Walks.{walk_meets}

-- two changes leave a chain where each does
pub chain_then : (f : Form) (a b c : List ℕ) (k : ℕ) → ChainStays f a b k → ChainStays f b c k → ChainStays f a c k
chain_then f a b c k S T = record {
  head = T.head ∙ S.head;
  same_offsets = T.same_offsets ∙ S.same_offsets;
  bytes = λ i held. T.bytes i (subst (λ es. 1 ≤ times es i) (sym same) held) ∙ S.bytes i held;
}
  where
    same : extents f.order b (chain_of f b k) ≡ extents f.order a (chain_of f a k)
    same = ap (extents f.order b) S.same_offsets ∙ extents_kept f a b (chain_of f a k) (bodies_still f a b (chain_of f a k) S.bytes)

-- and the free list
pub free_then_stays : (f : Form) (a b c : List ℕ) → FreeStays f a b → FreeStays f b c → FreeStays f a c
free_then_stays f a b c S T = record {
  head = T.head ∙ S.head;
  same_offsets = T.same_offsets ∙ S.same_offsets;
  bytes = λ i held. T.bytes i (subst (λ es. 1 ≤ times es i) (sym same) held) ∙ S.bytes i held;
}
  where
    same : extents f.order b (free_of f b) ≡ extents f.order a (free_of f a)
    same = ap (extents f.order b) S.same_offsets ∙ extents_kept f a b (free_of f a) (bodies_still f a b (free_of f a) S.bytes)

-- the undo area stays where it is
area_same : (f : Form) (a b : List ℕ) → FrontStays f a b → area f.order b ≡ area f.order a
area_same f a b F =
    let at : word f.order b 44 ≡ word f.order a 44 = word_agrees f.order b a 44 (λ i from to. F.low i (omega arith) (inl (omega arith))) in
    elim (cases_eq (word f.order a 44) 0) [
      | inl none ↦ rw (eq-eqb (word f.order b 44) 0 (at ∙ none)) (rw (eq-eqb (word f.order a 44) 0 none) refl)
      | inr some ↦
          let some_b : word f.order b 44 ≡ 0 → ⊥ = λ e. some (sym at ∙ e) in
          let x = word f.order a 44 in
          let held : (i : ℕ) → x ≤ i → i < x + 24 + rec_len_of f.order a x → slice_index b i ≡ slice_index a i = λ i low high.
          F.undo_area i (rw (ne_eqb (word f.order a 44) 0 some) (omega (arith, once_in (extent_at f.order a x) i low (omega arith)))) in
          let len : rec_len_of f.order b x ≡ rec_len_of f.order a x = word_kept f.order a b (x + 4) x (x + 24 + rec_len_of f.order a x) held (omega arith) (omega arith) in
          rw (ne_eqb (word f.order b 44) 0 some_b) (rw (ne_eqb (word f.order a 44) 0 some) (λ i. (at i, 24 + (ap (rec_len_of f.order b) at ∙ len) i) ∷ []))
    ]

front_then : (f : Form) (a b c : List ℕ) → FrontStays f a b → FrontStays f b c → FrontStays f a c
front_then f a b c F G = record {
  longer = omega (arith, F.longer, G.longer);
  low = λ i below beside. G.low i below beside ∙ F.low i below beside;
  undo_area = λ i held. G.undo_area i (subst (λ es. 1 ≤ times es i) (sym (area_same f a b F)) held) ∙ F.undo_area i held;
}

-- where nothing changed, whatever chains may have
pub changes_none : (f : Form) (a : List ℕ) (May : ℕ → Type 0) → ChangesOnly f a a May
changes_none f a May = record {
  front = record { longer = omega arith; low = λ _ _ _. refl; undo_area = λ _ _. refl };
  chains = λ _ _ _. record { head = refl; same_offsets = refl; bytes = λ _ _. refl };
}

-- the free list stays where nothing changed
pub frees_none : (f : Form) (a : List ℕ) → FreeStays f a a
frees_none f a = record { head = refl; same_offsets = refl; bytes = λ _ _. refl }

-- more chains may have changed
pub changes_weaker : (f : Form) (a b : List ℕ) (May More : ℕ → Type 0) → ((k : ℕ) → May k → More k) → ChangesOnly f a b May → ChangesOnly f a b More
changes_weaker f a b May More more C = record { front = C.front; chains = λ k low never. C.chains k low (λ may. never (more k may)) }

-- two changes are one
pub changes_then : (f : Form) (a b c : List ℕ) (May : ℕ → Type 0) → ChangesOnly f a b May → ChangesOnly f b c May → ChangesOnly f a c May
changes_then f a b c May C D = record {
  front = front_then f a b c C.front D.front;
  chains = λ k low never. chain_then f a b c k (C.chains k low never) (D.chains k low never);
}

-- a chain of an accepted image stays where its head and its bytes do
pub chain_stays : (f : Form) (a b : List ℕ) (hands : List HandPair) (k : ℕ) → k < f.chains → AcceptWith f a hands → length a ≤ length b → word f.order b (chain_head k) ≡ word f.order a (chain_head k) → Still a b f (chain_of f a k) → ChainStays f a b k
chain_stays f a b hands k low A longer head still = record {
  head = head;
  same_offsets = walk_meets f IsChained b (word f.order b (chain_head k)) (chain_of f a k)
      (subst (λ at. Linked f IsChained b at (chain_of f a k)) (sym head) (list_left f IsChained a b (word f.order a (chain_head k)) (chain_of f a k) longer (A.chains k low) still));
  bytes = still;
}

-- and so does the free list
pub free_stays : (f : Form) (a b : List ℕ) (hands : List HandPair) → AcceptWith f a hands → length a ≤ length b → word f.order b free_head ≡ word f.order a free_head → Still a b f (free_of f a) → FreeStays f a b
free_stays f a b hands A longer head still = record {
  head = head;
  same_offsets = walk_meets f IsFree b (word f.order b free_head) (free_of f a)
      (subst (λ at. Linked f IsFree b at (free_of f a)) (sym head) (list_left f IsFree a b (word f.order a free_head) (free_of f a) longer A.frees still));
  bytes = still;
}

-- a byte of an accepted image that one holds is held by no other: of the chains, the free list, the undo area and the
-- hands
module _ (f : Form) (a : List ℕ) (hands : List HandPair) (A : AcceptWith f a hands) where
  of_chain : ℕ → ℕ → ℕ
  of_chain k i = times (extents f.order a (chain_of f a k)) i

  of_chain_apart : (k j i : ℕ) → k < f.chains → j < f.chains → (k ≡ j → ⊥) → 1 ≤ times (extents f.order a (chain_of f a k)) i → times (extents f.order a (chain_of f a j)) i + times (hand_extents hands) i ≡ 0
  of_chain_apart k j i low low_j ne held =
      omega (arith, held, A.apart i, times_all f a (chain_of f a) (free_of f a) hands i, times_two (λ l. extents f.order a (chain_of f a l)) k j i f.chains low low_j ne)

  chain_no_free : (k i : ℕ) → k < f.chains → 1 ≤ times (extents f.order a (chain_of f a k)) i → times (extents f.order a (free_of f a)) i + times (hand_extents hands) i ≡ 0
  chain_no_free k i low held =
      omega (arith, held, A.apart i, times_all f a (chain_of f a) (free_of f a) hands i, times_member (λ l. extents f.order a (chain_of f a l)) k i f.chains low)

  free_no_chain : (j i : ℕ) → j < f.chains → 1 ≤ times (extents f.order a (free_of f a)) i → times (extents f.order a (chain_of f a j)) i + times (hand_extents hands) i ≡ 0
  free_no_chain j i low held =
      omega (arith, held, A.apart i, times_all f a (chain_of f a) (free_of f a) hands i, times_member (λ l. extents f.order a (chain_of f a l)) j i f.chains low)

  area_no_chain : (j i : ℕ) → j < f.chains → 1 ≤ times (area f.order a) i → times (extents f.order a (chain_of f a j)) i + times (hand_extents hands) i ≡ 0
  area_no_chain j i low held =
      omega (arith, held, A.apart i, times_all f a (chain_of f a) (free_of f a) hands i, times_member (λ l. extents f.order a (chain_of f a l)) j i f.chains low)

  area_no_free : (i : ℕ) → 1 ≤ times (area f.order a) i → times (extents f.order a (free_of f a)) i + times (hand_extents hands) i ≡ 0
  area_no_free i held = omega (arith, held, A.apart i, times_all f a (chain_of f a) (free_of f a) hands i)

  -- and it stands behind the heads and within the image
  chain_in : (k i : ℕ) → k < f.chains → 1 ≤ times (extents f.order a (chain_of f a k)) i → (data_start f ≤ i) × (i < length a)
  chain_in k i low held = times_within f IsChained a (word f.order a (chain_head k)) (chain_of f a k) i (A.chains k low) held

  free_in : (i : ℕ) → 1 ≤ times (extents f.order a (free_of f a)) i → (data_start f ≤ i) × (i < length a)
  free_in i held = times_within f IsFree a (word f.order a free_head) (free_of f a) i A.frees held

-- one chain and the hands are exchanged: no other chain changes, nor does the free list
module _ (f : Form) (a b : List ℕ) (j : ℕ) (ys : List ℕ) (hands news : List HandPair) (low_j : j < f.chains) (A : AcceptWith f a hands) (E : Exchanged f a b j (chain_of f a j) ys hands news) where
  head_apart : (at : ℕ) → at + 4 ≤ data_start f → (at + 4 ≤ chain_head j) ⊎ (chain_head j + 4 ≤ at) → word f.order b at ≡ word f.order a at
  head_apart at below apart = word_agrees f.order b a at (λ i from to. E.low i (omega arith) (elim apart [ inl under ↦ inl (omega arith) | inr over ↦ inr (omega arith) ]))

  pub exchanged_changes : ChangesOnly f a b (λ k. k ≡ j)
  exchanged_changes = record {
    front = record {
      longer = omega (arith, E.size);
      low = λ i below _. E.low i (omega arith) (inl (omega arith));
      undo_area = λ i held. E.high i (area_within f a i A.area_ok held).0 (area_no_chain f a hands A j i low_j held);
    };
    chains = λ k low ne. chain_stays f a b hands k low A (omega (arith, E.size))
        (head_apart (chain_head k) (omega arith) (elim (cases_lt k j) [ inl less ↦ inl (omega arith) | inr more ↦ inr (omega (arith, ne)) ]))
        (λ i held. E.high i (chain_in f a hands A k i low held).0 (of_chain_apart f a hands A k j i low low_j ne held));
  }

  pub exchanged_free : FreeStays f a b
  exchanged_free =
      free_stays f a b hands A (omega (arith, E.size)) (head_apart free_head (omega arith) (inl (omega arith)))
      (λ i held. E.high i (free_in f a hands A i held).0 (free_no_chain f a hands A j i low_j held))

-- the free list and the hands are exchanged: no chain changes
pub free_changes : (f : Form) (a b ys : List ℕ) (hands news : List HandPair) → AcceptWith f a hands → FreeExchanged f a b (free_of f a) ys hands news → ChangesOnly f a b (λ k. ⊥)
free_changes f a b ys hands news A E = record {
  front = record {
    longer = omega (arith, E.size);
    low = λ i below _. E.low i (omega arith) (inl below);
    undo_area = λ i held. E.high i (area_within f a i A.area_ok held).0 (area_no_free f a hands A i held);
  };
  chains = λ k low _. chain_stays f a b hands k low A (omega (arith, E.size))
      (word_agrees f.order b a (chain_head k) (λ i from to. E.low i (omega arith) (inr (omega arith))))
      (λ i held. E.high i (chain_in f a hands A k i low held).0 (chain_no_free f a hands A k i low held));
}

-- the file grows behind its end: neither a chain nor the free list changes
module _ (f : Form) (a b : List ℕ) (hands : List HandPair) (A : AcceptWith f a hands) (longer : length a ≤ length b) (same : (i : ℕ) → i < length a → slice_index b i ≡ slice_index a i) where
  pub grown_changes : ChangesOnly f a b (λ k. ⊥)
  grown_changes = record {
    front = record {
      longer = longer;
      low = λ i below _. same i (omega (arith, A.long));
      undo_area = λ i held. same i (area_within f a i A.area_ok held).1;
    };
    chains = λ k low _. chain_stays f a b hands k low A longer
        (word_agrees f.order b a (chain_head k) (λ i from to. same i (omega (arith, A.long))))
        (λ i held. same i (chain_in f a hands A k i low held).1);
  }

  pub grown_free : FreeStays f a b
  grown_free =
      free_stays f a b hands A longer (word_agrees f.order b a free_head (λ i from to. same i (omega (arith, A.long))))
      (λ i held. same i (free_in f a hands A i held).1)

-- bytes of hands change: neither a chain nor the free list does
module _ (f : Form) (a b : List ℕ) (hands : List HandPair) (A : AcceptWith f a hands) (W : InHands f a b hands) where
  hands_low : (i : ℕ) → i < data_start f → slice_index b i ≡ slice_index a i
  hands_low i below = W.others i (hands_above f a hands i A.held below)

  pub hands_changes : ChangesOnly f a b (λ k. ⊥)
  hands_changes = record {
    front = record {
      longer = omega (arith, W.size);
      low = λ i below _. hands_low i (omega (arith, below));
      undo_area = λ i held. W.others i (omega (arith, area_no_free f a hands A i held));
    };
    chains = λ k low _. chain_stays f a b hands k low A (omega (arith, W.size))
        (word_agrees f.order b a (chain_head k) (λ i from to. hands_low i (omega (arith, to, low))))
        (λ i held. W.others i (omega (arith, chain_no_free f a hands A k i low held)));
  }

  pub hands_free : FreeStays f a b
  hands_free =
      free_stays f a b hands A (omega (arith, W.size)) (word_agrees f.order b a free_head (λ i from to. hands_low i (omega (arith, to))))
      (λ i held. W.others i (omega (arith, held, A.apart i, times_all f a (chain_of f a) (free_of f a) hands i)))

-- the sequence number changes: neither a chain nor the free list does
module _ (f : Form) (a b : List ℕ) (hands : List HandPair) (A : AcceptWith f a hands) (S : ButSequence a b) where
  pub sequence_changes : ChangesOnly f a b (λ k. ⊥)
  sequence_changes = record {
    front = record {
      longer = omega (arith, S.size);
      low = λ i _ beside. S.others i beside;
      undo_area = λ i held. S.others i (inr (omega (arith, (area_within f a i A.area_ok held).0)));
    };
    chains = λ k low _. chain_stays f a b hands k low A (omega (arith, S.size))
        (word_agrees f.order b a (chain_head k) (λ i from to. S.others i (inr (omega arith))))
        (λ i held. S.others i (inr (omega (arith, (chain_in f a hands A k i low held).0))));
  }

  pub sequence_frees : FreeStays f a b
  sequence_frees =
      free_stays f a b hands A (omega (arith, S.size)) (word_agrees f.order b a free_head (λ i from to. S.others i (inr (omega arith))))
      (λ i held. S.others i (inr (omega (arith, (free_in f a hands A i held).0))))

-- with another sequence number the image is accepted with the same hands, and holds the same
pub sequence_stays : (f : Form) (a b : List ℕ) (hands : List HandPair) → AcceptWith f a hands → ButSequence a b → ChainsStay f a b hands
sequence_stays f a b hands A S = record {
  accepted = sequence_accepted f a b hands A S;
  map = sequence_map f a b hands A S;
  only = sequence_changes f a b hands A S;
}

-- one such change and another
pub stays_then : (f : Form) (a b c : List ℕ) (hands news : List HandPair) → ChainsStay f a b hands → ChainsStay f b c news → ChainsStay f a c news
stays_then f a b c hands news S T = record {
  accepted = T.accepted;
  map = λ key. T.map key ∙ S.map key;
  only = changes_then f a b c (λ k. ⊥) S.only T.only;
}

-- a chain that stays holds the same pairs
pub chain_pairs : (f : Form) (a b : List ℕ) (hands : List HandPair) (k : ℕ) → k < f.chains → AcceptWith f a hands → length a ≤ length b → ChainStays f a b k → pairs f.order b (chain_of f b k) ≡ pairs f.order a (chain_of f a k)
chain_pairs f a b hands k low A longer S =
    ap (pairs f.order b) S.same_offsets
    ∙ pairs_kept f IsChained a b k (word f.order a (chain_head k)) (chain_of f a k) longer (A.chains k low) (bodies_still f a b (chain_of f a k) S.bytes) (A.filed k low)

-- where a key's chain stays, what the map has for it does
pub map_stays : (f : Form) (a b : List ℕ) (hands news : List HandPair) (key : List ℕ) → AcceptWith f a hands → AcceptWith f b news → length a ≤ length b → ChainStays f a b (home f key) → map_of f b key ≡ map_of f a key
map_stays f a b hands news key A B longer S =
    map_home f b key (accepted_filed f b news B)
    ∙ ap (lookup (same_key key)) (chain_pairs f a b hands (home f key) (home_below f key A.some) A longer S)
    ∙ sym (map_home f a key (accepted_filed f a hands A))
