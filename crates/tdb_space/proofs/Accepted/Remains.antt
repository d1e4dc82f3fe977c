-- An image in which what the lists and the undo area hold stays: it is laid out in the same lists, whatever happens
-- elsewhere.
use Rattle.std.proofs.Common.{◌≡◌, ℕ, zero, suc, ◌+◌, ◌<◌, ◌≤◌, ◌⊎◌, List, [], length, sym, ◌∙◌, ap, subst, inl, inr, arith}
use Rattle.std.specs.Prelude.{slice_index, ◌%◌}
use Rattle.std.specs.Map.{lookup}
use Rattle.std.proofs.lemmas.Bool.{cases_lt}
use Rattle.tdb_words.specs.declared.record.TheConstants.{PADDING}
use Rattle.tdb_words.specs.Word.{word}
use Rattle.tdb_words.proofs.Words.{word_agrees}
use Rattle.tdb_space.specs.Form.{Form, chain_head, free_head, data_start, SameHeader}
use Rattle.tdb_space.specs.Record.{IsChained, IsFree}
use Rattle.tdb_space.specs.Chain.{Linked, chain_of, free_of}
use Rattle.tdb_space.specs.Pairs.{joined, pairs, order_of, map_of, same_key}
use Rattle.tdb_space.specs.Extents.{Extent, HandPair, AllHandOk, times, extents, area, all_extents, hand_extents}
use Rattle.tdb_space.specs.Accepted.{AreaOk, Shut, LaidOut, AcceptWith}
use Rattle.tdb_space.proofs.Extents.Counts.{times-append, times_all, times_member, joined_same}
use Rattle.tdb_space.proofs.Exchange.Kept.{Still, ChainKept, chain_kept, bodies_still, list_left, extents_kept, times_within}
use Rattle.tdb_space.proofs.Form.Headers.{form_kept, header_kept}
use Rattle.tdb_space.proofs.Accepted.Laid.{accepted, order_met, chains_met, free_met}
use Rattle.tdb_space.proofs.Accepted.Areas.{area_still, area_within}

-- how often the chains, the free list and the undo area of an image hold a byte
abbrev pub listed : Form → List ℕ → ℕ → ℕ
listed f a i = times (all_extents f a (chain_of f a) (free_of f a) []) i

-- the hands hold the others
pub listed_and : (f : Form) (a : List ℕ) (hands : List HandPair) (i : ℕ) → times (all_extents f a (chain_of f a) (free_of f a) hands) i ≡ listed f a i + times (hand_extents hands) i
listed_and f a hands i = omega (arith, times_all f a (chain_of f a) (free_of f a) hands i, times_all f a (chain_of f a) (free_of f a) [] i)

-- what holds of a byte of each of some extents holds of a byte of all
joined_within : (P : Type 0) (F : ℕ → List Extent) (n i : ℕ) → ((j : ℕ) → j < n → 1 ≤ times (F j) i → P) → 1 ≤ times (joined n F) i → P
joined_within P F zero i each some = absurd (omega (arith, some))
joined_within P F (suc n) i each some =
    elim (cases_lt 0 (times (F n) i)) [
      | inl here ↦ each n (omega arith) (omega (arith, here))
      | inr elsewhere ↦ joined_within P F n i (λ j low. each j (omega arith)) (omega (arith, some, elsewhere, times-append (joined n F) (F n) i))
    ]

-- a byte that they hold stands behind the heads and within the image
pub listed_within : (f : Form) (a : List ℕ) (hands : List HandPair) (i : ℕ) → AcceptWith f a hands → 1 ≤ listed f a i → (data_start f ≤ i) × (i < length a)
listed_within f a hands i A some =
    elim (cases_lt 0 (times (joined f.chains (λ j. extents f.order a (chain_of f a j))) i)) [
      | inl chained ↦
          joined_within ((data_start f ≤ i) × (i < length a)) (λ j. extents f.order a (chain_of f a j)) f.chains i
          (λ j low held. times_within f IsChained a (word f.order a (chain_head j)) (chain_of f a j) i (A.chains j low) held) (omega (arith, chained))
      | inr no_chain ↦
          elim (cases_lt 0 (times (extents f.order a (free_of f a)) i)) [
            | inl in_free ↦ times_within f IsFree a (word f.order a free_head) (free_of f a) i A.frees (omega (arith, in_free))
            | inr no_free ↦ area_within f a i A.area_ok (omega (arith, some, no_chain, no_free, times_all f a (chain_of f a) (free_of f a) [] i))
          ]
    ]

-- from image a to image b what stands below the records stays, but for the sequence number, and so does what the lists
-- and the undo area hold
pub record Remains (f : Form) (a b : List ℕ) : Type 0 where
  pub longer : length a ≤ length b
  pub low : (i : ℕ) → i < data_start f → (i < 48) ⊎ (52 ≤ i) → slice_index b i ≡ slice_index a i
  pub held : (i : ℕ) → 1 ≤ listed f a i → slice_index b i ≡ slice_index a i

module _ (f : Form) (a b : List ℕ) (hands : List HandPair) (A : AcceptWith f a hands) (R : Remains f a b) where
  parts : (i : ℕ) → listed f a i ≡ times (joined f.chains (λ k. extents f.order a (chain_of f a k))) i + times (extents f.order a (free_of f a)) i + times (area f.order a) i + 0
  parts i = times_all f a (chain_of f a) (free_of f a) [] i

  low_word : (at : ℕ) → at + 4 ≤ data_start f → (at + 4 ≤ 48) ⊎ (52 ≤ at) → word f.order b at ≡ word f.order a at
  low_word at below apart = word_agrees f.order b a at (λ i from to. R.low i (omega arith) (elim apart [ inl under ↦ inl (omega arith) | inr over ↦ inr (omega arith) ]))

  same_header : SameHeader a b
  same_header i where_at = R.low i (elim where_at [ inl lt ↦ omega arith | inr both ↦ omega (arith, both.1) ]) (elim where_at [ inl lt ↦ inl (omega arith) | inr both ↦ inr both.0 ])

  undo : (area f.order b ≡ area f.order a) × AreaOk f b × Shut f b
  undo = area_still f a b R.longer (low_word 44 (omega arith) (inl (omega arith))) (λ i some. R.held i (omega (arith, some, parts i))) A.area_ok A.shut

  chain : (k : ℕ) → k < f.chains → ChainKept f a b k (word f.order a (chain_head k)) (chain_of f a k)
  chain k low =
      chain_kept f a b k (word f.order a (chain_head k)) (chain_of f a k) R.longer (A.chains k low) (A.filed k low) (A.keys k low)
      (λ i some. R.held i (omega (arith, some, parts i, times_member (λ l. extents f.order a (chain_of f a l)) k i f.chains low)))

  free_still : Still a b f (free_of f a)
  free_still i some = R.held i (omega (arith, some, parts i))

  -- each byte is held as often as before, but for the hands
  pub remains_count : (news : List HandPair) (i : ℕ) → times (all_extents f b (chain_of f a) (free_of f a) news) i ≡ listed f a i + times (hand_extents news) i
  remains_count news i =
      let chains : times (joined f.chains (λ k. extents f.order b (chain_of f a k))) i ≡ times (joined f.chains (λ k. extents f.order a (chain_of f a k))) i =
      ap (λ es. times es i) (joined_same f.chains (λ k. extents f.order b (chain_of f a k)) (λ k. extents f.order a (chain_of f a k)) (λ k low. (chain k low).same_extents)) in
      let frees : times (extents f.order b (free_of f a)) i ≡ times (extents f.order a (free_of f a)) i = ap (λ es. times es i) (extents_kept f a b (free_of f a) (bodies_still f a b (free_of f a) free_still)) in
      let undos : times (area f.order b) i ≡ times (area f.order a) i = ap (λ es. times es i) undo.0 in
      omega (arith, chains, frees, undos, parts i, times_all f b (chain_of f a) (free_of f a) news i)

  -- so it is laid out in the same lists and these hands, where these hold what is new and nothing else
  module _ (news : List HandPair) (sized : length b % 4 ≡ 0) (in_place : AllHandOk f b news) (apart : (i : ℕ) → listed f a i + times (hand_extents news) i ≤ 1) (stray : (i : ℕ) → data_start f ≤ i → i < length b → listed f a i ≡ 0 → times (hand_extents news) i ≡ 0 → (slice_index b i ≡ 0) ⊎ (slice_index b i ≡ PADDING)) where
    pub remains_laid : LaidOut f b (chain_of f a) (free_of f a) news
    remains_laid = record {
      header = header_kept a b (omega (arith, R.longer, A.long)) same_header A.header;
      form = form_kept a b same_header ∙ A.form;
      some = A.some;
      sized = sized;
      long = omega (arith, R.longer, A.long);
      area_ok = undo.1;
      shut = undo.2;
      chains = λ k low. subst (λ at. Linked f IsChained b at (chain_of f a k)) (sym (low_word (chain_head k) (omega arith) (inr (omega arith)))) (chain k low).linked;
      frees = subst (λ at. Linked f IsFree b at (free_of f a)) (sym (low_word free_head (omega arith) (inr (omega arith))))
          (list_left f IsFree a b (word f.order a free_head) (free_of f a) R.longer A.frees free_still);
      filed = λ k low. (chain k low).filed;
      keys = λ k low. (chain k low).keys;
      held = in_place;
      apart = λ i. omega (arith, remains_count news i, apart i);
      stray = λ i from to none. stray i from to (omega (arith, none, remains_count news i)) (omega (arith, none, remains_count news i));
    }

    pub remains_accepted : AcceptWith f b news
    remains_accepted = accepted f b (chain_of f a) (free_of f a) news remains_laid

    -- its lists, its pairs and its map are the same
    pub remains_chain : (k : ℕ) → k < f.chains → chain_of f b k ≡ chain_of f a k
    remains_chain = chains_met f b (chain_of f a) (free_of f a) news remains_laid

    pub remains_free : free_of f b ≡ free_of f a
    remains_free = free_met f b (chain_of f a) (free_of f a) news remains_laid

    pub remains_order : order_of f b ≡ order_of f a
    remains_order =
        order_met f b (chain_of f a) (free_of f a) news remains_laid
        ∙ joined_same f.chains (λ k. pairs f.order b (chain_of f a k)) (λ k. pairs f.order a (chain_of f a k)) (λ k low. (chain k low).same_pairs)

    pub remains_map : (q : List ℕ) → map_of f b q ≡ map_of f a q
    remains_map q = ap (lookup (same_key q)) remains_order
