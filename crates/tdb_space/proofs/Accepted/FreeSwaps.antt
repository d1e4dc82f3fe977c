-- The free list's records and the hands are exchanged for others: the image stays accepted, and its pairs are as
-- before.
use Rattle.std.proofs.Common.{◌≡◌, ℕ, ◌+◌, ◌<◌, ◌≤◌, ◌⊎◌, List, length, sym, ◌∙◌, ap, subst, inl, inr, arith}
use Rattle.std.specs.Prelude.{slice_index, ◌%◌}
use Rattle.std.specs.Map.{lookup}
use Rattle.tdb_words.specs.Word.{word}
use Rattle.tdb_words.proofs.Words.{word_agrees}
use Rattle.tdb_space.specs.Form.{Form, chain_head, free_head, data_start, SameHeader}
use Rattle.tdb_space.specs.Record.{IsChained}
use Rattle.tdb_space.specs.Chain.{Linked, chain_of, free_of}
use Rattle.tdb_space.specs.Pairs.{joined, pairs, order_of, map_of, same_key}
use Rattle.tdb_space.specs.Extents.{HandPair, times, extents, area, all_extents, hand_extents}
use Rattle.tdb_space.specs.Accepted.{AreaOk, Shut, LaidOut, AcceptWith}
use Rattle.tdb_space.specs.Exchange.{FreeExchanged}
use Rattle.tdb_space.proofs.Extents.Counts.{times_all, times_member, joined_same}
use Rattle.tdb_space.proofs.Exchange.Kept.{Still, ChainKept, chain_kept, times_within}
use Rattle.tdb_space.proofs.Form.Headers.{form_kept, header_kept}
use Rattle.tdb_space.proofs.Accepted.Laid.{accepted, order_met, chains_met, free_met}
use Rattle.tdb_space.proofs.Accepted.Areas.{area_still, area_within}
use Rattle.tdb_space.proofs.Accepted.Hands.{hands_kept}

module _ (f : Form) (a b : List ℕ) (ys : List ℕ) (hands news : List HandPair) (A : AcceptWith f a hands) (E : FreeExchanged f a b (free_of f a) ys hands news) where
  longer : length a ≤ length b
  longer = omega (arith, E.size)

  parts : (i : ℕ) → times (all_extents f a (chain_of f a) (free_of f a) hands) i ≡ times (joined f.chains (λ k. extents f.order a (chain_of f a k))) i + times (extents f.order a (free_of f a)) i + times (area f.order a) i + times (hand_extents hands) i
  parts i = times_all f a (chain_of f a) (free_of f a) hands i

  -- the bytes of the chains and of the undo area stay
  chain_still : (k : ℕ) → k < f.chains → Still a b f (chain_of f a k)
  chain_still k low i held =
      E.high i (times_within f IsChained a (word f.order a (chain_head k)) (chain_of f a k) i (A.chains k low) held).0
      (omega (arith, held, A.apart i, parts i, times_member (λ l. extents f.order a (chain_of f a l)) k i f.chains low))

  undo_still : (i : ℕ) → 1 ≤ times (area f.order a) i → slice_index b i ≡ slice_index a i
  undo_still i held = E.high i (area_within f a i A.area_ok held).0 (omega (arith, held, A.apart i, parts i))

  low_word : (at : ℕ) → at + 4 ≤ data_start f → (at + 4 ≤ free_head) ⊎ (free_head + 4 ≤ at) → word f.order b at ≡ word f.order a at
  low_word at below apart = word_agrees f.order b a at (λ i from to. E.low i (omega arith) (elim apart [ inl under ↦ inl (omega arith) | inr over ↦ inr (omega arith) ]))

  same_header : SameHeader a b
  same_header i where_at = E.low i (elim where_at [ inl lt ↦ omega arith | inr both ↦ omega (arith, both.1) ]) (inl (elim where_at [ inl lt ↦ omega arith | inr both ↦ omega (arith, both.1) ]))

  undo : (area f.order b ≡ area f.order a) × AreaOk f b × Shut f b
  undo = area_still f a b longer (low_word 44 (omega arith) (inl (omega arith))) undo_still A.area_ok A.shut

  -- so the chains are as before
  chain : (k : ℕ) → k < f.chains → ChainKept f a b k (word f.order a (chain_head k)) (chain_of f a k)
  chain k low = chain_kept f a b k (word f.order a (chain_head k)) (chain_of f a k) longer (A.chains k low) (A.filed k low) (A.keys k low) (chain_still k low)

  chain_linked : (k : ℕ) → k < f.chains → Linked f IsChained b (word f.order b (chain_head k)) (chain_of f a k)
  chain_linked k low = subst (λ at. Linked f IsChained b at (chain_of f a k)) (sym (low_word (chain_head k) (omega arith) (inr (omega arith)))) (chain k low).linked

  -- each byte is held as often as before
  counts : (i : ℕ) → times (all_extents f b (chain_of f a) ys news) i ≡ times (all_extents f a (chain_of f a) (free_of f a) hands) i
  counts i =
      let chains : times (joined f.chains (λ k. extents f.order b (chain_of f a k))) i ≡ times (joined f.chains (λ k. extents f.order a (chain_of f a k))) i =
      ap (λ es. times es i) (joined_same f.chains (λ k. extents f.order b (chain_of f a k)) (λ k. extents f.order a (chain_of f a k)) (λ k low. (chain k low).same_extents)) in
      let undos : times (area f.order b) i ≡ times (area f.order a) i = ap (λ es. times es i) undo.0 in
      omega (arith, chains, undos, parts i, times_all f b (chain_of f a) ys news i, E.count i)

  laid : LaidOut f b (chain_of f a) ys news
  laid = record {
    header = header_kept a b (omega (arith, E.size, A.long)) same_header A.header;
    form = form_kept a b same_header ∙ A.form;
    some = A.some;
    sized = ap (λ n. n % 4) E.size ∙ A.sized;
    long = omega (arith, E.size, A.long);
    area_ok = undo.1;
    shut = undo.2;
    chains = chain_linked;
    frees = E.linked;
    filed = λ k low. (chain k low).filed;
    keys = λ k low. (chain k low).keys;
    held = hands_kept f a b news longer E.held;
    apart = λ i. omega (arith, counts i, A.apart i);
    stray = λ i above below none.
        (let nothing : times (all_extents f a (chain_of f a) (free_of f a) hands) i ≡ 0 = sym (counts i) ∙ none in
        let same : slice_index b i ≡ slice_index a i = E.high i above (omega (arith, nothing, parts i)) in
        elim (A.stray i above (omega (arith, below, E.size)) nothing) [ inl zero_there ↦ inl (same ∙ zero_there) | inr padding ↦ inr (same ∙ padding) ]);
  }

  -- the image is accepted with the new hands
  pub free_exchanged : AcceptWith f b news
  free_exchanged = accepted f b (chain_of f a) ys news laid

  -- its free list is the new one, its chains are the old ones, and so are its pairs and its map
  pub free_list_now : free_of f b ≡ ys
  free_list_now = free_met f b (chain_of f a) ys news laid

  pub free_chain : (k : ℕ) → k < f.chains → chain_of f b k ≡ chain_of f a k
  free_chain = chains_met f b (chain_of f a) ys news laid

  pub free_order : order_of f b ≡ order_of f a
  free_order =
      order_met f b (chain_of f a) ys news laid
      ∙ joined_same f.chains (λ k. pairs f.order b (chain_of f a k)) (λ k. pairs f.order a (chain_of f a k)) (λ k low. (chain k low).same_pairs)

  pub free_map : (q : List ℕ) → map_of f b q ≡ map_of f a q
  free_map q = ap (lookup (same_key q)) free_order
