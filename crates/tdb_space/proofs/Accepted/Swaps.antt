-- One chain's records and the hands are exchanged for others: the image stays accepted, and the map changes as the
-- chain does.
use Rattle.std.proofs.Common.{◌≡◌, ℕ, ◌+◌, ◌<◌, ◌≤◌, ◌⊎◌, List, length, cond, Option, eqb, false, refl, sym, ◌∙◌, ap, subst, inl, inr, arith}
use Rattle.std.specs.Prelude.{slice_index, ◌%◌, if◌then◌else◌}
use Rattle.std.specs.Map.{lookup, update}
use Rattle.std.proofs.lemmas.Bool.{cases_lt, cases_eq, eq-eqb, ne_eqb}
use Rattle.tdb_words.specs.Word.{word}
use Rattle.tdb_words.proofs.Words.{word_agrees}
use Rattle.tdb_space.specs.Form.{Form, chain_head, free_head, data_start, SameHeader}
use Rattle.tdb_space.specs.Record.{IsChained, IsFree}
use Rattle.tdb_space.specs.Chain.{Linked, chain_of, free_of}
use Rattle.tdb_space.specs.Pairs.{joined, pairs, map_of, home, same_key}
use Rattle.tdb_space.specs.Extents.{HandPair, times, extents, area, all_extents, hand_extents}
use Rattle.tdb_space.specs.Accepted.{AreaOk, Shut, AllFiled, KeysDiffer, LaidOut, AcceptWith}
use Rattle.tdb_space.specs.Exchange.{Exchanged}
use Rattle.tdb_space.proofs.Extents.Counts.{times_all, times_member, times_two, times_swapped}
use Rattle.tdb_space.proofs.Exchange.Kept.{Still, ChainKept, chain_kept, bodies_still, list_left, extents_kept, times_within}
use Rattle.tdb_space.proofs.Accepted.Areas.{area_still, area_within}
use Rattle.tdb_space.proofs.Accepted.Hands.{hands_kept}
use Rattle.tdb_space.proofs.Form.Headers.{form_kept, header_kept}
use Rattle.tdb_space.proofs.Accepted.Laid.{accepted, chains_met, free_met, accepted_filed}
use Rattle.tdb_space.proofs.Pairs.Maps.{map_home, home_below, same_key-other}

-- the chains, with others in the place of one
abbrev pub put : (ℕ → List ℕ) → ℕ → List ℕ → ℕ → List ℕ
put chain j ys k = if eqb k j then ys else chain k

pub put_here : (chain : ℕ → List ℕ) (j : ℕ) (ys : List ℕ) (k : ℕ) → k ≡ j → put chain j ys k ≡ ys
put_here chain j ys k e = rw (eq-eqb k j e) refl

pub put_other : (chain : ℕ → List ℕ) (j : ℕ) (ys : List ℕ) (k : ℕ) → (k ≡ j → ⊥) → put chain j ys k ≡ chain k
put_other chain j ys k ne = rw (ne_eqb k j ne) refl

-- what holds of each chain holds after another is put in the place of one
pub put_each : (P : ℕ → List ℕ → Type 0) (chain : ℕ → List ℕ) (j : ℕ) (ys : List ℕ) (n : ℕ) → P j ys → ((k : ℕ) → k < n → (k ≡ j → ⊥) → P k (chain k)) → (k : ℕ) → k < n → P k (put chain j ys k)
put_each P chain j ys n here others k low =
    elim (cases_eq k j) [
      | inl e ↦ subst (P k) (sym (put_here chain j ys k e)) (subst (λ l. P l ys) (sym e) here)
      | inr ne ↦ subst (P k) (sym (put_other chain j ys k ne)) (others k low ne)
    ]

module _ (f : Form) (a b : List ℕ) (j : ℕ) (ys : List ℕ) (hands news : List HandPair) (low_j : j < f.chains) (A : AcceptWith f a hands) (E : Exchanged f a b j (chain_of f a j) ys hands news) where
  longer : length a ≤ length b
  longer = omega (arith, E.size)

  -- how the count of all comes from its parts
  parts : (i : ℕ) → times (all_extents f a (chain_of f a) (free_of f a) hands) i ≡ times (joined f.chains (λ k. extents f.order a (chain_of f a k))) i + times (extents f.order a (free_of f a)) i + times (area f.order a) i + times (hand_extents hands) i
  parts i = times_all f a (chain_of f a) (free_of f a) hands i

  -- the bytes of the other chains, of the free list and of the undo area stay
  other_still : (k : ℕ) → k < f.chains → (k ≡ j → ⊥) → Still a b f (chain_of f a k)
  other_still k low ne i held =
      E.high i (times_within f IsChained a (word f.order a (chain_head k)) (chain_of f a k) i (A.chains k low) held).0
      (omega (arith, held, A.apart i, parts i, times_two (λ l. extents f.order a (chain_of f a l)) k j i f.chains low low_j ne))

  free_still : Still a b f (free_of f a)
  free_still i held =
      E.high i (times_within f IsFree a (word f.order a free_head) (free_of f a) i A.frees held).0
      (omega (arith, held, A.apart i, parts i, times_member (λ l. extents f.order a (chain_of f a l)) j i f.chains low_j))

  undo_still : (i : ℕ) → 1 ≤ times (area f.order a) i → slice_index b i ≡ slice_index a i
  undo_still i held =
      E.high i (area_within f a i A.area_ok held).0
      (omega (arith, held, A.apart i, parts i, times_member (λ l. extents f.order a (chain_of f a l)) j i f.chains low_j))

  -- so does what stands below the records, but for the head of the chain
  low_word : (at : ℕ) → at + 4 ≤ data_start f → (at + 4 ≤ chain_head j) ⊎ (chain_head j + 4 ≤ at) → word f.order b at ≡ word f.order a at
  low_word at below apart = word_agrees f.order b a at (λ i from to. E.low i (omega arith) (elim apart [ inl under ↦ inl (omega arith) | inr over ↦ inr (omega arith) ]))

  other_head : (k : ℕ) → k < f.chains → (k ≡ j → ⊥) → word f.order b (chain_head k) ≡ word f.order a (chain_head k)
  other_head k low ne = low_word (chain_head k) (omega arith) (elim (cases_lt k j) [ inl less ↦ inl (omega arith) | inr more ↦ inr (omega (arith, ne)) ])

  same_header : SameHeader a b
  same_header i where_at = E.low i (elim where_at [ inl lt ↦ omega arith | inr both ↦ omega (arith, both.1) ]) (inl (elim where_at [ inl lt ↦ omega arith | inr both ↦ omega (arith, both.1) ]))

  undo : (area f.order b ≡ area f.order a) × AreaOk f b × Shut f b
  undo = area_still f a b longer (low_word 44 (omega arith) (inl (omega arith))) undo_still A.area_ok A.shut

  -- the other chains and the free list are as before
  other : (k : ℕ) → k < f.chains → (k ≡ j → ⊥) → ChainKept f a b k (word f.order a (chain_head k)) (chain_of f a k)
  other k low ne = chain_kept f a b k (word f.order a (chain_head k)) (chain_of f a k) longer (A.chains k low) (A.filed k low) (A.keys k low) (other_still k low ne)

  other_linked : (k : ℕ) → k < f.chains → (k ≡ j → ⊥) → Linked f IsChained b (word f.order b (chain_head k)) (chain_of f a k)
  other_linked k low ne = subst (λ at. Linked f IsChained b at (chain_of f a k)) (sym (other_head k low ne)) (other k low ne).linked

  free_linked : Linked f IsFree b (word f.order b free_head) (free_of f a)
  free_linked =
      subst (λ at. Linked f IsFree b at (free_of f a)) (sym (low_word free_head (omega arith) (inl (omega arith))))
      (list_left f IsFree a b (word f.order a free_head) (free_of f a) longer A.frees free_still)

  -- each byte is held as often as before
  counts : (i : ℕ) → times (all_extents f b (put (chain_of f a) j ys) (free_of f a) news) i ≡ times (all_extents f a (chain_of f a) (free_of f a) hands) i
  counts i =
      let swapped = times_swapped (λ k. extents f.order b (put (chain_of f a) j ys k)) (λ k. extents f.order a (chain_of f a k)) j i f.chains low_j
      (λ k low ne. ap (extents f.order b) (put_other (chain_of f a) j ys k ne) ∙ (other k low ne).same_extents) in
      let here : times (extents f.order b (put (chain_of f a) j ys j)) i ≡ times (extents f.order b ys) i = ap (λ xs. times (extents f.order b xs) i) (put_here (chain_of f a) j ys j refl) in
      let frees : times (extents f.order b (free_of f a)) i ≡ times (extents f.order a (free_of f a)) i = ap (λ es. times es i) (extents_kept f a b (free_of f a) (bodies_still f a b (free_of f a) free_still)) in
      let undos : times (area f.order b) i ≡ times (area f.order a) i = ap (λ es. times es i) undo.0 in
      omega (arith, swapped, here, frees, undos, parts i, times_all f b (put (chain_of f a) j ys) (free_of f a) news i, E.count i)

  laid : LaidOut f b (put (chain_of f a) j ys) (free_of f a) news
  laid = record {
    header = header_kept a b (omega (arith, E.size, A.long)) same_header A.header;
    form = form_kept a b same_header ∙ A.form;
    some = A.some;
    sized = ap (λ n. n % 4) E.size ∙ A.sized;
    long = omega (arith, E.size, A.long);
    area_ok = undo.1;
    shut = undo.2;
    chains = put_each (λ k xs. Linked f IsChained b (word f.order b (chain_head k)) xs) (chain_of f a) j ys f.chains E.linked other_linked;
    frees = free_linked;
    filed = put_each (λ k xs. AllFiled f b k xs) (chain_of f a) j ys f.chains E.filed (λ k low ne. (other k low ne).filed);
    keys = put_each (λ k xs. KeysDiffer f b xs) (chain_of f a) j ys f.chains E.keys (λ k low ne. (other k low ne).keys);
    held = hands_kept f a b news longer E.held;
    apart = λ i. omega (arith, counts i, A.apart i);
    stray = λ i above below none.
        (let nothing : times (all_extents f a (chain_of f a) (free_of f a) hands) i ≡ 0 = sym (counts i) ∙ none in
        let same : slice_index b i ≡ slice_index a i = E.high i above (omega (arith, nothing, parts i, times_member (λ l. extents f.order a (chain_of f a l)) j i f.chains low_j)) in
        elim (A.stray i above (omega (arith, below, E.size)) nothing) [ inl zero_there ↦ inl (same ∙ zero_there) | inr padding ↦ inr (same ∙ padding) ]);
  }

  -- the image is accepted with the new hands
  pub exchanged : AcceptWith f b news
  exchanged = accepted f b (put (chain_of f a) j ys) (free_of f a) news laid

  -- its chains are the old ones but for the one that was exchanged, and its free list is the old one
  pub chain_now : chain_of f b j ≡ ys
  chain_now = chains_met f b (put (chain_of f a) j ys) (free_of f a) news laid j low_j ∙ put_here (chain_of f a) j ys j refl

  pub chain_else : (k : ℕ) → k < f.chains → (k ≡ j → ⊥) → chain_of f b k ≡ chain_of f a k
  chain_else k low ne = chains_met f b (put (chain_of f a) j ys) (free_of f a) news laid k low ∙ put_other (chain_of f a) j ys k ne

  pub free_else : free_of f b ≡ free_of f a
  free_else = free_met f b (put (chain_of f a) j ys) (free_of f a) news laid

  -- a key of the chain is looked up in its new records, and another one is found as before
  pub map_here : (q : List ℕ) → home f q ≡ j → map_of f b q ≡ lookup (same_key q) (pairs f.order b ys)
  map_here q e =
      map_home f b q (accepted_filed f b news exchanged) ∙ ap (λ k. lookup (same_key q) (pairs f.order b (chain_of f b k))) e
      ∙ ap (λ xs. lookup (same_key q) (pairs f.order b xs)) chain_now

  pub map_else : (q : List ℕ) → (home f q ≡ j → ⊥) → map_of f b q ≡ map_of f a q
  map_else q ne =
      let low = home_below f q A.some in
      map_home f b q (accepted_filed f b news exchanged)
      ∙ ap (λ xs. lookup (same_key q) (pairs f.order b xs)) (chain_else (home f q) low ne)
      ∙ ap (lookup (same_key q)) (other (home f q) low ne).same_pairs
      ∙ sym (map_home f a q (accepted_filed f a hands A))

  -- so the map stays where the pairs of the chain do
  pub map_same : ((q : List ℕ) → lookup (same_key q) (pairs f.order b ys) ≡ lookup (same_key q) (pairs f.order a (chain_of f a j))) → (q : List ℕ) → map_of f b q ≡ map_of f a q
  map_same same q =
      elim (cases_eq (home f q) j) [
        | inl e ↦
            map_here q e ∙ same q ∙ ap (λ k. lookup (same_key q) (pairs f.order a (chain_of f a k))) (sym e)
            ∙ sym (map_home f a q (accepted_filed f a hands A))
        | inr ne ↦ map_else q ne
      ]

  -- and changes at one key where the pairs of the chain do
  pub map_updated : (k : List ℕ) (w : Option (List ℕ)) → home f k ≡ j → ((q : List ℕ) → lookup (same_key q) (pairs f.order b ys) ≡ update same_key (λ p. lookup (same_key p) (pairs f.order a (chain_of f a j))) k w q) → (q : List ℕ) → map_of f b q ≡ update same_key (map_of f a) k w q
  map_updated k w here changed q =
      elim (cases_eq (home f q) j) [
        | inl e ↦
            map_here q e ∙ changed q
            ∙ ap (λ o. cond (same_key k q) w o) (ap (λ l. lookup (same_key q) (pairs f.order a (chain_of f a l))) (sym e) ∙ sym (map_home f a q (accepted_filed f a hands A)))
        | inr ne ↦
            let apart : same_key k q ≡ false = same_key-other k q (λ same. ne (ap (home f) (sym same) ∙ here)) in
            map_else q ne ∙ sym (rw apart refl)
      ]
