-- A chain that is exchanged for another is changed as calls promise it, and two such changes of one chain are one.
use Rattle.std.proofs.Common.{◌≡◌, ℕ, ◌+◌, ◌<◌, ◌≤◌, ◌⊎◌, List, ◌∙◌, ap, inl, inr, arith}
use Rattle.std.specs.Prelude.{slice_index}
use Rattle.std.proofs.lemmas.Bool.{cases_lt}
use Rattle.tdb_words.specs.Word.{word}
use Rattle.tdb_space.specs.Form.{Form, chain_head, data_start, free_head}
use Rattle.tdb_space.specs.Record.{IsChained}
use Rattle.tdb_space.specs.Chain.{chain_of}
use Rattle.tdb_space.specs.Extents.{HandPair, AllHandOk, times, extents, hand_extents}
use Rattle.tdb_space.specs.Accepted.{AcceptWith}
use Rattle.tdb_space.specs.Exchange.{Exchanged}
use Rattle.tdb_space.proofs.Accepted.Hands.{hands_above}
use Rattle.tdb_space.proofs.Accepted.Swaps.{exchanged, chain_now}
use Rattle.tdb_space.proofs.Exchange.Kept.{times_within}
use Rattle.tdb_space.proofs.Stays.Changes.{exchanged_changes, exchanged_free, changes_then, free_then_stays}
use Rattle.tdb_chain.specs.Changed.{ChainChanged}

-- one chain and the hands were exchanged, and nothing beside the chain and the caller's own hands was written
pub changed_by : (f : Form) (a b : List ℕ) (j : ℕ) (ys : List ℕ) (own before after : List HandPair) → j < f.chains → AcceptWith f a before → Exchanged f a b j (chain_of f a j) ys before after → ((i : ℕ) → (i < chain_head j) ⊎ (chain_head j + 4 ≤ i) → times (extents f.order a (chain_of f a j)) i + times (hand_extents own) i ≡ 0 → slice_index b i ≡ slice_index a i) → ChainChanged f a b j ys own before after
changed_by f a b j ys own before after low A E others = record {
  accepted = exchanged f a b j ys before after low A E;
  size = E.size;
  offsets = chain_now f a b j ys before after low A E;
  others = others;
  count = λ i. ap (λ xs. times (extents f.order b xs) i + times (hand_extents after) i) (chain_now f a b j ys before after low A E) ∙ E.count i;
  only = exchanged_changes f a b j ys before after low A E;
  frees = exchanged_free f a b j ys before after low A E;
}

-- Two changes of one chain. The hands between them may stand in another order, and what the second writes the first
-- left to the chain, or it is the caller's own.
pub changed_then : (f : Form) (a b c : List ℕ) (j : ℕ) (ys zs : List ℕ) (own first before middle turned after : List HandPair) → ChainChanged f a b j ys first before middle → ChainChanged f b c j zs own turned after → ((i : ℕ) → times (hand_extents turned) i ≡ times (hand_extents middle) i) → ((i : ℕ) → times (extents f.order a (chain_of f a j)) i + times (hand_extents own) i ≡ 0 → (times (hand_extents first) i ≡ 0) × (times (extents f.order b (chain_of f b j)) i ≡ 0)) → ChainChanged f a c j zs own before after
changed_then f a b c j ys zs own first before middle turned after C D same apart = record {
  accepted = D.accepted;
  size = D.size ∙ C.size;
  offsets = D.offsets;
  others = λ i beside none. D.others i beside (omega (arith, none, (apart i none).1)) ∙ C.others i beside (omega (arith, none, (apart i none).0));
  count = λ i. omega (arith, D.count i, C.count i, same i);
  only = changes_then f a b c (λ k. k ≡ j) C.only D.only;
  frees = free_then_stays f a b c C.frees D.frees;
}

-- the records of a chain stand behind the heads
chain_above : (f : Form) (a : List ℕ) (hands : List HandPair) (j i : ℕ) → j < f.chains → AcceptWith f a hands → i < data_start f → times (extents f.order a (chain_of f a j)) i ≡ 0
chain_above f a hands j i low A under =
    elim (cases_lt 0 (times (extents f.order a (chain_of f a j)) i)) [
      | inl some ↦ absurd (omega (arith, under, (times_within f IsChained a (word f.order a (chain_head j)) (chain_of f a j) i (A.chains j low) (omega (arith, some))).0))
      | inr none ↦ omega (arith, none)
    ]

-- so no byte of the header changes
pub header_stays : (f : Form) (a b : List ℕ) (j : ℕ) (ys : List ℕ) (own before after : List HandPair) → j < f.chains → AcceptWith f a before → AllHandOk f a own → ChainChanged f a b j ys own before after → (i : ℕ) → i < free_head → slice_index b i ≡ slice_index a i
header_stays f a b j ys own before after low A held C i under =
    C.others i (inl (omega (arith, under)))
    (omega (arith, chain_above f a before j i low A (omega (arith, under)), hands_above f a own i held (omega (arith, under))))
