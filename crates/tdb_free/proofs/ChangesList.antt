-- Whatever a take and a give of an accepted image answer, they change no chain, nor the header and the undo area.
use Rattle.std.proofs.Common.{◌≡◌, ℕ, ◌+◌, ◌^◌, ◌<◌, ◌≤◌, List, [], ◌∷◌, length, inl, inr, arith}
use Rattle.std.specs.Prelude.{slice_index}
use Rattle.std.proofs.lemmas.Bool.{cases_lt}
use Rattle.tdb_words.specs.Word.{word}
use Rattle.tdb_words.proofs.Words.{word_agrees}
use Rattle.tdb_space.specs.Form.{Form, data_start, free_head, chain_head}
use Rattle.tdb_space.specs.Record.{IsFree, IsChained}
use Rattle.tdb_space.specs.Chain.{chain_of, free_of}
use Rattle.tdb_space.specs.Extents.{HandPair, times, extents, hand_extents}
use Rattle.tdb_space.specs.Accepted.{AcceptWith}
use Rattle.tdb_space.specs.Stays.{ChangesOnly}
use Rattle.tdb_space.proofs.Accepted.Areas.{area_within}
use Rattle.tdb_space.proofs.Extents.Counts.{once_out, times_all, times_member}
use Rattle.tdb_space.proofs.Exchange.Kept.{times_within}
use Rattle.tdb_space.proofs.Stays.Changes.{chain_stays}
use Rattle.tdb_free.specs.FreeList.{CanBeGiven}
use Rattle.tdb_free.specs.Growth.{CanBeTaken}
use Rattle.tdb_free.specs.OnlyList.{OnlyListChanges}
use Rattle.tdb_free.proofs.Accepted.{can_be_given}
use Rattle.tdb_free.proofs.Stopped.{hands_above}
use Rattle.tdb_free.proofs.Traded.{can_take}

-- where only the free list of an accepted image and hands of it changed, no chain did, nor the header and the undo area
module _ (f : Form) (a b : List ℕ) (out hands : List HandPair) (A : AcceptWith f a out) (among_out : (i : ℕ) → times (hand_extents hands) i ≤ times (hand_extents out) i) (O : OnlyListChanges f a b (free_of f a) hands) where
  -- a byte behind the heads that neither the list nor a hand holds
  kept_behind : (i : ℕ) → data_start f ≤ i → i < length a → times (extents f.order a (free_of f a)) i + times (hand_extents out) i ≡ 0 → slice_index b i ≡ slice_index a i
  kept_behind i from low none = O.others i low (omega (arith, none, among_out i, once_out (free_head, 4) i (inr (omega (arith, from)))))

  -- and one in front of the data, behind the head of the list
  kept_front : (i : ℕ) → free_head + 4 ≤ i → i < data_start f → slice_index b i ≡ slice_index a i
  kept_front i behind under =
      O.others i (omega (arith, under, A.long))
      (elim (cases_lt 0 (times (extents f.order a (free_of f a)) i)) [
        | inl some ↦ absurd (omega (arith, under, (times_within f IsFree a (word f.order a free_head) (free_of f a) i A.frees some).0))
        | inr none ↦ omega (arith, none, hands_above f a out i A.held under, among_out i, once_out (free_head, 4) i (inr behind))
      ])

  pub list_changes : ChangesOnly f a b (λ k. ⊥)
  list_changes = record {
    front = record {
      longer = O.longer;
      low = λ i below _. O.header i below;
      undo_area = λ i held.
          (let within = area_within f a i A.area_ok held in
          kept_behind i within.0 within.1 (omega (arith, held, A.apart i, times_all f a (chain_of f a) (free_of f a) out i)));
    };
    chains = λ k low _. chain_stays f a b out k low A O.longer
        (word_agrees f.order b a (chain_head k) (λ i from to. kept_front i (omega (arith, from)) (omega (arith, to, low))))
        (λ i held.
        (let within = times_within f IsChained a (word f.order a (chain_head k)) (chain_of f a k) i (A.chains k low) held in
        kept_behind i within.0 within.1
        (omega (arith, held, A.apart i, times_all f a (chain_of f a) (free_of f a) out i, times_member (λ j. extents f.order a (chain_of f a j)) k i f.chains low))));
  }

-- so a give changes no chain, nor does a take, whatever they answer
pub give_changes : (f : Form) (a b : List ℕ) (h : HandPair) (others : List HandPair) → AcceptWith f a (h ∷ others) → length a < 2 ^ 32 → ((offs : List ℕ) → CanBeGiven f a offs h → OnlyListChanges f a b offs (h ∷ [])) → ChangesOnly f a b (λ k. ⊥)
give_changes f a b h others A short only =
    list_changes f a b (h ∷ others) (h ∷ []) A (λ i. omega arith) (only (free_of f a) (can_be_given f a h others A short))

pub take_changes : (f : Form) (a b : List ℕ) (hands : List HandPair) → AcceptWith f a hands → length a < 2 ^ 32 → ((offs : List ℕ) → CanBeTaken f a offs → OnlyListChanges f a b offs []) → ChangesOnly f a b (λ k. ⊥)
take_changes f a b hands A short only = list_changes f a b hands [] A (λ i. omega arith) (only (free_of f a) (can_take f a hands A short))
