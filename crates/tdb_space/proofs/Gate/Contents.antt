-- What stands in an undo area whose gate is shut counts for nothing.
use Rattle.std.proofs.Common.{◌≡◌, ℕ, ◌+◌, ◌<◌, ◌≤◌, ◌⊎◌, List, [], ◌∷◌, refl, sym, ◌∙◌, ap, subst, inl, inr, arith}
use Rattle.std.specs.Prelude.{◌%◌}
use Rattle.std.proofs.lemmas.Bool.{cases_lt, cases_eq, eq-eqb, ne_eqb}
use Rattle.tdb_words.specs.Word.{word}
use Rattle.tdb_words.proofs.Words.{word_agrees}
use Rattle.tdb_space.specs.Form.{Form}
use Rattle.tdb_space.specs.Record.{rec_len_of}
use Rattle.tdb_space.specs.Chain.{chain_of, free_of}
use Rattle.tdb_space.specs.Pairs.{joined}
use Rattle.tdb_space.specs.Extents.{times, extents, extent_at, area}
use Rattle.tdb_space.specs.Accepted.{AreaInPlace, AcceptWith}
use Rattle.tdb_space.specs.Moved.{AreaMoved, StaysAccepted}
use Rattle.tdb_space.specs.Undoing.{area_at, area_end}
use Rattle.tdb_space.specs.Gate.{InContent}
use Rattle.tdb_space.proofs.Extents.Counts.{once_in, once_out, times_all, times_member}
use Rattle.tdb_space.proofs.Moved.SameLists.{moved_stays}
use Rattle.tdb_space.proofs.Undoing.Tails.{lists_within}

-- how often the lists of an image hold a byte
abbrev pub in_lists : Form → List ℕ → ℕ → ℕ
in_lists f a i = times (joined f.chains (λ k. extents f.order a (chain_of f a k))) i + times (extents f.order a (free_of f a)) i

-- no byte is held by a list and by the undo area
pub area_apart : (f : Form) (a : List ℕ) → AcceptWith f a [] → (i : ℕ) → in_lists f a i + times (area f.order a) i ≤ 1
area_apart f a A i = omega (arith, A.apart i, times_all f a (chain_of f a) (free_of f a) [] i)

-- one chain is one of the lists
pub chain_in_lists : (f : Form) (a : List ℕ) (k i : ℕ) → k < f.chains → 1 ≤ times (extents f.order a (chain_of f a k)) i → 1 ≤ in_lists f a i
chain_in_lists f a k i low held = omega (arith, held, times_member (λ l. extents f.order a (chain_of f a l)) k i f.chains low)

-- the undo area holds just the bytes from its offset to its end
pub area_in : (f : Form) (a : List ℕ) (i : ℕ) → (word f.order a 44 ≡ 0 → ⊥) → area_at f a ≤ i → i < area_end f a → times (area f.order a) i ≡ 1
area_in f a i some from to = rw (ne_eqb (word f.order a 44) 0 some) (omega (arith, once_in (extent_at f.order a (word f.order a 44)) i from (omega (arith, to))))

pub area_out : (f : Form) (a : List ℕ) (i : ℕ) → (i < area_at f a) ⊎ (area_end f a ≤ i) → times (area f.order a) i ≡ 0
area_out f a i out =
    elim (cases_eq (word f.order a 44) 0) [
      | inl none ↦ rw (eq-eqb (word f.order a 44) 0 none) refl
      | inr some ↦ rw (ne_eqb (word f.order a 44) 0 some) (omega (arith, once_out (extent_at f.order a (word f.order a 44)) i (elim out [ inl lt ↦ inl lt | inr le ↦ inr (omega (arith, le)) ])))
    ]

-- a byte that it doesn't hold stands before or behind it
pub area_not : (f : Form) (a : List ℕ) (i : ℕ) → (word f.order a 44 ≡ 0 → ⊥) → times (area f.order a) i ≡ 0 → (i < area_at f a) ⊎ (area_end f a ≤ i)
area_not f a i some none =
    elim (cases_lt i (area_at f a)) [
      | inl low ↦ inl low
      | inr high ↦ elim (cases_lt i (area_end f a)) [ inl inside ↦ absurd (omega (arith, none, area_in f a i some high inside)) | inr past ↦ inr past ]
    ]

-- two images with the same word at 44, and the same length of the area there, have the same one
pub area_same : (f : Form) (a b : List ℕ) → word f.order b 44 ≡ word f.order a 44 → rec_len_of f.order b (area_at f a) ≡ rec_len_of f.order a (area_at f a) → area f.order b ≡ area f.order a
area_same f a b at len =
    elim (cases_eq (word f.order a 44) 0) [
      | inl none ↦ rw (eq-eqb (word f.order b 44) 0 (at ∙ none)) (rw (eq-eqb (word f.order a 44) 0 none) refl)
      | inr some ↦ rw (ne_eqb (word f.order b 44) 0 (λ e. some (sym at ∙ e))) (rw (ne_eqb (word f.order a 44) 0 some) (λ i. (at i, 24 + (ap (rec_len_of f.order b) at ∙ len) i) ∷ []))
    ]

module _ (f : Form) (a b : List ℕ) (A : AcceptWith f a []) (c : InContent f a b) where
  in_place : AreaInPlace f a (area_at f a)
  in_place = elim A.area_ok [ inl none ↦ absurd (c.some none) | inr place ↦ place ]

  there : word f.order b 44 ≡ word f.order a 44
  there = word_agrees f.order b a 44 (λ i _ to. c.others i (inl (omega (arith, to, in_place.above))))

  place_b : AreaInPlace f b (area_at f a)
  place_b = record {
    aligned = in_place.aligned;
    above = in_place.above;
    len_aligned = ap (λ n. n % 4) c.rec_len ∙ in_place.len_aligned;
    within = omega (arith, c.rec_len, c.size, in_place.within);
    gate = inr c.shut;
  }

  beside : (i : ℕ) → 1 ≤ in_lists f a i → (i < area_at f a) ⊎ (area_end f a ≤ i)
  beside i held = area_not f a i c.some (omega (arith, held, area_apart f a A i))

  moved : AreaMoved f a b
  moved = record {
    sized = ap (λ n. n % 4) c.size ∙ A.sized;
    long = omega (arith, c.size, A.long);
    low = λ i under _. c.others i (inl (omega (arith, under, in_place.above)));
    chains = λ k low i held. (let some = chain_in_lists f a k i low held in (omega (arith, c.size, (lists_within f a A i some).1), c.others i (beside i some)));
    frees = λ i held. (let some : 1 ≤ in_lists f a i = omega (arith, held) in (omega (arith, c.size, (lists_within f a A i some).1), c.others i (beside i some)));
    area_ok = inr (subst (AreaInPlace f b) (sym there) place_b);
    shut = inr (ap (λ at. word f.order b (at + 20)) there ∙ c.shut);
    apart = λ i held. (let e = ap (λ es. times es i) (area_same f a b there c.rec_len) in omega (arith, held, e, area_apart f a A i));
    others = λ i from to none. (let e = ap (λ es. times es i) (area_same f a b there c.rec_len) in let out : times (area f.order a) i ≡ 0 = omega (arith, none, e) in inl (out, c.others i (area_not f a i c.some out)));
  }

  pub content_free : StaysAccepted f a b
  content_free = moved_stays f a b A moved
