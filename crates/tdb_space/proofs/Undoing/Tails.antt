-- An accepted image that has no undo area, with a shut one or zeros behind it, is accepted and holds the same pairs.
use Rattle.std.proofs.Common.{◌≡◌, ℕ, ◌+◌, ◌<◌, ◌≤◌, List, [], ◌∷◌, length, refl, inl, inr, arith}
use Rattle.std.proofs.lemmas.Bool.{cases_lt, cases_eq, eq-eqb, ne_eqb}
use Rattle.tdb_words.specs.Word.{word}
use Rattle.tdb_space.specs.Form.{Form, form_of, data_start, chain_head}
use Rattle.tdb_space.specs.Record.{IsChained}
use Rattle.tdb_space.specs.Chain.{chain_of, free_of}
use Rattle.tdb_space.specs.Pairs.{joined}
use Rattle.tdb_space.specs.Extents.{times, extents, extent_at, area}
use Rattle.tdb_space.specs.Accepted.{AcceptWith, Accept}
use Rattle.tdb_space.specs.Moved.{AreaMoved, StaysAccepted}
use Rattle.tdb_space.specs.Undoing.{TailOf, Reopens}
use Rattle.tdb_space.proofs.Extents.Counts.{once_lies, times_all}
use Rattle.tdb_space.proofs.Exchange.Kept.{times_within}
use Rattle.tdb_space.proofs.Accepted.Remains.{listed_within}
use Rattle.tdb_space.proofs.Moved.SameLists.{moved_stays, stays_reopens}

-- a byte that the chains or the free list of an accepted image hold stands behind the heads and within the image
pub lists_within : (f : Form) (a : List ℕ) → AcceptWith f a [] → (i : ℕ) → 1 ≤ times (joined f.chains (λ k. extents f.order a (chain_of f a k))) i + times (extents f.order a (free_of f a)) i → (data_start f ≤ i) × (i < length a)
lists_within f a A i some = listed_within f a [] i A (omega (arith, some, times_all f a (chain_of f a) (free_of f a) [] i))

-- none of them holds a byte past its end
pub held_past : (f : Form) (a : List ℕ) → AcceptWith f a [] → (i : ℕ) → length a ≤ i → times (joined f.chains (λ k. extents f.order a (chain_of f a k))) i + times (extents f.order a (free_of f a)) i ≡ 0
held_past f a A i past =
    elim (cases_lt 0 (times (joined f.chains (λ k. extents f.order a (chain_of f a k))) i + times (extents f.order a (free_of f a)) i)) [
      | inl some ↦ absurd (omega (arith, past, (lists_within f a A i (omega (arith, some))).1))
      | inr none ↦ omega (arith, none)
    ]

-- no undo area, and the bytes of one
pub no_area_held : (f : Form) (a : List ℕ) (i : ℕ) → word f.order a 44 ≡ 0 → times (area f.order a) i ≡ 0
no_area_held f a i none = rw (eq-eqb (word f.order a 44) 0 none) refl

pub area_from : (f : Form) (a : List ℕ) (i : ℕ) → 1 ≤ times (area f.order a) i → (word f.order a 44 ≤ i) × (word f.order a 44 ≡ 0 → ⊥)
area_from f a i held =
    elim (cases_eq (word f.order a 44) 0) [
      | inl none ↦ absurd (omega (arith, held, no_area_held f a i none))
      | inr some ↦
          let held_once : 1 ≤ times (extent_at f.order a (word f.order a 44) ∷ []) i = rw (ne_eqb (word f.order a 44) 0 some) at held in
          ((once_lies (extent_at f.order a (word f.order a 44)) i (omega (arith, held_once))).0, some)
    ]

module _ (f : Form) (r c : List ℕ) (A : AcceptWith f r []) (none : word f.order r 44 ≡ 0) (t : TailOf f r c) where
  area_past : (i : ℕ) → 1 ≤ times (area f.order c) i → length r ≤ i
  area_past i held =
      let from = area_from f c i held in
      elim t.behind [ inl gone ↦ absurd (from.1 gone) | inr past ↦ omega (arith, past, from.0) ]

  tail_moved : AreaMoved f r c
  tail_moved = record {
    sized = t.sized;
    long = omega (arith, A.long, t.longer);
    low = λ i under beside. t.front i (omega (arith, under, A.long)) (elim beside [ inl before ↦ inl before | inr after ↦ inr (omega (arith, after)) ]);
    chains = λ k low i held.
        (let w = times_within f IsChained r (word f.order r (chain_head k)) (chain_of f r k) i (A.chains k low) held in
        (omega (arith, w.1, t.longer), t.front i w.1 (inr (omega (arith, w.0)))));
    frees = λ i held. (let w = lists_within f r A i (omega (arith, held)) in (omega (arith, w.1, t.longer), t.front i w.1 (inr (omega (arith, w.0)))));
    area_ok = t.area_ok;
    shut = t.shut;
    apart = λ i held. held_past f r A i (area_past i held);
    others = λ i from to out.
        elim (cases_lt i (length r)) [
          | inl within ↦ inl (no_area_held f r i none, t.front i within (inr (omega (arith, from))))
          | inr past ↦ inr (t.zeros i past to out)
        ];
  }

  tail_stays : StaysAccepted f r c
  tail_stays = moved_stays f r c A tail_moved

pub tail_reopens : (r c : List ℕ) → Accept r → word (form_of r).order r 44 ≡ 0 → TailOf (form_of r) r c → Reopens r c
tail_reopens r c A none t = stays_reopens r c (tail_stays (form_of r) r c A none t) (λ i from to. t.front i (omega (arith, to, A.long)) (inr from))
