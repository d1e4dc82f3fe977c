-- One entry is written back in two pieces, around the undo area.
use Rattle.std.proofs.Common.{◌≡◌, ℕ, ◌+◌, ◌-◌, ◌<◌, ◌≤◌, ◌⊎◌, Bool, true, false, List, max, min, slice_index, ◌∙◌, inl, inr, arith}
use Rattle.std.specs.Prelude.{nat_le}
use Rattle.std.proofs.lemmas.Bool.{cases_Bool, and_parts, and_from, not-true, not_from_false, leb-true, le-leb}
use Rattle.tdb_space.specs.Opening.{lies_in}
use Rattle.tdb_undo.specs.declared.area.Area.{Area}
use Rattle.tdb_undo.specs.Torn.{Put}
use Rattle.tdb_undo.specs.Entries.{is_given}
use Rattle.tdb_undo.proofs.Lies.{lies, lies_not, lies_where, lies_outside}

abbrev pub stop : Area → ℕ
stop a = a.at + 24 + a.header.rec_len

-- the two pieces, by where they begin and end
abbrev pub first_from : ℕ → ℕ
first_from off = max off 64

abbrev pub first_to : Area → ℕ → ℕ → ℕ
first_to a off len = min (off + len) a.at

abbrev pub second_from : Area → ℕ → ℕ
second_from a off = max (max off 64) (stop a)

abbrev pub in_first : Area → ℕ → ℕ → ℕ → Bool
in_first a off len = lies_in (first_from off) (first_to a off len - first_from off)

abbrev pub in_second : Area → ℕ → ℕ → ℕ → Bool
in_second a off len = lies_in (second_from a off) (off + len - second_from a off)

-- a byte that is written to: the entry covers it, it isn't among the first 64, and it lies in front of the area or
-- behind it
pub given_parts : (a : Area) (off len i : ℕ) → is_given a off len i ≡ true → (off ≤ i) × (i < off + len) × (64 ≤ i) × ((i < a.at) ⊎ (stop a ≤ i))
given_parts a off len i h =
    let p = and_parts (lies_in off len i) _ h in
    let q = and_parts (nat_le 64 i) _ p.1 in
    let w = lies_where off len i p.0 in (
      w.0,
      w.1,
      leb-true 64 i q.0,
      elim (lies_outside a.at (24 + a.header.rec_len) i (not-true _ q.1)) [ inl low ↦ inl low | inr high ↦ inr (omega (arith, high)) ],
    )

pub given_from : (a : Area) (off len i : ℕ) → off ≤ i → i < off + len → 64 ≤ i → (i < a.at) ⊎ (stop a ≤ i) → is_given a off len i ≡ true
given_from a off len i above below front apart =
    and_from _ _ (lies off len i above below)
    (and_from _ _ (le-leb 64 i front)
    (not_from_false _ (lies_not a.at (24 + a.header.rec_len) i (elim apart [ inl low ↦ inl low | inr high ↦ inr (omega (arith, high)) ]))))

-- what isn't written to is in neither piece
both : (b : Bool) → b ≡ true → b ≡ false → ⊥
both b right wrong = cc

pub false_where : (b : Bool) → (b ≡ true → ⊥) → b ≡ false
false_where b never = elim (cases_Bool b) [ inl t ↦ absurd (never t) | inr f ↦ f ]

pub not_first : (a : Area) (off len i : ℕ) → is_given a off len i ≡ false → in_first a off len i ≡ false
not_first a off len i out = false_where (in_first a off len i) (λ t. (let w = lies_where (first_from off) (first_to a off len - first_from off) i t in
    both (is_given a off len i) (given_from a off len i (omega (arith, w.0)) (omega (arith, w.0, w.1)) (omega (arith, w.0)) (inl (omega (arith, w.0, w.1)))) out))

pub not_second : (a : Area) (off len i : ℕ) → is_given a off len i ≡ false → in_second a off len i ≡ false
not_second a off len i out = false_where (in_second a off len i) (λ t. (let w = lies_where (second_from a off) (off + len - second_from a off) i t in
    both (is_given a off len i) (given_from a off len i (omega (arith, w.0)) (omega (arith, w.0, w.1)) (omega (arith, w.0)) (inr (omega (arith, w.0)))) out))

-- what was put by both pieces, where what they copy stands in the area, which neither writes to
pub put_entry : (a : Area) (off len source : ℕ) (x y z : List ℕ) → a.at ≤ source → source + len ≤ stop a
    → Put (in_first a off len) (λ i. slice_index x (source + (i - off))) x y
    → Put (in_second a off len) (λ i. slice_index y (source + (i - off))) y z
    → Put (is_given a off len) (λ i. slice_index x (source + (i - off))) x z
put_entry a off len source x y z above within one two = record {
  size = two.size ∙ one.size;
  others = λ i out. two.others i (not_second a off len i out) ∙ one.others i (not_first a off len i out);
  inside = λ i in_it. (let p = given_parts a off len i in_it in elim p.3 [
    | inl low ↦ (
        two.others i (lies_not (second_from a off) (off + len - second_from a off) i (inl (omega (arith, low))))
        ∙ one.inside i (lies (first_from off) (first_to a off len - first_from off) i (omega (arith, p.0, p.2)) (omega (arith, p.0, p.1, p.2, low))))
    | inr high ↦ (
        two.inside i (lies (second_from a off) (off + len - second_from a off) i (omega (arith, p.0, p.2, high)) (omega (arith, p.0, p.1, p.2, high)))
        ∙ one.others (source + (i - off)) (beyond (source + (i - off)) (omega (arith, above))))
  ]);
}
  where
    beyond : (k : ℕ) → a.at ≤ k → in_first a off len k ≡ false
    beyond k high = false_where (in_first a off len k) (λ t. (let w = lies_where (first_from off) (first_to a off len - first_from off) k t in absurd (omega (arith, w.0, w.1, high))))
