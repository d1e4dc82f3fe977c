-- One entry is given back in two pieces, in front of the undo area and behind it.
use Rattle.std.proofs.Common.{◌≡◌, ℕ, ◌+◌, ◌-◌, ◌<◌, ◌≤◌, ◌⊎◌, Bool, true, false, List, max, min, slice_index, ◌∙◌, inl, inr, arith}
use Rattle.std.specs.Prelude.{nat_lt}
use Rattle.std.proofs.lemmas.Bool.{cases_Bool, and_parts, and_from, not-true, not_from_false, ltb-true, lt-ltb}
use Rattle.tdb_space.specs.Opening.{lies_in}
use Rattle.tdb_undo.specs.Torn.{Put}
use Rattle.tdb_undo.proofs.Lies.{lies, lies_not, lies_where, lies_outside}
use Rattle.tdb_mend.specs.declared.area.UndoArea.{UndoArea}
use Rattle.tdb_mend.specs.Giving.{gives}

abbrev pub stop : UndoArea → ℕ
stop a = a.at + 24 + a.header.rec_len

-- where what an entry gives back ends
abbrev pub last_to : UndoArea → ℕ → ℕ → ℕ
last_to a off len = min (off + len) a.header.key_len

abbrev pub in_first : UndoArea → ℕ → ℕ → ℕ → Bool
in_first a off len = lies_in off (min (last_to a off len) a.at - off)

abbrev pub in_second : UndoArea → ℕ → ℕ → ℕ → Bool
in_second a off len = lies_in (max off (stop a)) (last_to a off len - max off (stop a))

-- a byte that is given back: the entry covers it, it lies below the old length, and in front of the area or behind it
given_parts : (a : UndoArea) (off len i : ℕ) → gives a off len i ≡ true → (off ≤ i) × (i < off + len) × (i < a.header.key_len) × ((i < a.at) ⊎ (stop a ≤ i))
given_parts a off len i h =
    let p = and_parts (lies_in off len i) _ h in
    let q = and_parts (nat_lt i a.header.key_len) _ p.1 in
    let w = lies_where off len i p.0 in (
      w.0,
      w.1,
      ltb-true i a.header.key_len q.0,
      elim (lies_outside a.at (24 + a.header.rec_len) i (not-true _ q.1)) [ inl low ↦ inl low | inr high ↦ inr (omega (arith, high)) ],
    )

given_from : (a : UndoArea) (off len i : ℕ) → off ≤ i → i < off + len → i < a.header.key_len → (i < a.at) ⊎ (stop a ≤ i) → gives a off len i ≡ true
given_from a off len i above below old apart =
    and_from _ _ (lies off len i above below)
    (and_from _ _ (lt-ltb i a.header.key_len old)
    (not_from_false _ (lies_not a.at (24 + a.header.rec_len) i (elim apart [ inl low ↦ inl low | inr high ↦ inr (omega (arith, high)) ]))))

-- what isn't given back is in neither piece
both : (b : Bool) → b ≡ true → b ≡ false → ⊥
both b right wrong = cc

false_where : (b : Bool) → (b ≡ true → ⊥) → b ≡ false
false_where b never = elim (cases_Bool b) [ inl t ↦ absurd (never t) | inr f ↦ f ]

not_first : (a : UndoArea) (off len i : ℕ) → gives a off len i ≡ false → in_first a off len i ≡ false
not_first a off len i out = false_where (in_first a off len i) (λ t. (let w = lies_where off (min (last_to a off len) a.at - off) i t in
    both (gives a off len i) (given_from a off len i w.0 (omega (arith, w.0, w.1)) (omega (arith, w.0, w.1)) (inl (omega (arith, w.0, w.1)))) out))

not_second : (a : UndoArea) (off len i : ℕ) → gives a off len i ≡ false → in_second a off len i ≡ false
not_second a off len i out = false_where (in_second a off len i) (λ t. (let w = lies_where (max off (stop a)) (last_to a off len - max off (stop a)) i t in
    both (gives a off len i) (given_from a off len i (omega (arith, w.0)) (omega (arith, w.0, w.1)) (omega (arith, w.0, w.1)) (inr (omega (arith, w.0)))) out))

-- what was put by both pieces, where what they copy stands in the area, which neither writes to
pub put_entry : (a : UndoArea) (off len source : ℕ) (x y z : List ℕ) → a.at ≤ source
    → Put (in_first a off len) (λ i. slice_index x (source + (i - off))) x y
    → Put (in_second a off len) (λ i. slice_index y (source + (i - off))) y z
    → Put (gives a off len) (λ i. slice_index x (source + (i - off))) x z
put_entry a off len source x y z above one two = record {
  size = two.size ∙ one.size;
  others = λ i out. two.others i (not_second a off len i out) ∙ one.others i (not_first a off len i out);
  inside = λ i in_it. (let p = given_parts a off len i in_it in elim p.3 [
    | inl low ↦ (
        two.others i (lies_not (max off (stop a)) (last_to a off len - max off (stop a)) i (inl (omega (arith, low))))
        ∙ one.inside i (lies off (min (last_to a off len) a.at - off) i p.0 (omega (arith, p.0, p.1, p.2, low))))
    | inr high ↦ (
        two.inside i (lies (max off (stop a)) (last_to a off len - max off (stop a)) i (omega (arith, p.0, high)) (omega (arith, p.0, p.1, p.2, high)))
        ∙ one.others (source + (i - off)) (beyond (source + (i - off)) (omega (arith, above))))
  ]);
}
  where
    beyond : (k : ℕ) → a.at ≤ k → in_first a off len k ≡ false
    beyond k high = false_where (in_first a off len k) (λ t. (let w = lies_where off (min (last_to a off len) a.at - off) k t in absurd (omega (arith, w.0, w.1, high))))
