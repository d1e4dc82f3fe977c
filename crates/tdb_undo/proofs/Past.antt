-- The bytes from the old length on, outside the undo area, are two runs.
use Rattle.std.proofs.Common.{◌≡◌, ℕ, ◌+◌, ◌-◌, ◌<◌, ◌≤◌, ◌⊎◌, Bool, true, false, List, ◌∙◌, inl, inr, arith}
use Rattle.std.specs.Prelude.{nat_le, nat_lt}
use Rattle.std.proofs.lemmas.Bool.{and_parts, and_from, leb-true, ltb-true, le-leb, lt-ltb, not-true, not_from_false}
use Rattle.tdb_space.specs.Opening.{lies_in}
use Rattle.tdb_undo.specs.declared.area.Area.{Area}
use Rattle.tdb_undo.specs.Torn.{Put}
use Rattle.tdb_undo.specs.Recovery.{is_past}
use Rattle.tdb_undo.proofs.Lies.{lies, lies_not, lies_where, lies_outside}
use Rattle.tdb_undo.proofs.Gives.{stop, false_where}

clash : (b : Bool) → b ≡ true → b ≡ false → ⊥
clash b right wrong = cc

module _ (a : Area) (len : ℕ) (behind : a.header.key_len ≤ a.at) (room : stop a ≤ len) where
  past_parts : (i : ℕ) → is_past a len i ≡ true → (a.header.key_len ≤ i) × (i < len) × ((i < a.at) ⊎ (stop a ≤ i))
  past_parts i h =
      let p = and_parts (nat_le a.header.key_len i) _ h in
      let q = and_parts (nat_lt i len) _ p.1 in (
        leb-true a.header.key_len i p.0,
        ltb-true i len q.0,
        elim (lies_outside a.at (24 + a.header.rec_len) i (not-true _ q.1)) [ inl low ↦ inl low | inr high ↦ inr (omega (arith, high)) ],
      )

  past_from : (i : ℕ) → a.header.key_len ≤ i → i < len → (i < a.at) ⊎ (stop a ≤ i) → is_past a len i ≡ true
  past_from i low high apart =
      and_from _ _ (le-leb a.header.key_len i low)
      (and_from _ _ (lt-ltb i len high)
      (not_from_false _ (lies_not a.at (24 + a.header.rec_len) i (elim apart [ inl under ↦ inl under | inr over ↦ inr (omega (arith, over)) ]))))

  pub not_before : (i : ℕ) → is_past a len i ≡ false → lies_in a.header.key_len (a.at - a.header.key_len) i ≡ false
  not_before i out = false_where (lies_in a.header.key_len (a.at - a.header.key_len) i) (λ t. (let w = lies_where a.header.key_len (a.at - a.header.key_len) i t in
      clash (is_past a len i) (past_from i w.0 (omega (arith, w.1, behind, room)) (inl (omega (arith, w.1, behind)))) out))

  pub not_behind : (i : ℕ) → is_past a len i ≡ false → lies_in (stop a) (len - stop a) i ≡ false
  not_behind i out = false_where (lies_in (stop a) (len - stop a) i) (λ t. (let w = lies_where (stop a) (len - stop a) i t in
      clash (is_past a len i) (past_from i (omega (arith, w.0, behind)) (omega (arith, w.1, room)) (inr w.0)) out))

  pub put_past : (x y z : List ℕ) → Put (lies_in a.header.key_len (a.at - a.header.key_len)) (λ _. 0) x y → Put (lies_in (stop a) (len - stop a)) (λ _. 0) y z → Put (is_past a len) (λ _. 0) x z
  put_past x y z one two = record {
    size = two.size ∙ one.size;
    others = λ i out. two.others i (not_behind i out) ∙ one.others i (not_before i out);
    inside = λ i in_it. (let p = past_parts i in_it in elim p.2 [
      | inl low ↦ two.others i (lies_not (stop a) (len - stop a) i (inl (omega (arith, low)))) ∙ one.inside i (lies a.header.key_len (a.at - a.header.key_len) i p.0 (omega (arith, low, behind)))
      | inr high ↦ two.inside i (lies (stop a) (len - stop a) i high (omega (arith, p.1, room)))
    ]);
  }
