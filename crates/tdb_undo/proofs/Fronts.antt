-- The first bytes are written one by one.
use Rattle.std.proofs.Common.{◌≡◌, ℕ, ◌+◌, ◌-◌, ◌<◌, ◌&&◌, Bool, true, false, List, length, slice_index, refl, sym, ◌∙◌, ap, subst, inl, inr, arith}
use Rattle.std.specs.Prelude.{nat_lt}
use Rattle.std.proofs.lemmas.Bool.{cases_lt, cases_eq, and_parts, and_cases, and_from, and_left, and_right, ltb-true, ltb-false, lt-ltb, le-ltb}
use Rattle.tdb_disk.specs.Image.{overlay}
use Rattle.tdb_disk.proofs.Image.{length-overlay, overlay_below, overlay_above, overlay_in}
use Rattle.tdb_undo.specs.Torn.{Put}
use Rattle.tdb_undo.specs.Front.{differs}

-- the places below i that become others
abbrev pub below : List ℕ → List ℕ → ℕ → ℕ → Bool
below before after i k = differs before after k && nat_lt k i

pub front_none : (before after first : List ℕ) → Put (below before after 0) (slice_index after) first first
front_none before after first = record {
  size = refl;
  others = λ k _. refl;
  inside = λ k h. absurd (let p = and_parts _ _ h in omega (arith, ltb-true k 0 p.1));
}

both : (b : Bool) → b ≡ true → b ≡ false → ⊥
both b right wrong = cc

-- a byte more that stays
pub front_stays : (before after first now : List ℕ) (i : ℕ) → differs before after i ≡ false
    → Put (below before after i) (slice_index after) first now → Put (below before after (i + 1)) (slice_index after) first now
front_stays before after first now i same put = record {
  size = put.size;
  others = λ k out. put.others k (elim (and_cases _ _ out) [ inl d ↦ and_left _ _ d | inr l ↦ and_right _ _ (le-ltb k i (omega (arith, ltb-false k (i + 1) l))) ]);
  inside = λ k h. (let p = and_parts _ _ h in elim (cases_lt k i) [
    | inl low ↦ put.inside k (and_from _ _ p.0 (lt-ltb k i low))
    | inr high ↦ (let e : k ≡ i = omega (arith, high, ltb-true k (i + 1) p.1) in absurd (both (differs before after i) (subst (λ j. differs before after j ≡ true) e p.0) same))
  ]);
}

-- a byte more that becomes another
pub front_written : (before after first now bytes : List ℕ) (i : ℕ) → differs before after i ≡ true → i < length first → length bytes ≡ 1 → slice_index bytes 0 ≡ slice_index after i
    → Put (below before after i) (slice_index after) first now → Put (below before after (i + 1)) (slice_index after) first (overlay now i bytes)
front_written before after first now bytes i other within one byte put = record {
  size = length-overlay now i bytes ∙ put.size;
  others = λ k out. elim (cases_eq k i) [
    | inl e ↦ absurd (both (below before after (i + 1) i) (and_from _ _ other (lt-ltb i (i + 1) (omega arith))) (subst (λ j. below before after (i + 1) j ≡ false) e out))
    | inr ne ↦ beside k ne ∙ put.others k (elim (and_cases _ _ out) [ inl d ↦ and_left _ _ d | inr l ↦ and_right _ _ (le-ltb k i (omega (arith, ltb-false k (i + 1) l))) ])
  ];
  inside = λ k h. (let p = and_parts _ _ h in elim (cases_lt k i) [
    | inl low ↦ beside k (λ e. omega (arith, e, low)) ∙ put.inside k (and_from _ _ p.0 (lt-ltb k i low))
    | inr high ↦ (let e : k ≡ i = omega (arith, high, ltb-true k (i + 1) p.1) in
        overlay_in now i bytes k high (omega (arith, e, one)) (omega (arith, e, within, put.size))
        ∙ ap (slice_index bytes) (let z : k - i ≡ 0 = omega (arith, e) in z)
        ∙ byte ∙ ap (slice_index after) (sym e))
  ]);
}
  where
    beside : (k : ℕ) → (k ≡ i → ⊥) → slice_index (overlay now i bytes) k ≡ slice_index now k
    beside k ne = elim (cases_lt k i) [ inl low ↦ overlay_below now i bytes k low | inr high ↦ overlay_above now i bytes k (omega (arith, one, high, λ (e : k ≡ i). ne e)) ]

-- all of them
pub front_all : (before after first now : List ℕ) (i : ℕ) → i ≡ 64 → Put (below before after i) (slice_index after) first now → Put (differs before after) (slice_index after) first now
front_all before after first now i all put = record {
  size = put.size;
  others = λ k out. put.others k (and_left _ _ out);
  inside = λ k h. put.inside k (and_from _ _ h (lt-ltb k i (omega (arith, all, ltb-true k 64 (and_parts _ _ h).0))));
}
