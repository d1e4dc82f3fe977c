-- The undo area of an image: where its bytes stand, and that it stays where they do.
use Rattle.std.proofs.Common.{◌≡◌, ℕ, ◌+◌, ◌<◌, ◌≤◌, List, [], ◌∷◌, length, refl, sym, ◌∙◌, ap, subst, inl, inr, arith}
use Rattle.std.specs.Prelude.{slice_index, ◌%◌}
use Rattle.std.proofs.lemmas.Bool.{cases_eq, eq-eqb, ne_eqb}
use Rattle.tdb_words.specs.Word.{word}
use Rattle.tdb_space.specs.Form.{Form, data_start}
use Rattle.tdb_space.specs.Record.{rec_len_of, magic_of}
use Rattle.tdb_space.specs.Extents.{once, times, extent_at, area}
use Rattle.tdb_space.specs.Accepted.{AreaInPlace, AreaOk, Shut}
use Rattle.tdb_space.proofs.Extents.Counts.{once_in, once_lies}
use Rattle.tdb_space.proofs.Exchange.Kept.{word_kept}

-- the undo area, where its word and its bytes stay
pub area_still : (f : Form) (a b : List ℕ) → length a ≤ length b → word f.order b 44 ≡ word f.order a 44 → ((i : ℕ) → 1 ≤ times (area f.order a) i → slice_index b i ≡ slice_index a i) → AreaOk f a → Shut f a → (area f.order b ≡ area f.order a) × AreaOk f b × Shut f b
area_still f a b longer at still (inl none) shut =
    let none_b : word f.order b 44 ≡ 0 = at ∙ none in
    (rw (eq-eqb (word f.order b 44) 0 none_b) (rw (eq-eqb (word f.order a 44) 0 none) refl), inl none_b, inl none_b)
area_still f a b longer at still (inr place) shut =
    elim (cases_eq (word f.order a 44) 0) [
      | inl none ↦
          let none_b : word f.order b 44 ≡ 0 = at ∙ none in
          (rw (eq-eqb (word f.order b 44) 0 none_b) (rw (eq-eqb (word f.order a 44) 0 none) refl), inl none_b, inl none_b)
      | inr some ↦
          let some_b : word f.order b 44 ≡ 0 → ⊥ = λ e. some (sym at ∙ e) in
          let x = word f.order a 44 in
          let held : (i : ℕ) → x ≤ i → i < x + 24 + rec_len_of f.order a x → slice_index b i ≡ slice_index a i = λ i low high.
          still i (rw (ne_eqb (word f.order a 44) 0 some) (omega (arith, once_in (extent_at f.order a x) i low (omega arith)))) in
          let len : rec_len_of f.order b x ≡ rec_len_of f.order a x = word_kept f.order a b (x + 4) x (x + 24 + rec_len_of f.order a x) held (omega arith) (omega arith) in
          let gate : magic_of f.order b x ≡ magic_of f.order a x = word_kept f.order a b (x + 20) x (x + 24 + rec_len_of f.order a x) held (omega arith) (omega arith) in
          let there : AreaInPlace f b x = record {
            aligned = place.aligned;
            above = place.above;
            len_aligned = ap (λ n. n % 4) len ∙ place.len_aligned;
            within = omega (arith, len, place.within);
            gate = elim place.gate [ inl is_open ↦ inl (gate ∙ is_open) | inr is_shut ↦ inr (gate ∙ is_shut) ];
          } in (
            rw (ne_eqb (word f.order b 44) 0 some_b) (rw (ne_eqb (word f.order a 44) 0 some) (λ i. (at i, 24 + (ap (rec_len_of f.order b) at ∙ len) i) ∷ [])),
            inr (subst (AreaInPlace f b) (sym at) there),
            elim shut [ inl none ↦ absurd (some none) | inr is_shut ↦ inr (ap (magic_of f.order b) at ∙ gate ∙ is_shut) ],
          )
    ]

-- a byte of the undo area stands behind the heads and within the image
pub area_within : (f : Form) (a : List ℕ) (i : ℕ) → AreaOk f a → 1 ≤ times (area f.order a) i → (data_start f ≤ i) × (i < length a)
area_within f a i ok held =
    elim (cases_eq (word f.order a 44) 0) [
      | inl none ↦ absurd (omega (arith, rw (eq-eqb (word f.order a 44) 0 none) at held))
      | inr some ↦
          let x = word f.order a 44 in
          let held_once : 1 ≤ once (extent_at f.order a x) i + 0 = rw (ne_eqb (word f.order a 44) 0 some) at held in
          let lies = once_lies (extent_at f.order a x) i (omega (arith, held_once)) in
          elim ok [ inl none ↦ absurd (some none) | inr place ↦ (omega (arith, lies.0, place.above), omega (arith, lies.1, place.within)) ]
    ]
