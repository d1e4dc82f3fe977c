-- Which greatest stretches an image has beside its undo area: one before it and one behind it at most.
use Rattle.std.proofs.Common.{◌≡◌, ℕ, ◌+◌, ◌-◌, ◌<◌, ◌≤◌, ◌⊎◌, List, length, refl, ◌∙◌, inl, inr, arith}
use Rattle.std.proofs.lemmas.Bool.{cases_lt}
use Rattle.tdb_space.specs.Form.{Form, data_start}
use Rattle.tdb_space.specs.Extents.{Extent, once, times, area}
use Rattle.tdb_space.proofs.Extents.Counts.{once_in, once_out, once_lies}
use Rattle.tdb_steps.specs.declared.wiping.AreaBounds.{AreaBounds}
use Rattle.tdb_steps.specs.Wiped.{IsStretch, BoundsStand, IsArea}

-- the stretch before the undo area, and the one behind it
abbrev pub front : Form → AreaBounds → Extent
front f p = (data_start f, p.from - data_start f)

abbrev pub back : List ℕ → AreaBounds → Extent
back a p = (p.to, length a - p.to)

module _ (f : Form) (a : List ℕ) (p : AreaBounds) (B : BoundsStand f (length a) p) (P : IsArea f a p) where
  -- where a byte of the undo area stands
  pub held : (i : ℕ) → 1 ≤ times (area f.order a) i → (p.from ≤ i) × (i < p.to)
  held i some =
      let lies = once_lies (p.from, p.to - p.from) i (omega (arith, P.bytes i, some)) in
      (lies.0, omega (arith, lies.1, B.ordered))

  in_area : (i : ℕ) → p.from ≤ i → i < p.to → 1 ≤ times (area f.order a) i
  in_area i low high = omega (arith, P.bytes i, once_in (p.from, p.to - p.from) i low (omega (arith, low, high)))

  pub outside : (i : ℕ) → (i < p.from) ⊎ (p.to ≤ i) → once (p.from, p.to - p.from) i ≡ 0
  outside i out = once_out (p.from, p.to - p.from) i (elim out [ inl low ↦ inl low | inr high ↦ inr (omega (arith, high, B.ordered)) ])

  pub inside : (i : ℕ) → p.from ≤ i → i < p.to → once (p.from, p.to - p.from) i ≡ 1
  inside i low high = once_in (p.from, p.to - p.from) i low (omega (arith, low, high))

  pub front_is : 1 ≤ p.from - data_start f → IsStretch f a (front f p)
  front_is some = record {
    some = some;
    from = omega arith;
    to = omega (arith, B.above, B.ordered, B.within);
    clear = λ i low high. P.bytes i ∙ outside i (inl (omega (arith, low, high, some)));
    begins = inl refl;
    ends = elim P.some [
      | inl there ↦ inr (in_area (data_start f + (p.from - data_start f)) (omega (arith, some)) (omega (arith, some, there)))
      | inr none ↦ inl (omega (arith, some, none.0))
    ];
  }

  pub back_is : 1 ≤ length a - p.to → IsStretch f a (back a p)
  back_is some = record {
    some = some;
    from = omega (arith, B.above, B.ordered);
    to = omega (arith, some);
    clear = λ i low high. P.bytes i ∙ outside i (inr low);
    begins = elim P.some [
      | inl there ↦ inr (in_area (p.to - 1) (omega (arith, there)) (omega (arith, there)))
      | inr none ↦ absurd (omega (arith, some, none.1))
    ];
    ends = inl (omega (arith, some));
  }

  -- a stretch that begins below the undo area ends there, and so it begins at the data start
  below : (e : Extent) → IsStretch f a e → e.0 < p.from → (e.0 ≡ data_start f) × (e.1 ≡ p.from - data_start f)
  below e s low =
      let short : e.0 + e.1 ≤ p.from =
      elim (cases_lt p.from (e.0 + e.1)) [
        | inr fits ↦ fits
        | inl longer ↦ elim P.some [
          | inl there ↦ absurd (omega (arith, in_area p.from (omega arith) there, s.clear p.from (omega (arith, low)) longer))
          | inr none ↦ absurd (omega (arith, longer, none.0, s.to))
        ]
      ] in
      let first : e.0 ≡ data_start f =
      elim s.begins [ inl at_start ↦ at_start | inr before ↦ absurd (omega (arith, (held (e.0 - 1) before).0, low, s.from)) ] in
      let last : e.0 + e.1 ≡ p.from =
      elim s.ends [ inl at_end ↦ omega (arith, at_end, short, B.ordered, B.within) | inr behind ↦ omega (arith, (held (e.0 + e.1) behind).0, short) ] in
      (first, omega (arith, first, last))

  -- and one that begins further on begins behind it, and so it ends at the end
  above : (e : Extent) → IsStretch f a e → p.from ≤ e.0 → (e.0 ≡ p.to) × (e.1 ≡ length a - p.to)
  above e s high =
      let past : p.to ≤ e.0 =
      elim (cases_lt e.0 p.to) [
        | inr fits ↦ fits
        | inl under ↦ absurd (omega (arith, in_area e.0 high under, s.clear e.0 (omega arith) (omega (arith, s.some))))
      ] in
      let first : e.0 ≡ p.to =
      elim s.begins [
        | inl at_start ↦ omega (arith, at_start, past, B.above, B.ordered)
        | inr before ↦ omega (arith, (held (e.0 - 1) before).1, past)
      ] in
      let last : e.0 + e.1 ≡ length a =
      elim s.ends [ inl at_end ↦ at_end | inr behind ↦ absurd (omega (arith, (held (e.0 + e.1) behind).1, past)) ] in
      (first, omega (arith, first, last))

  pub one_of_two : (e : Extent) → IsStretch f a e → (e ≡ front f p) ⊎ (e ≡ back a p)
  one_of_two e s =
      elim (cases_lt e.0 p.from) [
        | inl low ↦ (let is = below e s low in inl (λ i. (is.0 i, is.1 i)))
        | inr high ↦ (let is = above e s high in inr (λ i. (is.0 i, is.1 i)))
      ]
