-- Zeros over an extent.
use Rattle.std.proofs.Common.{◌≡◌, ℕ, ◌+◌, ◌-◌, ◌<◌, ◌≤◌, ◌⊎◌, List, length, slice_index, refl, sym, ◌∙◌, subst, inl, inr, arith}
use Rattle.std.proofs.lemmas.Bool.{cases_lt}
use Rattle.tdb_disk.specs.Image.{overlay}
use Rattle.tdb_disk.proofs.Image.{overlay_below, overlay_in, overlay_above}
use Rattle.tdb_space.specs.Extents.{Extent, once}
use Rattle.tdb_space.proofs.Extents.Counts.{once_in, once_out, once_lies}
use Rattle.tdb_txn.specs.Found.{Blanked}

-- a byte that an extent doesn't hold lies before it or behind it
pub once_not : (e : Extent) (i : ℕ) → once e i ≡ 0 → (i < e.0) ⊎ (e.0 + e.1 ≤ i)
once_not e i none = elim (cases_lt i e.0) [
  | inl low ↦ inl low
  | inr from ↦ elim (cases_lt i (e.0 + e.1)) [ inl to ↦ absurd (omega (arith, none, once_in e i from to)) | inr past ↦ inr past ]
]

-- over no byte
pub blanked_none : (at : ℕ) (a : List ℕ) → Blanked (at, 0) a a
blanked_none at a = record {
  inside = λ i held. (let w = once_lies (at, 0) i held in absurd (omega (arith, w.0, w.1)));
  outside = λ i _. refl;
}

-- over the bytes that were written
pub blanked_written : (at count : ℕ) (zeros a b : List ℕ) → length zeros ≡ count → ((k : ℕ) → k < count → slice_index zeros k ≡ 0) → at + count ≤ length a
    → b ≡ overlay a at zeros → Blanked (at, count) a b
blanked_written at count zeros a b long zero within is = subst (Blanked (at, count) a) (sym is) (record {
  inside = λ i held.
      (let w = once_lies (at, count) i held in
      overlay_in a at zeros i w.0 (omega (arith, w.1, long)) (omega (arith, w.1, within)) ∙ zero (i - at) (omega (arith, w.0, w.1)));
  outside = λ i none. elim (once_not (at, count) i none) [
    | inl low ↦ overlay_below a at zeros i low
    | inr past ↦ overlay_above a at zeros i (omega (arith, past, long))
  ];
})

-- over some bytes, and then over those behind them
pub blanked_more : (at done more : ℕ) (a b c : List ℕ) → Blanked (at, done) a b → Blanked (at + done, more) b c → Blanked (at, done + more) a c
blanked_more at done more a b c B C = record {
  inside = λ i held.
      (let w = once_lies (at, done + more) i held in
      elim (cases_lt i (at + done)) [
        | inl low ↦ C.outside i (once_out (at + done, more) i (inl low)) ∙ B.inside i (omega (arith, once_in (at, done) i w.0 low))
        | inr past ↦ C.inside i (omega (arith, once_in (at + done, more) i past (omega (arith, w.1))))
      ]);
  outside = λ i none.
      elim (once_not (at, done + more) i none) [
        | inl low ↦ C.outside i (once_out (at + done, more) i (inl (omega (arith, low)))) ∙ B.outside i (once_out (at, done) i (inl low))
        | inr past ↦ C.outside i (once_out (at + done, more) i (inr (omega (arith, past)))) ∙ B.outside i (once_out (at, done) i (inr (omega (arith, past))))
      ];
}
