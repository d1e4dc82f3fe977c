-- The faults of extents: they don't hang on the order, nor on parts of lists that were put down but once.
use Rattle.std.proofs.Common.{◌≡◌, ℕ, ◌&&◌, not, List, ◌++◌, length, count_by, sym, ◌∙◌, ap, subst, inl, inr, arith}
use Rattle.std.specs.Prelude.{◌==◌, ◌-◌, nat_lt, slice_index}
use Rattle.std.specs.List.{range_with_len}
use Rattle.std.proofs.lemmas.Bool.{cases_eq}
use Rattle.tdb_words.specs.declared.record.TheConstants.{PADDING}
use Rattle.tdb_words.specs.declared.what.What.TheVariants.{Stray}
use Rattle.tdb_space.specs.Extents.{Extent as Held, times}
use Rattle.tdb_space.specs.FirstFault.{Fault}
use Rattle.tdb_space.proofs.Extents.Counts.{times-append}
use Rattle.tdb_check.specs.Chains.{Shows}
use Rattle.tdb_check.specs.Stray.{is_stray_among, FirstStrayAmong, NoOverlapAmong, FirstOverlapAmong, FirstAmong, shared, stray, NoFaultAmong}

-- more extents behind both
pub shows_more : (seen held more : List Held) → Shows seen held → Shows (seen ++ more) (held ++ more)
shows_more seen held more h = record {
  no_more = λ i. omega (arith, times-append seen more i, times-append held more i, h.no_more i);
  twice = λ i differ.
      (let w = h.twice i (λ same. differ (omega (arith, times-append seen more i, times-append held more i, same))) in
      (w.0, w.1, omega (arith, times-append seen more w.0, w.2)));
  whole = elim h.whole [
    | inl same ↦ inl (ap (λ es. es ++ more) same)
    | inr w ↦ inr (w.0, omega (arith, times-append seen more w.0, w.1))
  ];
}

-- where no two of those put down share a byte, they are all that hold the bytes
pub shown_whole : (seen held : List Held) → Shows seen held → NoOverlapAmong seen → seen ≡ held
shown_whole seen held h apart = elim h.whole [
  | inl same ↦ same
  | inr w ↦ absurd (omega (arith, w.1, apart w.0))
]

-- else the least byte that is held twice is the same
shown_overlap : (seen held : List Held) (at : ℕ) → Shows seen held → FirstOverlapAmong seen at → FirstOverlapAmong held at
shown_overlap seen held at h f = (
  omega (arith, f.0, h.no_more at),
  λ i low. elim (cases_eq (times seen i) (times held i)) [
    | inl same ↦ omega (arith, same, f.1 i low)
    | inr differ ↦ let w = h.twice i differ in absurd (omega (arith, w.2, f.1 w.0 (omega (arith, w.1, low))))
  ],
)

pub shown_first : (seen held : List Held) (start : ℕ) (img : List ℕ) (e : Fault) → Shows seen held → FirstAmong seen start img e → FirstAmong held start img e
shown_first seen held start img _ h (shared at f) = shared at (shown_overlap seen held at h f)
shown_first seen held start img _ h (stray at apart f) = subst (λ es. FirstAmong es start img (Stray, at)) (shown_whole seen held h apart) (stray at apart f)

pub shown_none : (seen held : List Held) (start : ℕ) (img : List ℕ) (n : ℕ) → Shows seen held → NoFaultAmong seen start img n → NoFaultAmong held start img n
shown_none seen held start img n h f = subst (λ es. NoFaultAmong es start img n) (shown_whole seen held h f.apart) f

-- extents that hold each byte as often as others
module _ (es fs : List Held) (same : (i : ℕ) → times es i ≡ times fs i) (start : ℕ) (img : List ℕ) where
  apart_same : NoOverlapAmong es → NoOverlapAmong fs
  apart_same apart i = omega (arith, same i, apart i)

  stray_same : (i : ℕ) → is_stray_among es start img i ≡ is_stray_among fs start img i
  stray_same i = λ j. not (nat_lt i start) && nat_lt i (length img) && (same i j == 0) && not (slice_index img i == 0) && not (slice_index img i == PADDING)

  pub overlap_same : (at : ℕ) → FirstOverlapAmong es at → FirstOverlapAmong fs at
  overlap_same at f = (omega (arith, same at, f.0), λ i low. omega (arith, same i, f.1 i low))

  pub first_stray_same : (e : Fault) → e.0 ≡ Stray → NoOverlapAmong es → FirstStrayAmong es start img e.1 → FirstAmong fs start img e
  first_stray_same e is apart f =
      let pair : (Stray, e.1) ≡ e = λ j. (sym is j, e.1) in
      subst (FirstAmong fs start img) pair (stray e.1 (apart_same apart) (sym (stray_same e.1) ∙ f.0, λ i low. sym (stray_same i) ∙ f.1 i low))

  pub none_same : (n : ℕ) → NoFaultAmong es start img n → NoFaultAmong fs start img n
  none_same n h = record {
    apart = apart_same h.apart;
    clean = λ i. sym (stray_same i) ∙ h.clean i;
    count = h.count ∙ (λ j. count_by (λ i. same i j == 0) (range_with_len start (length img - start)));
  }
