-- An image that isn't accepted has a first fault.
use Rattle.std.proofs.Common.{◌≡◌, ℕ, zero, suc, ◌+◌, ◌<◌, ◌≤◌, ◌⊎◌, ◌&&◌, Bool, true, false, not, List, [], ◌∷◌, length, refl, subst, inl, inr, arith}
use Rattle.std.specs.Prelude.{◌==◌, nat_lt, slice_index}
use Rattle.std.proofs.lemmas.Bool.{cases_Bool, cases_lt, le-ltb}
use Rattle.tdb_words.specs.declared.record.TheConstants.{PADDING}
use Rattle.tdb_words.specs.declared.what.What.TheVariants.{Overlap, Stray}
use Rattle.tdb_space.specs.Form.{form_of, data_start, chain_head, free_head}
use Rattle.tdb_space.specs.Extents.{Extent, times}
use Rattle.tdb_space.specs.Accepted.{Accept}
use Rattle.tdb_space.specs.FirstFault.{Fault, chain_number, free_list, front_fault, area_fault, Sound, FirstInList, HeadsSound, ChainsSound, ListsSound, extents_of, NoOverlap, FirstOverlap, is_stray, NoStray, FirstStray, IsFirstFault, at_front, at_area, in_chain, in_free_list, at_overlap, at_stray}
use Rattle.tdb_space.proofs.Extents.Counts.{once_out}
use Rattle.tdb_space.proofs.FirstFault.Agreed.{front_ok, no_fault_accepted}
use Rattle.tdb_space.proofs.Chain.Ends.{fault_cases, list_ends}

-- an image has a first fault
abbrev HasFault : List ℕ → Type 0
HasFault img = (e : Fault) × IsFirstFault img e

-- where each number is good or bad, all below a bound are good, or there is a least bad one
first_bad : (Good Bad : ℕ → Type 0) → ((i : ℕ) → Good i ⊎ Bad i) → (n : ℕ) → ((i : ℕ) → i < n → Good i) ⊎ ((i : ℕ) × (i < n) × Bad i × ((k : ℕ) → k < i → Good k))
first_bad Good Bad test zero = inl (λ i low. absurd (omega (arith, low)))
first_bad Good Bad test (suc n) =
    elim (first_bad Good Bad test n) [
      | inr found ↦ inr (found.0, omega (arith, found.1), found.2, found.3)
      | inl all ↦ elim (test n) [ inl good ↦ inl (one_more Good n all good) | inr bad ↦ inr (n, omega arith, bad, all) ]
    ]
  where
    one_more : (P : ℕ → Type 0) (m : ℕ) → ((i : ℕ) → i < m → P i) → P m → (i : ℕ) → i < suc m → P i
    one_more P m below here i low = elim (cases_lt i m) [ inl less ↦ below i less | inr level ↦ subst P (omega (arith, low, level)) here ]

-- past some byte these extents hold none
reach : (es : List Extent) → (n : ℕ) × ((i : ℕ) → n ≤ i → times es i ≡ 0)
reach [] = (0, λ i past. refl)
reach (e ∷ es) =
    let rest = reach es in
    (e.0 + e.1 + rest.0, λ i past. omega (arith, once_out e i (inr (omega (arith, past))), rest.1 i (omega (arith, past))))

-- no byte is held twice, or there is a least one that is
overlap_or_none : (img : List ℕ) → NoOverlap img ⊎ ((at : ℕ) × FirstOverlap img at)
overlap_or_none img =
    let es = extents_of img in
    let end = reach es in
    elim (first_bad (λ i. times es i ≤ 1) (λ i. 2 ≤ times es i) (λ i. cases_lt_two (times es i)) end.0) [
      | inr found ↦ inr (found.0, (found.2, found.3))
      | inl apart ↦ inl (λ i. elim (cases_lt i end.0) [ inl low ↦ apart i low | inr past ↦ omega (arith, end.1 i past) ])
    ]
  where
    cases_lt_two : (n : ℕ) → (n ≤ 1) ⊎ (2 ≤ n)
    cases_lt_two n = elim (cases_lt n 2) [ inl low ↦ inl (omega (arith, low)) | inr high ↦ inr high ]

-- a byte past the end isn't stray
never_past : (low here high : Bool) (a b : Bool) → here ≡ false → (low && here && high && a && b) ≡ false
never_past true here high a b h = rw h refl
never_past false here high a b h = refl

-- no byte is stray, or there is a least one that is
stray_or_none : (img : List ℕ) → NoStray img ⊎ ((at : ℕ) × FirstStray img at)
stray_or_none img =
    elim (first_bad (λ i. is_stray img i ≡ false) (λ i. is_stray img i ≡ true) (λ i. turned (is_stray img i)) (length img)) [
      | inr found ↦ inr (found.0, (found.2, found.3))
      | inl clean ↦ inl (λ i. elim (cases_lt i (length img)) [
        | inl low ↦ clean i low
        | inr past ↦ never_past (not (nat_lt i (data_start (form_of img)))) (nat_lt i (length img)) (times (extents_of img) i == 0) (not (slice_index img i == 0)) (not (slice_index img i == PADDING)) (le-ltb i (length img) past)
      ])
    ]
  where
    turned : (b : Bool) → (b ≡ false) ⊎ (b ≡ true)
    turned b = elim (cases_Bool b) [ inl holds ↦ inr holds | inr fails ↦ inl fails ]

module _ (img : List ℕ) where
  -- what follows where all that a check reads before is sound
  after_lists : ListsSound img → Accept img ⊎ HasFault img
  after_lists lists =
      elim (overlap_or_none img) [
        | inr found ↦ inr ((Overlap, found.0), at_overlap found.0 lists found.1)
        | inl apart ↦
            elim (stray_or_none img) [
              | inr found ↦ inr ((Stray, found.0), at_stray found.0 lists apart found.1)
              | inl clean ↦ inl (no_fault_accepted img (record { lists = lists; apart = apart; clean = clean }))
            ]
      ]

  after_chains : 0 < length img → HeadsSound img → ChainsSound img (form_of img).chains → Accept img ⊎ HasFault img
  after_chains long heads chains =
      elim (list_ends (form_of img) free_list img free_head long) [
        | inr found ↦ inr (found.0, in_free_list found.0 heads chains found.1)
        | inl frees ↦ after_lists (record { heads = heads; chains = chains; frees = frees })
      ]

  after_heads : 0 < length img → HeadsSound img → Accept img ⊎ HasFault img
  after_heads long heads =
      elim (first_bad (λ j. Sound (form_of img) (chain_number j) img (chain_head j)) (λ j. (e : Fault) × FirstInList (form_of img) (chain_number j) img (chain_head j) e) (λ j. list_ends (form_of img) (chain_number j) img (chain_head j) long) (form_of img).chains) [
        | inr found ↦ inr (found.2.0, in_chain found.2.0 found.0 heads found.1 found.3 found.2.1)
        | inl chains ↦ after_chains long heads chains
      ]

  pub fault_or_accepted : Accept img ⊎ HasFault img
  fault_or_accepted =
      elim (fault_cases (front_fault img)) [
        | inr found ↦ inr (found.0, at_front found.0 found.1)
        | inl front ↦
            elim (fault_cases (area_fault (form_of img) img)) [
              | inr found ↦ inr (found.0, at_area found.0 front found.1)
              | inl undo ↦ after_heads (omega (arith, (front_ok img front).header.long_enough)) (front, undo)
            ]
      ]
