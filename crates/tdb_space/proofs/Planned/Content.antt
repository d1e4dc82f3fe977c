-- The content of an undo area: its entries are the runs, each is good, and they give back what the file has there.
use Rattle.std.proofs.Common.{◌≡◌, ℕ, zero, suc, ◌+◌, ◌-◌, ◌<◌, ◌≤◌, ◌⊎◌, true, false, List, [], ◌∷◌, take, drop, Option, Some, None, refl, ◌∙◌, ap, subst, inl, inr, arith}
use Rattle.std.specs.Prelude.{nat_lt, slice_index}
use Rattle.std.specs.List.{filter, last_or}
use Rattle.std.proofs.lemmas.Bool.{cases_Bool, and_parts, lt-ltb, le-ltb, leb-true, ltb-true}
use Rattle.std.proofs.lemmas.List.{get_or-drop, get_or-take}
use Rattle.std.proofs.lemmas.Option.{same_Some}
use Rattle.tdb_words.specs.declared.word.Order.{Order}
use Rattle.tdb_words.specs.Word.{word}
use Rattle.tdb_space.specs.Extents.{Extent, once, times}
use Rattle.tdb_space.specs.Opening.{Entry, entries_from, is_bad_entry, entry_fault, covers, last_covering}
use Rattle.tdb_space.specs.Planned.{content_length, HasContent}
use Rattle.tdb_space.proofs.FirstFault.Cleared.{none_both, or_none, below_to}

-- the entries of some runs, the first of which stands at a place
abbrev pub entries_for : List ℕ → ℕ → List Extent → List Entry
entries_for a at [] = []
entries_for a at (e ∷ es) = record { place = at; off = e.0; len = e.1; olds = take e.1 (drop e.0 a) } ∷ entries_for a (at + 8 + e.1) es

pub content_some : (es : List Extent) → 4 ≤ content_length es
content_some [] = omega arith
content_some (e ∷ es) = omega (arith, content_some es)

-- the entries that are read of a content are those of its runs
pub parsed : (o : Order) (a : List ℕ) (long n at : ℕ) (es : List Extent) → HasContent o a long at es → content_length es ≤ n → entries_from o a n at (at + content_length es) ≡ entries_for a at es
parsed o a long zero at [] h enough = refl
parsed o a long (suc n) at [] h enough = rw (le-ltb (at + 8) (at + 4) (omega arith)) refl
parsed o a long zero at (e ∷ es) h enough = absurd (omega (arith, enough))
parsed o a long (suc n) at (e ∷ es) h enough =
    let olds : take (word o a (at + 4)) (drop (at + 8) a) ≡ take e.1 (drop e.0 a) = ap (λ k. take k (drop (at + 8) a)) h.1 ∙ h.2 in
    let end : at + content_length (e ∷ es) ≡ at + 8 + e.1 + content_length es = omega arith in
    let rest : entries_from o a n (at + 8 + word o a (at + 4)) (at + content_length (e ∷ es)) ≡ entries_for a (at + 8 + e.1) es =
    (λ j. entries_from o a n (at + 8 + h.1 j) (end j)) ∙ parsed o a long n (at + 8 + e.1) es h.3 (omega (arith, enough)) in
    rw (lt-ltb (at + 8) (at + content_length (e ∷ es)) (omega (arith, content_some es))) (λ j. record { place = at; off = h.0 j; len = h.1 j; olds = olds j } ∷ rest j)

-- each run ends by a length
abbrev pub AllBy : ℕ → List Extent → Type 0
AllBy size [] = Unit {0}
AllBy size (e ∷ es) = (e.0 + e.1 ≤ size) × AllBy size es

-- so its entries are good
pub entries_good : (a : List ℕ) (end size at : ℕ) (es : List Extent) → AllBy size es → at + content_length es ≤ end → entry_fault end size (entries_for a at es) ≡ None
entries_good a end size at [] all fits = refl
entries_good a end size at (e ∷ es) all fits =
    none_both (is_bad_entry end size (record { place = at; off = e.0; len = e.1; olds = take e.1 (drop e.0 a) })) _ _
    (or_none (nat_lt end (at + 8 + e.1)) (nat_lt size (e.0 + e.1)) (below_to end (at + 8 + e.1) (omega (arith, fits))) (below_to size (e.0 + e.1) all.0))
    (entries_good a end size (at + 8 + e.1) es all.1 (omega (arith, fits)))

-- one of these was found already, or is found in the rest
abbrev IsSome : Option Entry → Type 0
IsSome o = o ≡ None → ⊥

covered_from : (a : List ℕ) (i at : ℕ) (es : List Extent) (o : Option Entry) → (IsSome o) ⊎ (1 ≤ times es i) → IsSome (last_or o (filter (covers i) (entries_for a at es)))
covered_from a i at [] o given = elim given [ inl some ↦ some | inr held ↦ absurd (omega (arith, held)) ]
covered_from a i at (e ∷ es) o given =
    let x : Entry = record { place = at; off = e.0; len = e.1; olds = take e.1 (drop e.0 a) } in
    elim (cases_Bool (covers i (record { place = at; off = e.0; len = e.1; olds = take e.1 (drop e.0 a) }))) [
      | inl yes_it ↦ rw yes_it (covered_from a i (at + 8 + e.1) es (Some x) (inl (λ none. cc)))
      | inr no_it ↦ rw no_it (covered_from a i (at + 8 + e.1) es o (elim given [ inl some ↦ inl some | inr held ↦ inr (omega (arith, held, out e no_it)) ]))
    ]
  where
    out : (e : Extent) → covers i (record { place = at; off = e.0; len = e.1; olds = take e.1 (drop e.0 a) }) ≡ false → once e i ≡ 0
    out e no_it = rw no_it refl

pub run_covered : (a : List ℕ) (i at : ℕ) (es : List Extent) → 1 ≤ times es i → last_covering (entries_for a at es) i ≡ None → ⊥
run_covered a i at es held = covered_from a i at es None (inr held)

-- what was found gives back the byte of a
abbrev Gives : List ℕ → ℕ → Option Entry → Type 0
Gives a i o = (e : Entry) → o ≡ Some e → slice_index e.olds (i - e.off) ≡ slice_index a i

gives_from : (a : List ℕ) (i at : ℕ) (es : List Extent) (o : Option Entry) → Gives a i o → Gives a i (last_or o (filter (covers i) (entries_for a at es)))
gives_from a i at [] o given = given
gives_from a i at (e ∷ es) o given =
    elim (cases_Bool (covers i (record { place = at; off = e.0; len = e.1; olds = take e.1 (drop e.0 a) }))) [
      | inl yes_it ↦ rw yes_it (gives_from a i (at + 8 + e.1) es (Some (record { place = at; off = e.0; len = e.1; olds = take e.1 (drop e.0 a) })) (here e yes_it))
      | inr no_it ↦ rw no_it (gives_from a i (at + 8 + e.1) es o given)
    ]
  where
    byte : (e : Extent) → e.0 ≤ i → i < e.0 + e.1 → slice_index (take e.1 (drop e.0 a)) (i - e.0) ≡ slice_index a i
    byte e from to = get_or-take e.1 (drop e.0 a) (i - e.0) 0 (omega (arith, from, to)) ∙ get_or-drop e.0 a (i - e.0) 0 ∙ ap (slice_index a) (omega (arith, from))

    here : (e : Extent) → covers i (record { place = at; off = e.0; len = e.1; olds = take e.1 (drop e.0 a) }) ≡ true → Gives a i (Some (record { place = at; off = e.0; len = e.1; olds = take e.1 (drop e.0 a) }))
    here e yes_it d same =
        let parts = and_parts _ _ yes_it in
        let there : record { place = at; off = e.0; len = e.1; olds = take e.1 (drop e.0 a) } ≡ d = same_Some _ d same in
        subst (λ (x : Entry). slice_index x.olds (i - x.off) ≡ slice_index a i) there (byte e (leb-true e.0 i parts.0) (ltb-true i (e.0 + e.1) parts.1))

pub covering_gives : (a : List ℕ) (i at : ℕ) (es : List Extent) (e : Entry) → last_covering (entries_for a at es) i ≡ Some e → slice_index e.olds (i - e.off) ≡ slice_index a i
covering_gives a i at es = gives_from a i at es None (λ e none. cc)
