-- A list that is followed from a place ends: at a next word 0, or at a record with a fault.
use Rattle.std.proofs.Common.{◌≡◌, ◌≢◌, ℕ, zero, suc, ◌+◌, ◌<◌, ◌≤◌, ◌⊎◌, false, List, [], ◌∷◌, ◌++◌, length, eqb, Option, Some, None, append_assoc, append-nil, length-append, refl, sym, ◌∙◌, subst, inl, inr, arith}
use Rattle.std.specs.List.{IsDistinct, AllByRecursion}
use Rattle.std.proofs.lemmas.Bool.{cases_eq, ne_eqb}
use Rattle.std.proofs.lemmas.Cmp.{nat_eq_equiv}
use Rattle.std.proofs.lemmas.Map.Keys.{IsDistinct-push, IsDistinct-cons}
use Rattle.std.proofs.lemmas.Map.Steps.{length-le_from_distinct_below}
use Rattle.tdb_words.specs.Word.{word}
use Rattle.tdb_space.specs.Form.{Form}
use Rattle.tdb_space.specs.Chain.{Member}
use Rattle.tdb_space.specs.FirstFault.{Fault, ListKind, Passed, Sound, FirstInList, record_fault}
use Rattle.tdb_space.proofs.Chain.Walks.{member_cases}
use Rattle.tdb_space.proofs.FirstFault.Cleared.{clear_from, stands_from}

-- there is a fault, or none
pub fault_cases : (o : Option Fault) → (o ≡ None) ⊎ ((e : Fault) × (o ≡ Some e))
fault_cases None = inl refl
fault_cases (Some e) = inr (e, refl)

-- one more record that was passed
pub passed_more : (f : Form) (kind : ListKind) (img earlier : List ℕ) (head : ℕ) (xs : List ℕ) (place x : ℕ) → Passed f kind img earlier head xs place → word f.order img place ≡ x → x ≢ 0 → record_fault f kind img (earlier ++ xs) place x ≡ None → Passed f kind img earlier head (xs ++ x ∷ []) x
passed_more f kind img earlier head [] place x p w some none =
    (subst (λ q. word f.order img q ≡ x) p w, some, (λ j. record_fault f kind img (sym (append-nil earlier) j) (sym p j) x) ∙ none, refl)
passed_more f kind img earlier head (y ∷ ys) place x p w some none =
    (p.0, p.1, p.2, passed_more f kind img (earlier ++ y ∷ []) y ys place x p.3 w some (subst (λ zs. record_fault f kind img zs place x ≡ None) (sym (append_assoc earlier (y ∷ []) ys)) none))

-- no offset comes twice among them
passed_distinct : (f : Form) (kind : ListKind) (img earlier : List ℕ) (head : ℕ) (xs : List ℕ) (last : ℕ) → Passed f kind img earlier head xs last → IsDistinct eqb earlier → IsDistinct eqb (earlier ++ xs)
passed_distinct f kind img earlier head [] last p d = subst (IsDistinct eqb) (sym (append-nil earlier)) d
passed_distinct f kind img earlier head (x ∷ xs) last p d =
    let c = clear_from f kind img earlier head x p.2 in
    subst (IsDistinct eqb) (append_assoc earlier (x ∷ []) xs) (passed_distinct f kind img (earlier ++ x ∷ []) x xs last p.3 (IsDistinct-push nat_eq_equiv earlier x d c.new))

distinct_none : IsDistinct eqb []
unfolding IsDistinct
distinct_none = tt

no_member : (z : ℕ) → Member z [] → ⊥
no_member z h = cc

-- each lies in the image
passed_below : (f : Form) (kind : ListKind) (img earlier : List ℕ) (head : ℕ) (xs : List ℕ) (last z : ℕ) → Passed f kind img earlier head xs last → Member z xs → z < length img
passed_below f kind img earlier head [] last z p m = absurd (no_member z m)
passed_below f kind img earlier head (x ∷ xs) last z p m =
    elim (member_cases z x xs m) [
      | inl e ↦ let s = stands_from f img x (clear_from f kind img earlier head x p.2).stands in omega (arith, e, s.2)
      | inr there ↦ passed_below f kind img (earlier ++ x ∷ []) x xs last z p.3 there
    ]

-- none of them is 0
passed_some : (f : Form) (kind : ListKind) (img earlier : List ℕ) (head : ℕ) (xs : List ℕ) (last : ℕ) → Passed f kind img earlier head xs last → AllByRecursion (λ y. eqb 0 y ≡ false) xs
passed_some f kind img earlier head [] last p = tt
passed_some f kind img earlier head (x ∷ xs) last p = (ne_eqb 0 x (λ e. p.1 (sym e)), passed_some f kind img (earlier ++ x ∷ []) x xs last p.3)

-- so there are fewer of them than bytes
pub passed_short : (f : Form) (kind : ListKind) (img : List ℕ) (head : ℕ) (xs : List ℕ) (last : ℕ) → 0 < length img → Passed f kind img [] head xs last → length xs < length img
passed_short f kind img head xs last some p =
    let below : (z : ℕ) → Member z (0 ∷ xs) → z < length img = λ z m.
    elim (member_cases z 0 xs m) [ inl e ↦ omega (arith, e, some) | inr there ↦ passed_below f kind img [] head xs last z p there ] in
    let short : length (0 ∷ xs) ≤ length img = length-le_from_distinct_below (0 ∷ xs) (length img) (IsDistinct-cons eqb 0 xs (passed_some f kind img [] head xs last p) (passed_distinct f kind img [] head xs last p distinct_none)) below in
    omega (arith, short)

-- after some records a list ends, since no more of them can be passed than so many turns
ends_from : (f : Form) (kind : ListKind) (img : List ℕ) (head turns : ℕ) (xs : List ℕ) (place : ℕ) → 0 < length img → Passed f kind img [] head xs place → length img ≤ length xs + turns → Sound f kind img head ⊎ ((e : Fault) × FirstInList f kind img head e)
ends_from f kind img head zero xs place long p enough = absurd (omega (arith, enough, passed_short f kind img head xs place long p))
ends_from f kind img head (suc turns) xs place long p enough =
    let y = word f.order img place in
    elim (cases_eq y 0) [
      | inl ends ↦ inl (xs, place, p, ends)
      | inr some ↦
          elim (fault_cases (record_fault f kind img xs place y)) [
            | inr found ↦ inr (found.0, (xs, place, p, some, found.1))
            | inl none ↦ ends_from f kind img head turns (xs ++ y ∷ []) y long (passed_more f kind img [] head xs place y p refl some none) (omega (arith, enough, length-append xs (y ∷ [])))
          ]
    ]

-- a list is sound, or it has a first fault
pub list_ends : (f : Form) (kind : ListKind) (img : List ℕ) (head : ℕ) → 0 < length img → Sound f kind img head ⊎ ((e : Fault) × FirstInList f kind img head e)
list_ends f kind img head long = ends_from f kind img head (length img) [] head long refl (omega arith)
