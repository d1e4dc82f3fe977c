-- Records that follow one another without a fault are fewer than the words of the image.
use Rattle.std.proofs.Common.{◌≡◌, ℕ, ◌+◌, ◌*◌, ◌<◌, ◌≤◌, Bool, true, false, List, [], ◌∷◌, ◌++◌, length, map, eqb, Some, None, refl, sym, ◌∙◌, inl, inr, arith}
use Rattle.std.specs.Prelude.{◌/◌, ◌%◌, if◌then◌else◌}
use Rattle.std.specs.List.{IsDistinct, AllByRecursion, list_any}
use Rattle.std.proofs.lemmas.Bool.{eq-eqb, or_left, false≢true}
use Rattle.std.proofs.lemmas.List.{length-map}
use Rattle.std.proofs.lemmas.Map.Keys.{IsDistinct-cons}
use Rattle.std.proofs.lemmas.Map.Steps.{length-le_from_distinct_below}
use Rattle.tdb_space.specs.Form.{Form}
use Rattle.tdb_space.specs.Chain.{Member}
use Rattle.tdb_space.specs.FirstFault.{Fault, ListKind, Passed, is_out, is_bad, has_wrong_tailer, is_misfiled, has_twin}
use Rattle.tdb_space.proofs.Chain.Walks.{member_cases, member_first, member_other, distinct_with}
use Rattle.tdb_space.proofs.FirstFault.Cleared.{stands_from}
use Rattle.tdb_check.specs.Walked.{Walked}
use Rattle.tdb_check.proofs.Walked.{tested_from, walked_distinct, walked_some, distinct_none}

-- each of some offsets is a multiple of 4 and leaves room for a word
abbrev Placed : ℕ → List ℕ → Type 0
Placed long xs = (z : ℕ) → Member z xs → (z % 4 ≡ 0) × (z + 4 ≤ long)

placed_rest : (long x : ℕ) (xs : List ℕ) → Placed long (x ∷ xs) → Placed long xs
placed_rest long x xs p z m = p z (member_other z x xs m)

quarter_met : (long q : ℕ) (xs : List ℕ) → Placed long xs → Member q (map (λ x. x / 4) xs) → Member (4 * q) xs
quarter_met long q [] p h = absurd (false≢true h)
quarter_met long q (x ∷ xs) p h =
    elim (member_cases q (x / 4) (map (λ y. y / 4) xs) h) [
      | inl e ↦ or_left (eqb (4 * q) x) (list_any (eqb (4 * q)) xs) (eq-eqb (4 * q) x (omega (arith, e, (p x (member_first x xs)).0)))
      | inr there ↦ member_other (4 * q) x xs (quarter_met long q xs (placed_rest long x xs p) there)
    ]

quarters_distinct : (long : ℕ) (xs : List ℕ) → Placed long xs → IsDistinct eqb xs → IsDistinct eqb (map (λ x. x / 4) xs)
unfolding IsDistinct
quarters_distinct long [] p d = tt
quarters_distinct long (x ∷ xs) p d = distinct_with (x / 4) (map (λ y. y / 4) xs) apart (quarters_distinct long xs (placed_rest long x xs p) d.1)
  where
    among : (z : ℕ) (ys : List ℕ) → AllByRecursion (λ y. eqb x y ≡ false) ys → Member z ys → z ≡ x → ⊥
    among z [] a m e = false≢true m
    among z (y ∷ ys) a m e = elim (member_cases z y ys m) [ inl here ↦ false≢true (sym a.0 ∙ eq-eqb x y (sym e ∙ here)) | inr there ↦ among z ys a.1 there e ]

    apart : Member (x / 4) (map (λ y. y / 4) xs) → ⊥
    apart h = among (4 * (x / 4)) xs d.0 (quarter_met long (x / 4) xs (placed_rest long x xs p) h) (omega (arith, (p x (member_first x xs)).0))

-- so many different offsets of words are no more than the words
placed_few : (long : ℕ) (xs : List ℕ) → Placed long xs → IsDistinct eqb xs → length xs ≤ long / 4
placed_few long xs p d =
    let below : (q : ℕ) → Member q (map (λ x. x / 4) xs) → q < long / 4 = λ q h. (let w = p (4 * q) (quarter_met long q xs p h) in omega (arith, w.1)) in
    let short = length-le_from_distinct_below (map (λ x. x / 4) xs) (long / 4) (quarters_distinct long xs p d) below in
    omega (arith, short, length-map xs (λ (x : ℕ). x / 4))

walked_placed : (f : Form) (kind : ListKind) (img earlier : List ℕ) (head : ℕ) (xs : List ℕ) (last z : ℕ) → Walked f kind img earlier head xs last → Member z xs → (z % 4 ≡ 0) × (z + 4 ≤ length img)
walked_placed f kind img earlier head [] last z p m = absurd (false≢true m)
walked_placed f kind img earlier head (x ∷ xs) last z p m =
    elim (member_cases z x xs m) [
      | inl e ↦ let s = stands_from f img x (tested_from f kind img earlier head x p.2).stands in (omega (arith, e, s.0), omega (arith, e, s.2))
      | inr there ↦ walked_placed f kind img (earlier ++ x ∷ []) x xs last z p.3 there
    ]

-- the records that were walked along, and the place at 0
pub walked_few : (f : Form) (kind : ListKind) (img : List ℕ) (head : ℕ) (xs : List ℕ) (last : ℕ) → 4 ≤ length img → Walked f kind img [] head xs last → length xs < length img / 4
walked_few f kind img head xs last long p =
    let placed : Placed (length img) (0 ∷ xs) = λ z m.
    elim (member_cases z 0 xs m) [ inl e ↦ (omega (arith, e), omega (arith, e, long)) | inr there ↦ walked_placed f kind img [] head xs last z p there ] in
    let few : length (0 ∷ xs) ≤ length img / 4 = placed_few (length img) (0 ∷ xs) placed (IsDistinct-cons eqb 0 xs (walked_some f kind img [] head xs last p) (walked_distinct f kind img [] head xs last p distinct_none)) in
    omega (arith, few)

-- records that were passed were walked along
pub passed_walked : (f : Form) (kind : ListKind) (img earlier : List ℕ) (head : ℕ) (xs : List ℕ) (last : ℕ) → Passed f kind img earlier head xs last → Walked f kind img earlier head xs last
passed_walked f kind img earlier head [] last p = p
passed_walked f kind img earlier head (x ∷ xs) last p =
    (p.0, p.1, by_tests (is_out f img x) (list_any (eqb x) earlier) (is_bad f kind img x) (has_wrong_tailer f img x) (is_misfiled f kind img x) (has_twin f img earlier x) _ _ _ _ _ _ p.2, passed_walked f kind img (earlier ++ x ∷ []) x xs last p.3)
  where
    by_tests : (a b c d m n : Bool) (u v w x y z : Fault) → (if a then Some u else if b then Some v else if c then Some w else if d then Some x else if m then Some y else if n then Some z else None) ≡ None → (if a then Some u else if b then Some v else if c then Some w else if d then Some x else if m then Some y else None) ≡ None
    by_tests true b c d m n u v w x y z h = h
    by_tests false true c d m n u v w x y z h = h
    by_tests false false true d m n u v w x y z h = h
    by_tests false false false true m n u v w x y z h = h
    by_tests false false false false true n u v w x y z h = h
    by_tests false false false false false n u v w x y z h = refl
