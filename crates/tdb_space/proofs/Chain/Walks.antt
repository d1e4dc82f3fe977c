-- Walks along next words: from an offset there is one list of records, no offset comes twice in it, and it is no longer
-- than a quarter of the image; so the computed offsets are that list, where there is one.
use Rattle.std.proofs.Common.{◌≡◌, ℕ, zero, suc, ◌+◌, ◌*◌, ◌<◌, ◌≤◌, ◌⊎◌, List, [], ◌∷◌, length, get_or, map, eqb, false, refl, sym, ◌∙◌, ap, subst, inl, inr, arith}
use Rattle.std.specs.Prelude.{◌/◌}
use Rattle.std.proofs.lemmas.List.Folds.{list_any_at}
use Rattle.std.specs.List.{All, IsDistinct, AllByRecursion, list_any}
use Rattle.std.proofs.lemmas.Bool.{eqb-true, eq-eqb, ne_eqb, or_cases, or_left, or_right, false_from_ne_true, or_parts, false≢true}
use Rattle.std.proofs.lemmas.List.{length-map}
use Rattle.std.proofs.lemmas.Map.Keys.{IsDistinct-cons}
use Rattle.std.proofs.lemmas.Map.Steps.{length-le_from_distinct_below}
use Rattle.tdb_words.specs.Word.{word}
use Rattle.tdb_space.specs.Form.{Form}
use Rattle.tdb_space.specs.Record.{Whole}
use Rattle.tdb_space.specs.Chain.{Linked, Member, offsets}

-- a member is the first or one of the others
pub member_cases : (z x : ℕ) (xs : List ℕ) → Member z (x ∷ xs) → (z ≡ x) ⊎ Member z xs
member_cases z x xs h = elim (or_cases (eqb z x) (list_any (eqb z) xs) h) [ inl here ↦ inl (eqb-true z x here) | inr there ↦ inr there ]

-- the first is a member
pub member_first : (x : ℕ) (xs : List ℕ) → Member x (x ∷ xs)
member_first x xs = or_left (eqb x x) (list_any (eqb x) xs) (eq-eqb x x refl)

-- one of the others is a member
pub member_other : (z x : ℕ) (xs : List ℕ) → Member z xs → Member z (x ∷ xs)
member_other z x xs h = or_right (eqb z x) (list_any (eqb z) xs) h

-- an offset that is no member of a list without two alike can be put in front of it
pub distinct_with : (x : ℕ) (xs : List ℕ) → (Member x xs → ⊥) → IsDistinct eqb xs → IsDistinct eqb (x ∷ xs)
distinct_with x xs apart rest = IsDistinct-cons eqb x xs (each_apart x xs (false_from_ne_true (list_any (eqb x) xs) apart)) rest
  where
    each_apart : (x : ℕ) (xs : List ℕ) → list_any (eqb x) xs ≡ false → AllByRecursion (λ y. eqb x y ≡ false) xs
    each_apart x [] e = tt
    each_apart x (y ∷ ys) e = let parts = or_parts (eqb x y) (list_any (eqb x) ys) e in (parts.0, each_apart x ys parts.1)

-- from an offset there is one list
pub linked_one : (f : Form) (M : ℕ → Type 0) (img : List ℕ) (at : ℕ) (xs ys : List ℕ) → Linked f M img at xs → Linked f M img at ys → xs ≡ ys
linked_one f M img at [] [] p q = refl
linked_one f M img at [] (y ∷ ys) p q = absurd (omega (arith, p, q.0, q.1.above))
linked_one f M img at (x ∷ xs) [] p q = absurd (omega (arith, q, p.0, p.1.above))
linked_one f M img at (x ∷ xs) (y ∷ ys) p q =
    let e : y ≡ x = sym q.0 ∙ p.0 in
    let rest : Linked f M img (word f.order img x) ys = subst (λ z. Linked f M img (word f.order img z) ys) e q.3 in
    let same : xs ≡ ys = linked_one f M img (word f.order img x) xs ys p.3 rest in
    λ j. sym e j ∷ same j

-- each record of a list stands whole, and its magic is of the kind
pub linked_whole : (f : Form) (M : ℕ → Type 0) (img : List ℕ) (at : ℕ) (xs : List ℕ) (z : ℕ) → Linked f M img at xs → Member z xs → Whole f img z × M (word f.order img (z + 20))
linked_whole f M img at [] z p h = absurd (false≢true h)
linked_whole f M img at (x ∷ xs) z p h =
    elim (member_cases z x xs h) [
      | inl e ↦ subst (λ y. Whole f img y × M (word f.order img (y + 20))) (sym e) (p.1, p.2)
      | inr there ↦ linked_whole f M img (word f.order img x) xs z p.3 there
    ]

-- from each record of a list the rest of it is a list, and it is no longer
linked_from : (f : Form) (M : ℕ → Type 0) (img : List ℕ) (at : ℕ) (xs : List ℕ) (z : ℕ) → Linked f M img at xs → Member z xs → (ys : List ℕ) × Linked f M img z ys × (length ys ≤ length xs)
linked_from f M img at [] z p h = absurd (false≢true h)
linked_from f M img at (x ∷ xs) z p h =
    elim (member_cases z x xs h) [
      | inl e ↦ (x ∷ xs, subst (λ y. Linked f M img y (x ∷ xs)) (p.0 ∙ sym e) p, omega arith)
      | inr there ↦ let rest = linked_from f M img (word f.order img x) xs z p.3 there in (rest.0, rest.1, omega (arith, rest.2))
    ]

-- the first record of a list isn't one of the others
pub linked_apart : (f : Form) (M : ℕ → Type 0) (img : List ℕ) (at x : ℕ) (xs : List ℕ) → Linked f M img at (x ∷ xs) → Member x xs → ⊥
linked_apart f M img at x xs p h =
    let rest = linked_from f M img (word f.order img x) xs x p.3 h in
    let whole : Linked f M img x (x ∷ xs) = subst (λ y. Linked f M img y (x ∷ xs)) p.0 p in
    let same : rest.0 ≡ x ∷ xs = linked_one f M img x rest.0 (x ∷ xs) rest.1 whole in
    absurd (omega (arith, ap length same, rest.2))

-- no offset comes twice in a list
pub linked_distinct : (f : Form) (M : ℕ → Type 0) (img : List ℕ) (at : ℕ) (xs : List ℕ) → Linked f M img at xs → IsDistinct eqb xs
unfolding IsDistinct
linked_distinct f M img at [] p = tt
linked_distinct f M img at (x ∷ xs) p = distinct_with x xs (linked_apart f M img at x xs p) (linked_distinct f M img (word f.order img x) xs p.3)

-- a quarter of some record is that of a record of the list
quarter_met : (f : Form) (M : ℕ → Type 0) (img : List ℕ) (at : ℕ) (xs : List ℕ) (q : ℕ) → Linked f M img at xs → Member q (map (λ x. x / 4) xs) → Member (4 * q) xs
quarter_met f M img at [] q p h = absurd (false≢true h)
quarter_met f M img at (x ∷ xs) q p h =
    elim (member_cases q (x / 4) (map (λ y. y / 4) xs) h) [
      | inl e ↦ or_left (eqb (4 * q) x) (list_any (eqb (4 * q)) xs) (eq-eqb (4 * q) x (omega (arith, p.1.aligned)))
      | inr there ↦ member_other (4 * q) x xs (quarter_met f M img (word f.order img x) xs q p.3 there)
    ]

quarters_distinct : (f : Form) (M : ℕ → Type 0) (img : List ℕ) (at : ℕ) (xs : List ℕ) → Linked f M img at xs → IsDistinct eqb xs → IsDistinct eqb (map (λ x. x / 4) xs)
unfolding IsDistinct
quarters_distinct f M img at [] p d = tt
quarters_distinct f M img at (x ∷ xs) p d = distinct_with (x / 4) (map (λ y. y / 4) xs) apart (quarters_distinct f M img (word f.order img x) xs p.3 d.1)
  where
    among : (z : ℕ) (ys : List ℕ) → AllByRecursion (λ y. eqb x y ≡ false) ys → Member z ys → z ≡ x → ⊥
    among z [] a m e = false≢true m
    among z (y ∷ ys) a m e = elim (member_cases z y ys m) [ inl here ↦ false≢true (sym a.0 ∙ eq-eqb x y (sym e ∙ here)) | inr there ↦ among z ys a.1 there e ]

    apart : Member (x / 4) (map (λ y. y / 4) xs) → ⊥
    apart h = among (4 * (x / 4)) xs d.0 (quarter_met f M img (word f.order img x) xs (x / 4) p.3 h) (omega (arith, p.1.aligned))

-- a list has no more records than the image has words
pub linked_short : (f : Form) (M : ℕ → Type 0) (img : List ℕ) (at : ℕ) (xs : List ℕ) → Linked f M img at xs → length xs ≤ length img / 4
linked_short f M img at xs p =
    let below : (q : ℕ) → Member q (map (λ x. x / 4) xs) → q < length img / 4 = λ q h.
    (let w = linked_whole f M img at xs (4 * q) p (quarter_met f M img at xs q p h) in omega (arith, w.0.within)) in
    let short = length-le_from_distinct_below (map (λ x. x / 4) xs) (length img / 4) (quarters_distinct f M img at xs p (linked_distinct f M img at xs p)) below in
    omega (arith, short, length-map xs (λ (x : ℕ). x / 4))

-- a list that isn't longer than the number of turns is the computed one
walk_turns : (f : Form) (M : ℕ → Type 0) (img : List ℕ) (n at : ℕ) (xs : List ℕ) → Linked f M img at xs → length xs ≤ n → offsets f.order img n at ≡ xs
walk_turns f M img zero at [] p h = refl
walk_turns f M img zero at (x ∷ xs) p h = absurd (omega arith)
walk_turns f M img (suc n) at [] p h = rw (eq-eqb at 0 p) refl
walk_turns f M img (suc n) at (x ∷ xs) p h =
    let apart : at ≡ 0 → ⊥ = λ e. absurd (omega (arith, e, p.0, p.1.above)) in
    let rest : offsets f.order img n (word f.order img x) ≡ xs = walk_turns f M img n (word f.order img x) xs p.3 (omega arith) in
    rw (ne_eqb at 0 apart) (λ j. p.0 j ∷ (ap (λ y. offsets f.order img n (word f.order img y)) p.0 ∙ rest) j)

-- where there is a list from an offset, the computed offsets are it
pub walk_meets : (f : Form) (M : ℕ → Type 0) (img : List ℕ) (at : ℕ) (xs : List ℕ) → Linked f M img at xs → offsets f.order img (length img / 4) at ≡ xs
walk_meets f M img at xs p = walk_turns f M img (length img / 4) at xs p (linked_short f M img at xs p)

-- the records of a list, place by place, stand whole
pub linked_each : (f : Form) (M : ℕ → Type 0) (img : List ℕ) (at : ℕ) (xs : List ℕ) → Linked f M img at xs → All (Whole f img) xs
linked_each f M img at xs p k d below = (linked_whole f M img at xs (get_or xs k d) p (list_any_at (eqb (get_or xs k d)) xs k d below (eq-eqb (get_or xs k d) (get_or xs k d) refl))).0
