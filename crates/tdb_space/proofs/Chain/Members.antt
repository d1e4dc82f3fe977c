-- Single records of a list: what holds of each, and that two of them share no byte that is held once.
use Rattle.std.proofs.Common.{◌≡◌, ℕ, ◌+◌, ◌≤◌, ◌⊎◌, List, [], ◌∷◌, sym, ◌∙◌, ap, subst, inl, inr, arith}
use Rattle.std.proofs.lemmas.Bool.{cases_eq, eq-eqb, ne_eqb, false≢true}
use Rattle.tdb_words.specs.declared.word.Order.{Order}
use Rattle.tdb_words.specs.Word.{word}
use Rattle.tdb_space.specs.Form.{Form}
use Rattle.tdb_space.specs.Chain.{Member, Leads, without}
use Rattle.tdb_space.specs.Extents.{times, once, extents, extent_at}
use Rattle.tdb_space.proofs.Exchange.Kept.{Body, Bodies, Nexts}
use Rattle.tdb_space.proofs.Chain.Walks.{member_cases, member_first, member_other}

-- what holds of each record, as a fact of the list
pub bodies_from : (a b : List ℕ) (f : Form) (xs : List ℕ) → ((z : ℕ) → Member z xs → Body a b f z) → Bodies a b f xs
bodies_from a b f [] each = tt
bodies_from a b f (x ∷ xs) each = (each x (member_first x xs), bodies_from a b f xs (λ z m. each z (member_other z x xs m)))

pub nexts_from : (a b : List ℕ) (f : Form) (xs : List ℕ) → ((z : ℕ) → Member z xs → word f.order b z ≡ word f.order a z) → Nexts a b f xs
nexts_from a b f [] each = tt
nexts_from a b f (x ∷ xs) each = (each x (member_first x xs), nexts_from a b f xs (λ z m. each z (member_other z x xs m)))

-- the bytes of one record are held by the list
pub member_held : (o : Order) (a xs : List ℕ) (z i : ℕ) → Member z xs → once (extent_at o a z) i ≤ times (extents o a xs) i
member_held o a [] z i m = absurd (false≢true m)
member_held o a (x ∷ xs) z i m =
    elim (member_cases z x xs m) [
      | inl e ↦ let same : once (extent_at o a z) i ≡ once (extent_at o a x) i = ap (λ y. once (extent_at o a y) i) e in omega (arith, same)
      | inr there ↦ omega (arith, member_held o a xs z i there)
    ]

-- and so are those of two records, together
pub two_members : (o : Order) (a xs : List ℕ) (y z i : ℕ) → Member y xs → Member z xs → (y ≡ z → ⊥) → once (extent_at o a y) i + once (extent_at o a z) i ≤ times (extents o a xs) i
two_members o a [] y z i m n apart = absurd (false≢true m)
two_members o a (x ∷ xs) y z i m n apart =
    elim (member_cases y x xs m) [
      | inl e ↦
          let same : once (extent_at o a y) i ≡ once (extent_at o a x) i = ap (λ w. once (extent_at o a w) i) e in
          elim (member_cases z x xs n) [ inl e' ↦ absurd (apart (e ∙ sym e')) | inr there ↦ omega (arith, same, member_held o a xs z i there) ]
      | inr here ↦
          elim (member_cases z x xs n) [
            | inl e ↦ let same : once (extent_at o a z) i ≡ once (extent_at o a x) i = ap (λ w. once (extent_at o a w) i) e in omega (arith, same, member_held o a xs y i here)
            | inr there ↦ omega (arith, two_members o a xs y z i here there apart)
          ]
    ]

-- the record that is led to is one of the list, and what leads to it is the first word's place or another record
pub led_member : (p : ℕ) (xs : List ℕ) (before y : ℕ) → Leads p xs before y → Member y xs
led_member p [] before y led = absurd led
led_member p (x ∷ xs) before y (inl here) = subst (λ z. Member z (x ∷ xs)) here.1 (member_first x xs)
led_member p (x ∷ xs) before y (inr there) = member_other y x xs (led_member x xs before y there)

pub led_from : (p : ℕ) (xs : List ℕ) (before y : ℕ) → Leads p xs before y → (before ≡ p) ⊎ Member before xs
led_from p [] before y led = absurd led
led_from p (x ∷ xs) before y (inl here) = inl (sym here.0)
led_from p (x ∷ xs) before y (inr there) =
    elim (led_from x xs before y there) [ inl e ↦ inr (subst (λ z. Member z (x ∷ xs)) (sym e) (member_first x xs)) | inr m ↦ inr (member_other before x xs m) ]

-- without a record the list has its bytes less
pub times_without : (o : Order) (a xs : List ℕ) (y i : ℕ) → Member y xs → times (extents o a (without y xs)) i + once (extent_at o a y) i ≡ times (extents o a xs) i
times_without o a [] y i m = absurd (false≢true m)
times_without o a (x ∷ xs) y i m =
    elim (cases_eq x y) [
      | inl e ↦
          let same : once (extent_at o a y) i ≡ once (extent_at o a x) i = ap (λ z. once (extent_at o a z) i) (sym e) in
          rw (eq-eqb x y e) (omega (arith, same))
      | inr ne ↦
          elim (member_cases y x xs m) [
            | inl e ↦ absurd (ne (sym e))
            | inr there ↦ rw (ne_eqb x y ne) (omega (arith, times_without o a xs y i there))
          ]
    ]

pub bodies_without : (a b : List ℕ) (f : Form) (xs : List ℕ) (y : ℕ) → Bodies a b f xs → Bodies a b f (without y xs)
bodies_without a b f [] y bodies = tt
bodies_without a b f (x ∷ xs) y bodies =
    elim (cases_eq x y) [ inl e ↦ rw (eq-eqb x y e) bodies.1 | inr ne ↦ rw (ne_eqb x y ne) (bodies.0, bodies_without a b f xs y bodies.1) ]
