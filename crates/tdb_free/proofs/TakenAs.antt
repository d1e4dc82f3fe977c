-- What a take makes of the list of free records: the record that it takes from leaves the list, or stands in it as a
-- shorter one.
use Rattle.std.proofs.Common.{◌≡◌, ℕ, ◌≤◌, Bool, true, false, List, [], ◌∷◌, ◌++◌, Option, Some, None, refl, sym, ◌∙◌, ap, subst, inl, inr, arith}
use Rattle.std.specs.List.{find}
use Rattle.std.proofs.lemmas.Bool.{cases_Bool, cases_eq, eq-eqb, false≢true}
use Rattle.tdb_space.specs.Form.{Form}
use Rattle.tdb_space.specs.Record.{rec_len_of}
use Rattle.tdb_space.specs.Chain.{Member, Leads, without}
use Rattle.tdb_space.specs.Extents.{HandPair, once, times, extents, extent_at}
use Rattle.tdb_space.proofs.Extents.Counts.{once_in}
use Rattle.tdb_space.proofs.Exchange.Kept.{Bodies, words_kept}
use Rattle.tdb_space.proofs.Chain.Walks.{member_cases, member_first, member_other}
use Rattle.tdb_space.proofs.Chain.Members.{member_held}
use Rattle.tdb_free.specs.FreeList.{free_pairs, instead, words_at}
use Rattle.tdb_free.proofs.Passed.{find_here, find_later, without_tail}

-- what stands in place of the first pair of a list, where it passes a test and where it doesn't
instead_here : (test : HandPair → Bool) (g : HandPair → List HandPair) (p : HandPair) (ps : List HandPair) → test p ≡ true → instead test g (p ∷ ps) ≡ g p ++ ps
instead_here test g p ps e = rw e refl

instead_later : (test : HandPair → Bool) (g : HandPair → List HandPair) (p : HandPair) (ps : List HandPair) → test p ≡ false → instead test g (p ∷ ps) ≡ p ∷ instead test g ps
instead_later test g p ps e = rw e refl

pub without_here : (y x : ℕ) (xs : List ℕ) → x ≡ y → without y (x ∷ xs) ≡ xs
without_here y x xs e = rw (eq-eqb x y e) refl

-- what is found passes the test
pub found_passes : (test : HandPair → Bool) (ps : List HandPair) (p : HandPair) → find test ps ≡ Some p → test p ≡ true
found_passes test [] p e = grind (arith)
found_passes test (q ∷ ps) p e = grind (arith, found_passes test ps p)

some_is : (p q : HandPair) → Some p ≡ Some q → p ≡ q
some_is p q e = ap (λ o. first o) e
  where
    first : Option HandPair → HandPair
    first None = p
    first (Some r) = r

-- the rec_len of records that stay
pub lens_kept : (f : Form) (a b xs : List ℕ) → Bodies a b f xs → (z : ℕ) → Member z xs → rec_len_of f.order b z ≡ rec_len_of f.order a z
lens_kept f a b [] bodies z m = absurd (false≢true m)
lens_kept f a b (x ∷ xs) bodies z m =
    elim (member_cases z x xs m) [
      | inl e ↦ ap (rec_len_of f.order b) e ∙ (words_kept f a b x bodies.0).rec_len ∙ ap (rec_len_of f.order a) (sym e)
      | inr there ↦ lens_kept f a b xs bodies.1 z there
    ]

pub pairs_kept : (f : Form) (a b xs : List ℕ) → ((z : ℕ) → Member z xs → rec_len_of f.order b z ≡ rec_len_of f.order a z) → free_pairs f b xs ≡ free_pairs f a xs
pairs_kept f a b [] same = refl
pairs_kept f a b (x ∷ xs) same = λ j. (x, same x (member_first x xs) j) ∷ pairs_kept f a b xs (λ z m. same z (member_other z x xs m)) j

module _ (f : Form) (a b : List ℕ) (test : HandPair → Bool) (g : HandPair → List HandPair) (p : HandPair) where
  -- no byte of these records is held twice
  abbrev Apart : List ℕ → Type 0
  Apart xs = (i : ℕ) → times (extents f.order a xs) i ≤ 1

  apart_rest : (x : ℕ) (xs : List ℕ) → Apart (x ∷ xs) → Apart xs
  apart_rest x xs held i = omega (arith, held i)

  -- so the first isn't one of the others
  apart_first : (x : ℕ) (xs : List ℕ) → Apart (x ∷ xs) → Member x xs → ⊥
  apart_first x xs held m = absurd (omega (arith, held x, once_in (extent_at f.order a x) x (omega arith) (omega arith), member_held f.order a xs x x m))

  abbrev Found : List ℕ → Type 0
  Found xs = find test (free_pairs f a xs) ≡ Some p

  -- what is found is a record of the list
  found_member : (xs : List ℕ) → Found xs → Member p.0 xs
  found_member [] found = absurd (none_some found)
    where
      none_some : None ≡ Some p → ⊥
      none_some e = cc
  found_member (x ∷ xs) found =
      elim (cases_Bool (test (x, rec_len_of f.order a x))) [
        | inl t ↦
            let e = some_is (x, rec_len_of f.order a x) p (sym (find_here test (x, rec_len_of f.order a x) (free_pairs f a xs) t) ∙ found) in
            subst (λ z. Member z (x ∷ xs)) (ap (λ q. q.0) e) (member_first x xs)
        | inr t ↦
            member_other p.0 x xs (found_member xs (sym (find_later test (x, rec_len_of f.order a x) (free_pairs f a xs) t) ∙ found))
      ]

  -- nothing stands in its place: the list without it
  pub pairs_without : (xs : List ℕ) → Found xs → Apart xs → g p ≡ [] → ((z : ℕ) → Member z xs → rec_len_of f.order b z ≡ rec_len_of f.order a z) → free_pairs f b (without p.0 xs) ≡ instead test g (free_pairs f a xs)
  pairs_without [] found held none same = refl
  pairs_without (x ∷ xs) found held none same =
      elim (cases_Bool (test (x, rec_len_of f.order a x))) [
        | inl t ↦
            let e = some_is (x, rec_len_of f.order a x) p (sym (find_here test (x, rec_len_of f.order a x) (free_pairs f a xs) t) ∙ found) in
            ap (free_pairs f b) (without_here p.0 x xs (ap (λ q. q.0) e))
            ∙ pairs_kept f a b xs (λ z m. same z (member_other z x xs m))
            ∙ sym (instead_here test g (x, rec_len_of f.order a x) (free_pairs f a xs) t ∙ ap (λ q. g q ++ free_pairs f a xs) e ∙ ap (λ qs. qs ++ free_pairs f a xs) none)
        | inr t ↦
            let later = sym (find_later test (x, rec_len_of f.order a x) (free_pairs f a xs) t) ∙ found in
            let other : x ≡ p.0 → ⊥ = λ e. apart_first x xs held (subst (λ z. Member z xs) (sym e) (found_member xs later)) in
            let rest = pairs_without xs later (apart_rest x xs held) none (λ z m. same z (member_other z x xs m)) in
            ap (free_pairs f b) (without_tail x p.0 xs other)
            ∙ (λ j. (x, same x (member_first x xs) j) ∷ rest j)
            ∙ sym (instead_later test g (x, rec_len_of f.order a x) (free_pairs f a xs) t)
      ]

  -- a shorter one stands in its place: the same records, with its new length
  pub pairs_cut : (xs : List ℕ) (n : ℕ) → Found xs → Apart xs → g p ≡ (p.0, n) ∷ [] → rec_len_of f.order b p.0 ≡ n → ((z : ℕ) → Member z xs → (z ≡ p.0 → ⊥) → rec_len_of f.order b z ≡ rec_len_of f.order a z) → free_pairs f b xs ≡ instead test g (free_pairs f a xs)
  pairs_cut [] n found held cut len same = refl
  pairs_cut (x ∷ xs) n found held cut len same =
      elim (cases_Bool (test (x, rec_len_of f.order a x))) [
        | inl t ↦
            let e = some_is (x, rec_len_of f.order a x) p (sym (find_here test (x, rec_len_of f.order a x) (free_pairs f a xs) t) ∙ found) in
            let at : x ≡ p.0 = ap (λ q. q.0) e in
            let others = pairs_kept f a b xs (λ z m. same z (member_other z x xs m) (λ is. apart_first x xs held (subst (λ y. Member y xs) (is ∙ sym at) m))) in
            (λ j. (at j, (ap (rec_len_of f.order b) at ∙ len) j) ∷ others j)
            ∙ sym (instead_here test g (x, rec_len_of f.order a x) (free_pairs f a xs) t ∙ ap (λ q. g q ++ free_pairs f a xs) e ∙ ap (λ qs. qs ++ free_pairs f a xs) cut)
        | inr t ↦
            let later = sym (find_later test (x, rec_len_of f.order a x) (free_pairs f a xs) t) ∙ found in
            let other : x ≡ p.0 → ⊥ = λ e. apart_first x xs held (subst (λ z. Member z xs) (sym e) (found_member xs later)) in
            let rest = pairs_cut xs n later (apart_rest x xs held) cut len (λ z m ne. same z (member_other z x xs m) ne) in
            (λ j. (x, same x (member_first x xs) other j) ∷ rest j)
            ∙ sym (instead_later test g (x, rec_len_of f.order a x) (free_pairs f a xs) t)
      ]

  -- the word that leads to a record isn't the record's own
  pub led_apart : (q : ℕ) (xs : List ℕ) (before y : ℕ) → (Member q xs → ⊥) → Apart xs → Leads q xs before y → before ≡ y → ⊥
  led_apart q [] before y none held led e = led
  led_apart q (x ∷ xs) before y none held (inl here) e = none (subst (λ z. Member z (x ∷ xs)) (here.1 ∙ sym e ∙ sym here.0) (member_first x xs))
  led_apart q (x ∷ xs) before y none held (inr there) e = led_apart x xs before y (apart_first x xs held) (apart_rest x xs held) there e

-- the other records stay in the list without one
pub member_without : (z y : ℕ) (xs : List ℕ) → Member z xs → (z ≡ y → ⊥) → Member z (without y xs)
member_without z y [] m ne = m
member_without z y (x ∷ xs) m ne =
    elim (member_cases z x xs m) [
      | inl e ↦ subst (Member z) (sym (without_tail x y xs (λ is. ne (e ∙ is)))) (subst (λ w. Member w (x ∷ without y xs)) (sym e) (member_first x (without y xs)))
      | inr there ↦
          elim (cases_eq x y) [
            | inl is ↦ subst (Member z) (sym (without_here y x xs is)) there
            | inr other ↦ subst (Member z) (sym (without_tail x y xs other)) (member_other z x (without y xs) (member_without z y xs there ne))
          ]
    ]

-- the first words of records are among those of the list
pub words_held : (z i : ℕ) (xs : List ℕ) → Member z xs → once (z, 4) i ≤ times (words_at xs) i
words_held z i [] m = absurd (false≢true m)
words_held z i (x ∷ xs) m =
    elim (member_cases z x xs m) [
      | inl e ↦ let same : once (z, 4) i ≡ once (x, 4) i = ap (λ y. once (y, 4) i) e in omega (arith, same)
      | inr there ↦ omega (arith, words_held z i xs there)
    ]
