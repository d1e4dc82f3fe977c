-- The records that are still to come, from the last one to the first.
use Rattle.std.proofs.Common.{◌≡◌, ℕ, ◌+◌, ◌-◌, ◌*◌, ◌<◌, ◌≤◌, List, [], ◌∷◌, ◌++◌, length, length-append, append_assoc, append-nil, Bool, true, false, Option, None, Some, refl, sym, ◌∙◌, ap, arith}
use Rattle.std.specs.Prelude.{◌/◌, ◌==◌, option_to_list, IsSome, IfNone, MatchOption}
use Rattle.std.proofs.lemmas.Bool.{false≢true, eqb-true, eq-eqb}
use Rattle.std.proofs.lemmas.List.{map-append, nil_from_length}
use Rattle.std.proofs.lemmas.Nat.{row_fits}
use Rattle.tdb_space.specs.Pairs.{joined}
use Rattle.tdb_space.proofs.Pairs.Listed.{joined_more}
use Rattle.tdb_rewrite.specs.Places.{offs_of}
use Rattle.tdb_rewrite.specs.declared.walk.Listed.{Listed}

-- a list is empty where its length is 0, and only there
pub is_nil : (xs : List Listed) (n : ℕ) (empty : Bool) → empty ≡ (n == 0) → length xs ≡ n → empty ≡ true → xs ≡ []
is_nil xs n empty is long so = nil_from_length xs (long ∙ eqb-true n 0 (sym is ∙ so))

pub isnt_nil : (xs : List Listed) (n : ℕ) (empty : Bool) → empty ≡ (n == 0) → length xs ≡ n → empty ≡ false → xs ≡ [] → ⊥
isnt_nil xs n empty is long isnt none =
    let zero : n ≡ 0 = sym long ∙ ap length none in
    false≢true (sym isnt ∙ is ∙ eq-eqb n 0 zero)

-- the offsets of records of which one more is the last
offs_more : (xs ys zs : List Listed) → xs ≡ ys ++ zs → offs_of xs ≡ offs_of ys ++ offs_of zs
offs_more xs ys zs e = ap offs_of e ∙ map-append (λ (x : Listed). x.off) ys zs

-- the last of them is given, if there is one
pub gave_last : (below : List ℕ) (xs ys : List Listed) (o : Option Listed) → xs ≡ ys ++ option_to_list o → below ++ offs_of xs ≡ (below ++ offs_of ys) ++ offs_of (option_to_list o)
gave_last below xs ys o e = ap (λ zs. below ++ zs) (offs_more xs ys (option_to_list o) e) ∙ sym (append_assoc below (offs_of ys) (offs_of (option_to_list o)))

-- a record that was passed is among them
pub passed_more : (xs ys : List Listed) (x : Listed) (rest : List ℕ) → ys ≡ xs ++ x ∷ [] → offs_of xs ++ x.off ∷ rest ≡ offs_of ys ++ rest
passed_more xs ys x rest pushed =
    sym (append_assoc (offs_of xs) (x.off ∷ []) rest) ∙ ap (λ zs. zs ++ rest) (sym (offs_more ys xs (x ∷ []) pushed))

module _ (n m : ℕ) (xs ys : List Listed) (is : length xs ≡ n) (are : length ys ≡ m) where
  -- where there is none, none is to come
  pub none_to_come : (c : ℕ → List ℕ) (chains : ℕ) (o : Option Listed) → MatchOption o ((n ≡ 0) × (m ≡ 0)) (λ _. m + 1 ≡ n) → (xs ≡ [] → chains ≡ 0) → IfNone o (joined chains c ++ offs_of ys ≡ [])
  none_to_come c chains None cases filled =
      let zero : chains ≡ 0 = filled (nil_from_length xs (omega (arith, is, cases.0))) in
      let empty : ys ≡ [] = nil_from_length ys (omega (arith, are, cases.1)) in
      ap (λ k. joined k c ++ offs_of ys) zero ∙ ap offs_of empty
  none_to_come c chains (Some x) cases filled = tt

  -- else one less is
  pub one_fewer : (row most : ℕ) (o : Option Listed) → MatchOption o ((n ≡ 0) × (m ≡ 0)) (λ _. m + 1 ≡ n) → row + length xs ≤ most → IsSome o → row + length ys < most
  one_fewer row most None cases before some = absurd (false≢true some)
  one_fewer row most (Some x) cases before some = omega (arith, is, are, cases, before)

-- a chain was walked along, and then its records are to come
module _ (n m : ℕ) (xs ys : List Listed) (more : 0 < n) (lower : m ≡ n - 1) (none : xs ≡ []) where
  pub walked_along : (c : ℕ → List ℕ) → offs_of ys ≡ offs_of xs ++ c m → joined m c ++ offs_of ys ≡ joined n c ++ offs_of xs
  walked_along c found =
      let next : n ≡ m + 1 = omega (arith, more, lower) in
      let bare : offs_of xs ≡ [] = ap offs_of none in
      ap (λ zs. joined m c ++ zs) (found ∙ ap (λ zs. zs ++ c m) bare) ∙ sym (joined_more m c) ∙ ap (λ k. joined k c) (sym next)
      ∙ sym (append-nil (joined n c)) ∙ ap (λ zs. joined n c ++ zs) (sym bare)

  pub walked_fewer : (len most : ℕ) → 4 * length ys ≤ 4 * length xs + len → n * (len / 4) + length xs ≤ most → m * (len / 4) + length ys ≤ most
  walked_fewer len most few before =
      let w = len / 4 in
      let bare : length xs ≡ 0 = ap length none in
      let short : length ys ≤ w = omega (arith, few, bare) in
      let row : m * w + w ≤ n * w = row_fits m w n w (omega (arith, more, lower)) (omega arith) in
      omega (arith, row, short, before)

-- one record more of a chain is among the places, and one less may be read
pub pushed_few : (xs ys : List Listed) (x : Listed) (left next most : ℕ) → ys ≡ xs ++ x ∷ [] → next < left → 4 * (length xs + left) ≤ most → 4 * (length ys + next) ≤ most
pushed_few xs ys x left next most pushed fewer before =
    let longer : length ys ≡ length xs + 1 = ap length pushed ∙ length-append xs (x ∷ []) in
    omega (arith, longer, fewer, before)

-- where none was given none was to come
pub all_given : (xs ys : List ℕ) (o : Option Listed) → xs ≡ ys ++ offs_of (option_to_list o) → IfNone o (ys ≡ []) → ((x : Listed) → o ≡ Some x → ⊥) → xs ≡ []
all_given xs ys None gives none never = gives ∙ append-nil ys ∙ none
all_given xs ys (Some x) gives none never = absurd (never x refl)
