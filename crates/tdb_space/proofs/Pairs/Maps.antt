-- The map of an image at a key is found in one chain, that of the key's hash.
use Rattle.std.proofs.Common.{◌≡◌, ℕ, zero, suc, ◌<◌, List, [], ◌∷◌, ◌++◌, Bool, true, false, Option, Some, None, refl, sym, ◌∙◌, ap, subst, inl, inr, arith}
use Rattle.std.specs.Prelude.{◌%◌}
use Rattle.std.specs.Option.{option_or}
use Rattle.std.specs.Map.{lookup}
use Rattle.std.specs.Cmp.Lexicographic.{bytes_decides}
use Rattle.std.proofs.lemmas.Bool.{eq-eqb, ne_eqb, cases_Bool, cases_eq, false_from_ne_true}
use Rattle.tdb_words.specs.declared.record.TheConstants.{USED}
use Rattle.tdb_words.specs.declared.word.Order.{Order}
use Rattle.tdb_words.specs.Hash.{h_of}
use Rattle.tdb_space.specs.Form.{Form}
use Rattle.tdb_space.specs.Record.{key_at, data_at, magic_of}
use Rattle.tdb_space.specs.Chain.{chain_of}
use Rattle.tdb_space.specs.Pairs.{joined, pairs, same_key, map_of, home}
use Rattle.tdb_space.specs.Accepted.{AllFiled, IsFiled}

-- two keys are the same exactly where they are equal
pub same_key-eq : (k q : List ℕ) → same_key k q ≡ true → k ≡ q
same_key-eq k q e = (bytes_decides k q).0 e

pub same_key-refl : (k : List ℕ) → same_key k k ≡ true
same_key-refl k = (bytes_decides k k).1 refl

pub same_key-other : (k q : List ℕ) → (k ≡ q → ⊥) → same_key k q ≡ false
same_key-other k q apart = false_from_ne_true (same_key k q) (λ e. apart (same_key-eq k q e))

-- a look-up in two lists, one after the other
pub lookup_append : {K X : Type 0} (t : K → Bool) (xs ys : List (K × X)) → lookup t (xs ++ ys) ≡ option_or (lookup t xs) (lookup t ys)
lookup_append t [] ys = refl
lookup_append t (x ∷ xs) ys =
    elim (cases_Bool (t x.0)) [
      | inl e ↦ rw e refl
      | inr e ↦ rw e (lookup_append t xs ys)
    ]

pub lookup_absent : {K X : Type 0} (t : K → Bool) (xs ys : List (K × X)) → lookup t xs ≡ None → lookup t (xs ++ ys) ≡ lookup t ys
lookup_absent t xs ys e = lookup_append t xs ys ∙ ap (λ o. option_or o (lookup t ys)) e

-- the pairs of a list that begins with a used record, and with another one
pub pairs_used : (o : Order) (img : List ℕ) (x : ℕ) (xs : List ℕ) → magic_of o img x ≡ USED → pairs o img (x ∷ xs) ≡ (key_at o img x, data_at o img x) ∷ pairs o img xs
pairs_used o img x xs e = rw (eq-eqb (magic_of o img x) USED e) refl

pub pairs_other : (o : Order) (img : List ℕ) (x : ℕ) (xs : List ℕ) → (magic_of o img x ≡ USED → ⊥) → pairs o img (x ∷ xs) ≡ pairs o img xs
pairs_other o img x xs ne = rw (ne_eqb (magic_of o img x) USED ne) refl

-- a record that isn't used or has another key isn't what a look-up finds
pub lookup_passed : (o : Order) (img k : List ℕ) (x : ℕ) (xs : List ℕ) → (magic_of o img x ≡ USED → key_at o img x ≡ k → ⊥) → lookup (same_key k) (pairs o img (x ∷ xs)) ≡ lookup (same_key k) (pairs o img xs)
lookup_passed o img k x xs lacks =
    elim (cases_eq (magic_of o img x) USED) [
      | inl e ↦ ap (lookup (same_key k)) (pairs_used o img x xs e) ∙ rw (same_key-other k (key_at o img x) (λ same. lacks e (sym same))) refl
      | inr ne ↦ ap (lookup (same_key k)) (pairs_other o img x xs ne)
    ]

-- a used record with the key is what a look-up finds
pub lookup_met : (o : Order) (img k : List ℕ) (x : ℕ) (xs : List ℕ) → magic_of o img x ≡ USED → key_at o img x ≡ k → lookup (same_key k) (pairs o img (x ∷ xs)) ≡ Some (data_at o img x)
lookup_met o img k x xs e same = ap (lookup (same_key k)) (pairs_used o img x xs e) ∙ rw (subst (λ q. same_key k q ≡ true) (sym same) (same_key-refl k)) refl

-- a chain in which a key isn't filed doesn't have it
pub absent : (f : Form) (img k : List ℕ) (j : ℕ) (xs : List ℕ) → AllFiled f img j xs → (home f k ≡ j → ⊥) → lookup (same_key k) (pairs f.order img xs) ≡ None
absent f img k j [] filed apart = refl
absent f img k j (x ∷ xs) filed apart =
    lookup_passed f.order img k x xs (λ used same. apart (ap (λ q. h_of f.hash q % f.chains) (sym same) ∙ ap (λ h. h % f.chains) (sym (filed.0 used).hashed) ∙ (filed.0 used).placed))
    ∙ absent f img k j xs filed.1 apart

-- a look-up in joined lists, of which one alone can have the key
lookup_none : {K X : Type 0} (t : K → Bool) (n : ℕ) (F : ℕ → List (K × X)) → ((j : ℕ) → j < n → lookup t (F j) ≡ None) → lookup t (joined n F) ≡ None
lookup_none t zero F all = refl
lookup_none t (suc n) F all = lookup_absent t (joined n F) (F n) (lookup_none t n F (λ j low. all j (omega arith))) ∙ all n (omega arith)

pub lookup_joined : {K X : Type 0} (t : K → Bool) (i n : ℕ) (F : ℕ → List (K × X)) → i < n → ((j : ℕ) → j < n → (i ≡ j → ⊥) → lookup t (F j) ≡ None) → lookup t (joined n F) ≡ lookup t (F i)
lookup_joined t i zero F low others = absurd (omega arith)
lookup_joined t i (suc n) F low others =
    elim (cases_eq i n) [
      | inl e ↦ lookup_absent t (joined n F) (F n) (lookup_none t n F (λ j below. others j (omega arith) (λ same. absurd (omega (arith, same, e))))) ∙ ap (λ j. lookup t (F j)) (sym e)
      | inr ne ↦
          lookup_append t (joined n F) (F n) ∙ ap (option_or (lookup t (joined n F))) (others n (omega arith) ne) ∙ option_or_none (lookup t (joined n F))
          ∙ lookup_joined t i n F (omega arith) (λ j below apart. others j (omega arith) apart)
    ]
  where
    option_or_none : {X : Type 0} (o : Option X) → option_or o None ≡ o
    option_or_none None = refl
    option_or_none (Some x) = refl

-- the chain in which a key is filed is one of the chains
pub home_below : (f : Form) (k : List ℕ) → 0 < f.chains → home f k < f.chains
home_below f k some = omega arith

-- the pairs of any chains in which all is filed, looked up at a key: only its own chain counts
pub map_met : (f : Form) (img : List ℕ) (chain : ℕ → List ℕ) (k : List ℕ) → 0 < f.chains → ((j : ℕ) → j < f.chains → AllFiled f img j (chain j)) → lookup (same_key k) (joined f.chains (λ j. pairs f.order img (chain j))) ≡ lookup (same_key k) (pairs f.order img (chain (home f k)))
map_met f img chain k some filed =
    lookup_joined (same_key k) (home f k) f.chains (λ j. pairs f.order img (chain j)) (home_below f k some) (λ j low apart. absent f img k j (chain j) (filed j low) apart)

-- the map at a key is the look-up in the pairs of the key's chain
pub map_home : (f : Form) (img k : List ℕ) → IsFiled f img → map_of f img k ≡ lookup (same_key k) (pairs f.order img (chain_of f img (home f k)))
map_home f img k h = map_met f img (chain_of f img) k h.some h.filed
