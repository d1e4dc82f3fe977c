-- The pairs of lists of records, and lists that are joined.
use Rattle.std.proofs.Common.{◌≡◌, ℕ, ◌+◌, ◌<◌, List, [], ◌∷◌, ◌++◌, length, take, get_or, append_assoc, append-nil, add-one, refl, sym, ◌∙◌, ap}
use Rattle.std.proofs.lemmas.List.{take_more}
use Rattle.tdb_words.specs.declared.word.Order.{Order}
use Rattle.tdb_space.specs.Pairs.{joined, pair_of, pairs}

pub pairs-append : (o : Order) (img xs ys : List ℕ) → pairs o img (xs ++ ys) ≡ pairs o img xs ++ pairs o img ys
pairs-append o img [] ys = refl
pairs-append o img (x ∷ xs) ys = ap (λ ps. pair_of o img x ++ ps) (pairs-append o img xs ys) ∙ sym (append_assoc (pair_of o img x) (pairs o img xs) (pairs o img ys))

-- one more record at the end
pub pairs-push : (o : Order) (img xs : List ℕ) (x : ℕ) → pairs o img (xs ++ x ∷ []) ≡ pairs o img xs ++ pair_of o img x
pairs-push o img xs x = pairs-append o img xs (x ∷ []) ∙ ap (λ ps. pairs o img xs ++ ps) (append-nil (pair_of o img x))

-- one more record of the front of a list
pub pairs_more : (o : Order) (img xs : List ℕ) (i : ℕ) → i < length xs → pairs o img (take (i + 1) xs) ≡ pairs o img (take i xs) ++ pair_of o img (get_or xs i 0)
pairs_more o img xs i below = ap (pairs o img) (take_more xs i 0 below) ∙ pairs-push o img (take i xs) (get_or xs i 0)

-- one more list
pub joined_more : {T : Type 0} (n : ℕ) (f : ℕ → List T) → joined (n + 1) f ≡ joined n f ++ f n
joined_more n f = rw (add-one n) refl
