-- The first free record that is long enough, looked for one by one.
use Rattle.std.proofs.Common.{◌≡◌, ◌≤◌, ◌<◌, ℕ, ◌+◌, List, ◌∷◌, drop, length, true, sym, ◌∙◌, ap, arith}
use Rattle.std.specs.Prelude.{is_some, slice_index_or}
use Rattle.std.proofs.lemmas.List.{drop_more}
use Rattle.tdb_space.specs.Extents.{HandPair}
use Rattle.tdb_free.specs.FreeList.{first_fit}

-- the record in front is long enough
fit_first : (n : ℕ) (r : HandPair) (rs : List HandPair) → n ≤ r.1 → is_some (first_fit (r ∷ rs) n) ≡ true
fit_first n r rs long = grind (arith, long)

-- it isn't
short_first : (n : ℕ) (r : HandPair) (rs : List HandPair) → r.1 < n → first_fit (r ∷ rs) n ≡ first_fit rs n
short_first n r rs short = grind (arith, short)

module _ (n : ℕ) (xs : List HandPair) (i : ℕ) (r : HandPair) (below : i < length xs) (here : r ≡ slice_index_or xs i r) (left : first_fit xs n ≡ first_fit (drop i xs) n) where
  ahead : first_fit xs n ≡ first_fit (r ∷ drop (i + 1) xs) n
  ahead = left ∙ ap (λ l. first_fit l n) (drop_more xs i r below) ∙ ap (λ y. first_fit (y ∷ drop (i + 1) xs) n) (sym here)

  pub fit_found : n ≤ r.1 → true ≡ is_some (first_fit xs n)
  fit_found long = sym (ap is_some ahead ∙ fit_first n r (drop (i + 1) xs) long)

  pub fit_passed : r.1 < n → first_fit xs n ≡ first_fit (drop (i + 1) xs) n
  fit_passed short = ahead ∙ short_first n r (drop (i + 1) xs) short
