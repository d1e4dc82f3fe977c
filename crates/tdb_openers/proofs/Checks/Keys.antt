-- The map of an accepted image has as many keys as the image has pairs.
use Rattle.std.proofs.Common.{◌≡◌, ℕ, ◌+◌, List, [], ◌∷◌, length, true, false, cond, None, is_some, refl, sym, ◌∙◌, ap, subst, arith}
use Rattle.std.specs.List.{AllByRecursion, IsDistinct}
use Rattle.std.specs.Map.{keys_of}
use Rattle.std.specs.FinMap.{find, from_entries, get, len, len-empty, len-insert, get-from_entries}
use Rattle.std.proofs.lemmas.Bool.{false_from_ne_true}
use Rattle.std.proofs.lemmas.Map.Keys.{IsDistinct-head, IsDistinct-tail}
use Rattle.tdb_space.specs.Pairs.{order_of, same_key}
use Rattle.tdb_space.proofs.Pairs.Maps.{same_key-refl}
use Rattle.tdb_space.proofs.Pairs.Orders.{order_distinct}
use Rattle.tdb_law.specs.Openers.{bytes_cmp, is_key}
use Rattle.tdb_law.proofs.Maps.{keys_total, is_key-eq}
use Rattle.tdb_law.proofs.Tests.{never_true}
use Rattle.tdb_openers.specs.Laws.{KeysAreCounted}

-- a key that differs from all isn't found
absent : (k : List ℕ) (es : List (List ℕ × List ℕ)) → AllByRecursion (λ y. same_key k y ≡ false) (keys_of es) → find bytes_cmp k es ≡ None
absent k [] differ = refl
absent k (e ∷ es) differ =
    let other : is_key e.0 k ≡ false = false_from_ne_true (is_key e.0 k) (λ is. never_true (sym differ.0 ∙ subst (λ q. same_key k q ≡ true) (is_key-eq e.0 k is) (same_key-refl k))) in
    rw other (absent k es differ.1)

counted : (es : List (List ℕ × List ℕ)) → IsDistinct same_key (keys_of es) → len (from_entries {R = bytes_cmp} es) ≡ length es
counted [] differ = len-empty bytes_cmp (List ℕ)
counted (e ∷ es) differ =
    let new : get (from_entries {R = bytes_cmp} es) e.0 ≡ None = get-from_entries keys_total es e.0 ∙ absent e.0 es (IsDistinct-head same_key e.0 (keys_of es) differ) in
    let rest = counted es (IsDistinct-tail same_key e.0 (keys_of es) differ) in
    let m = from_entries {R = bytes_cmp} es in
    len-insert keys_total m e.0 e.1 ∙ (ap (λ o. cond (is_some o) (len m) (len m + 1)) new ∙ omega (arith, rest))

pub keys_are_counted : KeysAreCounted
keys_are_counted f img hands A = counted (order_of f img) (order_distinct f img hands A)
