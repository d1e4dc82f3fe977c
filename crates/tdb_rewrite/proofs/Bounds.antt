-- The keys and the values of an accepted image have no more bytes than the image.
use Rattle.std.proofs.Common.{◌≡◌, ℕ, zero, suc, ◌+◌, ◌-◌, ◌^◌, ◌<◌, ◌≤◌, min, List, [], ◌∷◌, ◌++◌, length, drop, length-take, ◌∙◌, ap, inl, inr, arith}
use Rattle.std.specs.Prelude.{sum_by}
use Rattle.std.proofs.lemmas.Bool.{cases_eq}
use Rattle.std.proofs.lemmas.List.Sums.{sum_by-cons, sum_by-append}
use Rattle.tdb_words.specs.declared.record.TheConstants.{USED}
use Rattle.tdb_words.specs.Word.{word}
use Rattle.tdb_space.specs.Form.{Form, chain_head}
use Rattle.tdb_space.specs.Record.{IsChained, magic_of, key_len_of, data_len_of, key_at, data_at}
use Rattle.tdb_space.specs.Chain.{Linked, chain_of, free_of}
use Rattle.tdb_space.specs.Pairs.{joined, pairs, order_of}
use Rattle.tdb_space.specs.Extents.{Extent, HandPair, times, extents, extent_at}
use Rattle.tdb_space.specs.Accepted.{AcceptWith, AllFiled}
use Rattle.tdb_space.proofs.Extents.Counts.{times-append, times_all}
use Rattle.tdb_space.proofs.Pairs.Maps.{pairs_used, pairs_other}
use Rattle.tdb_check.proofs.Linear.{sizes_most}
use Rattle.tdb_rewrite.specs.Sums.{key_bytes, value_bytes, Sums}
use Rattle.tdb_rewrite.specs.declared.sums.PairBytes.{PairBytes}

-- how many bytes extents have in all
abbrev sizes : List Extent → ℕ
sizes es = sum_by (λ e. e.1) es

-- each of them ends at an offset or before
abbrev Within : ℕ → List Extent → Type 0
Within long [] = Unit {0}
Within long (e ∷ es) = (e.0 + e.1 ≤ long) × Within long es

within_both : (long : ℕ) (es fs : List Extent) → Within long es → Within long fs → Within long (es ++ fs)
within_both long [] fs p q = q
within_both long (e ∷ es) fs p q = (p.0, within_both long es fs p.1 q)

chain_within : (f : Form) (img : List ℕ) (at : ℕ) (xs : List ℕ) → Linked f IsChained img at xs → Within (length img) (extents f.order img xs)
chain_within f img at [] l = tt
chain_within f img at (x ∷ xs) l = (omega (arith, l.1.within), chain_within f img (word f.order img x) xs l.3)

joined_within : (long n : ℕ) (F : ℕ → List Extent) → ((j : ℕ) → j < n → Within long (F j)) → Within long (joined n F)
joined_within long zero F each = tt
joined_within long (suc n) F each = within_both long (joined n F) (F n) (joined_within long n F (λ j low. each j (omega (arith, low)))) (each n (omega arith))

-- the bytes of these pairs in all
abbrev pair_bytes : List (List ℕ × List ℕ) → ℕ
pair_bytes given = key_bytes given + value_bytes given

bytes-append : (xs ys : List (List ℕ × List ℕ)) → pair_bytes (xs ++ ys) ≡ pair_bytes xs + pair_bytes ys
bytes-append xs ys = omega (arith, sum_by-append (λ (p : List ℕ × List ℕ). length p.0) xs ys, sum_by-append (λ (p : List ℕ × List ℕ). length p.1) xs ys)

bytes-cons : (pair : List ℕ × List ℕ) (xs : List (List ℕ × List ℕ)) → pair_bytes (pair ∷ xs) ≡ length pair.0 + length pair.1 + pair_bytes xs
bytes-cons pair xs = omega (arith, sum_by-cons (λ (p : List ℕ × List ℕ). length p.0) pair xs, sum_by-cons (λ (p : List ℕ × List ℕ). length p.1) pair xs)

-- the pairs of a chain have no more bytes than its records
chain_most : (f : Form) (img : List ℕ) (j at : ℕ) (xs : List ℕ) → Linked f IsChained img at xs → AllFiled f img j xs → pair_bytes (pairs f.order img xs) ≤ sizes (extents f.order img xs)
chain_most f img j at [] l filed = omega arith
chain_most f img j at (x ∷ xs) l filed =
    let o = f.order in
    let rest = chain_most f img j (word o img x) xs l.3 filed.1 in
    let size = sum_by-cons (λ (e : Extent). e.1) (extent_at o img x) (extents o img xs) in
    elim (cases_eq (magic_of o img x) USED) [
      | inl used ↦
          let here = ap pair_bytes (pairs_used o img x xs used) ∙ bytes-cons (key_at o img x, data_at o img x) (pairs o img xs) in
          let key : length (key_at o img x) ≤ key_len_of o img x = omega (arith, length-take (key_len_of o img x) (drop (x + 24) img)) in
          let value : length (data_at o img x) ≤ data_len_of o img x = omega (arith, length-take (data_len_of o img x) (drop (x + 24 + key_len_of o img x) img)) in
          omega (arith, rest, size, here, key, value, (filed.0 used).fits)
      | inr other ↦
          let here = ap pair_bytes (pairs_other o img x xs other) in
          omega (arith, rest, size, here)
    ]

chains_most : (P : ℕ → List (List ℕ × List ℕ)) (F : ℕ → List Extent) (n : ℕ) → ((j : ℕ) → j < n → pair_bytes (P j) ≤ sizes (F j)) → pair_bytes (joined n P) ≤ sizes (joined n F)
chains_most P F zero each = omega arith
chains_most P F (suc n) each =
    omega (
      arith,
      chains_most P F n (λ j low. each j (omega (arith, low))),
      bytes-append (joined n P) (P n),
      each n (omega arith),
      sum_by-append (λ (e : Extent). e.1) (joined n F) (F n),
    )

pub bytes_most : (f : Form) (img : List ℕ) (hands : List HandPair) → AcceptWith f img hands → pair_bytes (order_of f img) ≤ length img
bytes_most f img hands a =
    let chained = joined f.chains (λ j. extents f.order img (chain_of f img j)) in
    let within : Within (length img) chained =
    joined_within (length img) f.chains (λ j. extents f.order img (chain_of f img j)) (λ j low. chain_within f img (word f.order img (chain_head j)) (chain_of f img j) (a.chains j low)) in
    let apart : (i : ℕ) → times chained i ≤ 1 = λ i.
    omega (arith, times-append chained (extents f.order img (free_of f img)) i, times_all f img (chain_of f img) (free_of f img) hands i, a.apart i) in
    let most : sizes chained ≤ length img = sizes_most (length img) chained within apart in
    let bytes : pair_bytes (order_of f img) ≤ sizes chained =
    chains_most (λ j. pairs f.order img (chain_of f img j)) (λ j. extents f.order img (chain_of f img j)) f.chains
    (λ j low. chain_most f img j (word f.order img (chain_head j)) (chain_of f img j) (a.chains j low) (a.filed j low)) in
    omega (arith, most, bytes)

uncapped : (top n : ℕ) → n ≤ top → min (0 + n) top ≡ n
uncapped top n low = omega (arith, low)

-- so the sums over them aren't cut short
module _ (f : Form) (img : List ℕ) (hands : List HandPair) (a : AcceptWith f img hands) (short : length img ≤ 2 ^ 64 - 1) (sums : PairBytes) (h : Sums (order_of f img) sums) where
  pub keys_whole : sums.keys ≡ key_bytes (order_of f img)
  keys_whole = h.keys ∙ uncapped (2 ^ 64 - 1) (key_bytes (order_of f img)) (omega (arith, bytes_most f img hands a, short))

  pub values_whole : sums.values ≡ value_bytes (order_of f img)
  values_whole = h.values ∙ uncapped (2 ^ 64 - 1) (value_bytes (order_of f img)) (omega (arith, bytes_most f img hands a, short))
