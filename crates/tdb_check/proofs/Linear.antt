-- Where no two keys of a chain are alike, an accepted image takes reads in proportion to its length.
use Rattle.std.proofs.Common.{◌≡◌, ◌≢◌, ℕ, zero, suc, ◌+◌, ◌-◌, ◌*◌, ◌<◌, ◌≤◌, min, max, List, [], ◌∷◌, ◌++◌, length, refl, ◌∙◌, ap, inl, inr, arith}
use Rattle.std.specs.Prelude.{sum_by}
use Rattle.std.specs.List.{range_with_len}
use Rattle.std.proofs.lemmas.Bool.{cases_eq, eq-eqb, ne_eqb}
use Rattle.std.proofs.lemmas.List.FromFn.{length-range_with_len}
use Rattle.std.proofs.lemmas.List.Sums.{sum_by-cons, sum_by-append, sum_by-le}
use Rattle.tdb_words.specs.declared.record.TheConstants.{USED}
use Rattle.tdb_words.specs.Word.{word}
use Rattle.tdb_space.specs.Form.{Form, form_of, chain_head, free_head}
use Rattle.tdb_space.specs.Record.{IsChained, IsFree, magic_of, key_len_of}
use Rattle.tdb_space.specs.Chain.{Linked, chain_of, free_of}
use Rattle.tdb_space.specs.Pairs.{joined}
use Rattle.tdb_space.specs.Extents.{Extent, once, times, extents, extent_at}
use Rattle.tdb_space.specs.Accepted.{Accept, AllFiled}
use Rattle.tdb_space.proofs.Extents.Counts.{lies, below, above, where_is, times-append, times_all}
use Rattle.tdb_check.specs.declared.keys.Noted.{Noted}
use Rattle.tdb_check.specs.Keys.{noted_at, notes_of}
use Rattle.tdb_check.specs.Reads.{record_reads, key_bytes, chain_reads, chains_reads, check_reads, NoLikeKeys}
use Rattle.tdb_check.proofs.Notings.{notes_used, notes_other}
use Rattle.tdb_check.proofs.ChainSums.{chains_push}

-- how many bytes extents have in all
abbrev sizes : List Extent → ℕ
sizes es = sum_by (λ e. e.1) es

-- each of them ends at an offset or before
abbrev Within : ℕ → List Extent → Type 0
Within long [] = Unit {0}
Within long (e ∷ es) = (e.0 + e.1 ≤ long) × Within long es

within_both : (long : ℕ) (es fs : List Extent) → Within long es → Within long fs → Within long (es ++ fs)
within_both long [] fs p q = q
within_both long (e ∷ es) fs p q = (p.0, within_both long es fs p.1 q)

-- the bytes of an extent in a range, one by one
part_held : (e : Extent) (a n : ℕ) → min (e.0 + e.1) (a + n) - max e.0 a ≤ sum_by (once e) (range_with_len a n)
part_held e a zero = omega arith
part_held e a (suc n) =
    let rest = part_held e (a + 1) n in
    let all = sum_by-cons (once e) a (range_with_len (a + 1) n) in
    elim (where_is e a) [
      | lies high low one ↦ omega (arith, rest, all, one, high, low)
      | below lt none ↦ omega (arith, rest, all, none, lt)
      | above le none ↦ omega (arith, rest, all, none, le)
    ]

sum_of_both : (f g : ℕ → ℕ) (is : List ℕ) → sum_by (λ i. f i + g i) is ≡ sum_by f is + sum_by g is
sum_of_both f g [] = refl
sum_of_both f g (i ∷ is) = omega (arith, sum_of_both f g is, sum_by-cons (λ k. f k + g k) i is, sum_by-cons f i is, sum_by-cons g i is)

-- the sizes are no more than how often all bytes are held
all_held : (long : ℕ) (es : List Extent) → Within long es → sizes es ≤ sum_by (times es) (range_with_len 0 long)
all_held long [] w = omega arith
all_held long (e ∷ es) w =
    omega (
      arith,
      sum_by-cons (λ (x : Extent). x.1) e es,
      sum_of_both (once e) (times es) (range_with_len 0 long),
      part_held e 0 long,
      w.0,
      all_held long es w.1,
    )

-- where no byte is held twice they are no more than the bytes
pub sizes_most : (long : ℕ) (es : List Extent) → Within long es → ((i : ℕ) → times es i ≤ 1) → sizes es ≤ long
sizes_most long es w apart =
    let ones = sum_by-le (times es) 1 (range_with_len 0 long) (λ k d low. apart _) in
    omega (arith, all_held long es w, ones, length-range_with_len 0 long)

-- a list of records that stand whole
linked_within : (f : Form) (M : ℕ → Type 0) (img : List ℕ) (at : ℕ) (xs : List ℕ) → Linked f M img at xs → Within (length img) (extents f.order img xs)
linked_within f M img at [] l = tt
linked_within f M img at (x ∷ xs) l = (omega (arith, l.1.within), linked_within f M img (word f.order img x) xs l.3)

joined_within : (long n : ℕ) (F : ℕ → List Extent) → ((j : ℕ) → j < n → Within long (F j)) → Within long (joined n F)
joined_within long zero F each = tt
joined_within long (suc n) F each = within_both long (joined n F) (F n) (joined_within long n F (λ j low. each j (omega (arith, low)))) (each n (omega arith))

other_reads : (f : Form) (img : List ℕ) (x : ℕ) → magic_of f.order img x ≢ USED → record_reads f img x ≡ 132
other_reads f img x other = rw (ne_eqb (magic_of f.order img x) USED other) refl

used_reads : (f : Form) (img : List ℕ) (x : ℕ) → magic_of f.order img x ≡ USED → record_reads f img x ≡ 132 + key_len_of f.order img x
used_reads f img x used = rw (eq-eqb (magic_of f.order img x) USED used) refl

key_bytes-cons : (e : Noted) (es : List Noted) → key_bytes (e ∷ es) ≡ e.key_len + key_bytes es
key_bytes-cons e es = sum_by-cons (λ (x : Noted). x.key_len) e es

-- the records of a chain take 16 times their sizes at most
chain_most : (f : Form) (img : List ℕ) (j at : ℕ) (xs : List ℕ) → Linked f IsChained img at xs → AllFiled f img j xs → sum_by (record_reads f img) xs + 15 * key_bytes (notes_of f img xs) ≤ 16 * sizes (extents f.order img xs)
chain_most f img j at [] l filed = omega arith
chain_most f img j at (x ∷ xs) l filed =
    let rest = chain_most f img j (word f.order img x) xs l.3 filed.1 in
    let reads = sum_by-cons (record_reads f img) x xs in
    let size = sum_by-cons (λ (e : Extent). e.1) (extent_at f.order img x) (extents f.order img xs) in
    elim (cases_eq (magic_of f.order img x) USED) [
      | inl used ↦
          let keys = ap key_bytes (notes_used f img x xs used) ∙ key_bytes-cons (noted_at f img x) (notes_of f img xs) in
          omega (arith, rest, reads, size, keys, used_reads f img x used, (filed.0 used).fits)
      | inr other ↦
          let keys = ap key_bytes (notes_other f img x xs other) in
          omega (arith, rest, reads, size, keys, other_reads f img x other, l.1.len_least)
    ]

not_used : (m : ℕ) → IsFree m → m ≢ USED
not_used m free used = absurd (omega (arith, free, used))

free_most : (f : Form) (img : List ℕ) (at : ℕ) (xs : List ℕ) → Linked f IsFree img at xs → sum_by (record_reads f img) xs ≤ 16 * sizes (extents f.order img xs)
free_most f img at [] l = omega arith
free_most f img at (x ∷ xs) l =
    omega (
      arith,
      free_most f img (word f.order img x) xs l.3,
      sum_by-cons (record_reads f img) x xs,
      sum_by-cons (λ (e : Extent). e.1) (extent_at f.order img x) (extents f.order img xs),
      other_reads f img x (not_used (magic_of f.order img x) l.2),
      l.1.len_least,
    )

chains_most : (f : Form) (img : List ℕ) (F : ℕ → List Extent) (n : ℕ) → ((j : ℕ) → j < n → chain_reads 1 f img j ≤ 16 * sizes (F j)) → chains_reads 1 f img 0 n ≤ 16 * sizes (joined n F)
chains_most f img F zero each = omega arith
chains_most f img F (suc n) each =
    let next : n + 1 ≡ suc n = omega arith in
    let here : 0 + n ≡ n = omega arith in
    omega (
      arith,
      ap (chain_reads 1 f img) here,
      chains_most f img F n (λ j low. each j (omega (arith, low))),
      chains_push 1 f img 0 n,
      ap (chains_reads 1 f img 0) next,
      each n (omega arith),
      sum_by-append (λ (e : Extent). e.1) (joined n F) (F n),
    )

pub reads_most : (img : List ℕ) → Accept img → NoLikeKeys (form_of img) img → check_reads 1 (form_of img) img ≤ 33 * length img + 28
reads_most img a alone =
    let f = form_of img in
    let chained = joined f.chains (λ j. extents f.order img (chain_of f img j)) in
    let free = extents f.order img (free_of f img) in
    let within : Within (length img) (chained ++ free) =
    within_both (length img) chained free
    (joined_within (length img) f.chains (λ j. extents f.order img (chain_of f img j)) (λ j low. linked_within f IsChained img (word f.order img (chain_head j)) (chain_of f img j) (a.chains j low)))
    (linked_within f IsFree img (word f.order img free_head) (free_of f img) a.frees) in
    let apart : (i : ℕ) → times (chained ++ free) i ≤ 1 = λ i. omega (arith, times-append chained free i, times_all f img (chain_of f img) (free_of f img) [] i, a.apart i) in
    let chains : chains_reads 1 f img 0 f.chains ≤ 16 * sizes chained =
    chains_most f img (λ j. extents f.order img (chain_of f img j)) f.chains
    (λ j low. omega (arith, chain_most f img j (word f.order img (chain_head j)) (chain_of f img j) (a.chains j low) (a.filed j low), alone j low)) in
    let frees = free_most f img (word f.order img free_head) (free_of f img) a.frees in
    let most = sizes_most (length img) (chained ++ free) within apart in
    let both = sum_by-append (λ (e : Extent). e.1) chained free in
    omega (arith, chains, frees, most, both, a.long)
