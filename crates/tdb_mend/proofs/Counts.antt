-- Counts over ranges: two that follow one another, one that is moved, and one of a list.
use Rattle.std.proofs.Common.{◌≡◌, ℕ, zero, suc, ◌+◌, ◌-◌, ◌<◌, ◌≤◌, Bool, List, [], ◌∷◌, length, take, drop, count_by, cond, refl, sym, ◌∙◌, ap, arith}
use Rattle.std.specs.Prelude.{slice_index, zip}
use Rattle.std.specs.List.{range_with_len}
use Rattle.std.proofs.lemmas.List.Sums.{sum_by-cons}
use Rattle.tdb_check.specs.Stray.{is_content}
use Rattle.tdb_mend.specs.Counting.{content_between, differs}
use Rattle.tdb_mend.specs.Mended.{bytes_changed}
use Rattle.tdb_mend.proofs.Pieces.{part_byte}

pub count_parts : (p : ℕ → Bool) (a m n : ℕ) → count_by p (range_with_len a (m + n)) ≡ count_by p (range_with_len a m) + count_by p (range_with_len (a + m) n)
count_parts p a zero n =
    let start : a ≡ a + 0 = omega arith in
    let all : 0 + n ≡ n = omega arith in
    let moved : count_by p (range_with_len a (0 + n)) ≡ count_by p (range_with_len (a + 0) n) = λ j. count_by p (range_with_len (start j) (all j)) in
    omega (arith, moved)
count_parts p a (suc m) n =
    let more : suc m + n ≡ suc (m + n) = omega arith in
    let on : a + 1 + m ≡ a + suc m = omega arith in
    let first_more : count_by p (range_with_len a (suc m + n)) ≡ count_by p (range_with_len a (suc (m + n))) = ap (λ k. count_by p (range_with_len a k)) more in
    let rest = count_parts p (a + 1) m n in
    let last : count_by p (range_with_len (a + 1 + m) n) ≡ count_by p (range_with_len (a + suc m) n) = ap (λ k. count_by p (range_with_len k n)) on in
    omega (arith, first_more, rest, last, sum_by-cons (λ i. cond (p i) 1 0) a (range_with_len (a + 1) (m + n)), sum_by-cons (λ i. cond (p i) 1 0) a (range_with_len (a + 1) m))

pub count_shifted : (p q : ℕ → Bool) (a b n : ℕ) → ((k : ℕ) → k < n → p (a + k) ≡ q (b + k)) → count_by p (range_with_len a n) ≡ count_by q (range_with_len b n)
count_shifted p q a b zero same = refl
count_shifted p q a b (suc n) same =
    let at_a : a ≡ a + 0 = omega arith in
    let at_b : b + 0 ≡ b = omega arith in
    let here : p a ≡ q b = ap p at_a ∙ same 0 (omega arith) ∙ ap q at_b in
    let heads : ◌≡◌ {A = ℕ} (cond (p a) 1 0) (cond (q b) 1 0) = ap (λ x. cond x 1 0) here in
    let rest = count_shifted p q (a + 1) (b + 1) n
    (λ k low.
    (let on_a : a + 1 + k ≡ a + suc k = omega arith in
    let on_b : b + suc k ≡ b + 1 + k = omega arith in
    ap p on_a ∙ same (suc k) (omega (arith, low)) ∙ ap q on_b)) in
    omega (arith, sum_by-cons (λ i. cond (p i) 1 0) a (range_with_len (a + 1) n), sum_by-cons (λ i. cond (q i) 1 0) b (range_with_len (b + 1) n), heads, rest)

-- the elements of a list by their places
pub count_places : (q : ℕ → Bool) (xs : List ℕ) → count_by q xs ≡ count_by (λ k. q (slice_index xs k)) (range_with_len 0 (length xs))
count_places q [] = refl
count_places q (x ∷ xs) =
    let rest = count_shifted (λ k. q (slice_index (x ∷ xs) k)) (λ k. q (slice_index xs k)) (0 + 1) 0 (length xs)
    (λ k low.
    (let on : 0 + 1 + k ≡ suc k = omega arith in
    let back : k ≡ 0 + k = omega arith in
    ap (λ n. q (slice_index (x ∷ xs) n)) on ∙ ap (λ n. q (slice_index xs n)) back)) in
    omega (
      arith,
      sum_by-cons (λ y. cond (q y) 1 0) x xs,
      sum_by-cons (λ k. cond (q (slice_index (x ∷ xs) k)) 1 0) 0 (range_with_len (0 + 1) (length xs)),
      rest,
      count_places q xs,
    )

-- the places at which two lists of one length differ
pub count_zipped : (xs ys : List ℕ) → length xs ≡ length ys → count_by differs (zip xs ys) ≡ bytes_changed xs ys
count_zipped [] [] same = refl
count_zipped [] (y ∷ ys) same = absurd (omega (arith, same))
count_zipped (x ∷ xs) [] same = absurd (omega (arith, same))
count_zipped (x ∷ xs) (y ∷ ys) same =
    let rest = count_shifted (λ k. differs (slice_index (x ∷ xs) k, slice_index (y ∷ ys) k)) (λ k. differs (slice_index xs k, slice_index ys k)) (0 + 1) 0 (length ys)
    (λ k low.
    (let on : 0 + 1 + k ≡ suc k = omega arith in
    let back : k ≡ 0 + k = omega arith in
    ap (λ n. differs (slice_index (x ∷ xs) n, slice_index (y ∷ ys) n)) on ∙ ap (λ n. differs (slice_index xs n, slice_index ys n)) back)) in
    omega (
      arith,
      sum_by-cons (λ (p : ℕ × ℕ). cond (differs p) 1 0) (x, y) (zip xs ys),
      sum_by-cons (λ k. cond (differs (slice_index (x ∷ xs) k, slice_index (y ∷ ys) k)) 1 0) 0 (range_with_len (0 + 1) (length ys)),
      rest,
      count_zipped xs ys (omega (arith, same)),
    )

-- a range that is no range has none
pub content_none : (img : List ℕ) (from : ℕ) → 0 ≡ content_between img from from
content_none img from = let none : 0 ≡ from - from = omega arith in ap (λ n. count_by (λ i. is_content (slice_index img i)) (range_with_len from n)) none

-- a piece more that was read
pub content_more : (img piece : List ℕ) (from at size : ℕ) → from ≤ at → piece ≡ take size (drop at img) → length piece ≡ size → content_between img from (at + size) ≡ content_between img from at + count_by is_content piece
content_more img piece from at size low read sized =
    let long : at + size - from ≡ (at - from) + size = omega (arith, low) in
    let there : from + (at - from) ≡ at = omega (arith, low) in
    let both = ap (λ n. count_by (λ i. is_content (slice_index img i)) (range_with_len from n)) long ∙ count_parts (λ i. is_content (slice_index img i)) from (at - from) size in
    let last = ap (λ k. count_by (λ i. is_content (slice_index img i)) (range_with_len k size)) there in
    let shifted = count_shifted (λ i. is_content (slice_index img i)) (λ k. is_content (slice_index piece k)) at 0 size
    (λ k under.
    (let back : k ≡ 0 + k = omega arith in
    ap is_content (sym (part_byte img at size k under) ∙ ap (λ xs. slice_index xs k) (sym read) ∙ ap (slice_index piece) back))) in
    let all = ap (λ n. count_by (λ k. is_content (slice_index piece k)) (range_with_len 0 n)) (sym sized) ∙ sym (count_places is_content piece) in
    both ∙ ap (λ n. count_by (λ i. is_content (slice_index img i)) (range_with_len from (at - from)) + n) (last ∙ shifted ∙ all)

-- all of it, where that is more than nothing
pub content_all : (img : List ℕ) (from to at : ℕ) → from ≤ at → at - from ≤ to - from → to ≤ at → content_between img from at ≡ content_between img from to
content_all img from to at low within over =
    let same : at - from ≡ to - from = omega (arith, low, within, over) in
    ap (λ n. count_by (λ i. is_content (slice_index img i)) (range_with_len from n)) same
