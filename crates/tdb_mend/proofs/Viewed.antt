-- The bytes of a mended file.
use Rattle.std.proofs.Common.{◌≡◌, ℕ, ◌+◌, ◌<◌, ◌≤◌, not, Bool, List, [], length, take, drop, slice_index, count_by, sym, ◌∙◌, ap, arith}
use Rattle.std.specs.Prelude.{◌==◌, zip}
use Rattle.std.specs.List.{range_with_len}
use Rattle.std.proofs.lemmas.Bool.{eq-eqb}
use Rattle.std.proofs.lemmas.List.{ext_get_or, get_or-take, get_or-drop, length-take, length-drop, same_lists, drop-drop}
use Rattle.tdb_check.proofs.Gaps.{count_no}
use Rattle.tdb_txn.specs.Pages.{byte_over}
use Rattle.tdb_txn.specs.Txn.{txn_pages, txn_size, txn_image}
use Rattle.tdb_txn.proofs.Places.{filled_at}
use Rattle.tdb_mend.specs.declared.file.MendedFile.{MendedFile}
use Rattle.tdb_mend.specs.View.{mended_length, mended_view}
use Rattle.tdb_mend.specs.Counting.{differs}
use Rattle.tdb_mend.specs.Mended.{bytes_changed}
use Rattle.tdb_mend.proofs.Counts.{count_parts, count_shifted, count_zipped}
use Rattle.tdb_mend.specs.View.{view_length}
use Rattle.tdb_mend.proofs.Pieces.{part_byte}

-- a part of what stands behind an offset is a part of the whole
pub part_behind : (xs : List ℕ) (start off n : ℕ) → take n (drop (start + off) xs) ≡ take n (drop off (drop start xs))
part_behind xs start off n = ap (take n) (sym (drop-drop off start xs))

-- a part of what is shown of a list is a part of the list
pub part_shown : (xs : List ℕ) (len off n : ℕ) → off + n ≤ len → take n (drop off xs) ≡ take n (drop off (take len xs))
part_shown xs len off n within =
    same_lists (take n (drop off xs)) (take n (drop off (take len xs)))
    (omega (arith, length-take n (drop off (take len xs)), length-drop off (take len xs), length-take len xs, length-take n (drop off xs), length-drop off xs, within))
    (λ k d low.
    (let under : k < n = omega (arith, low, length-take n (drop off xs)) in
    get_or-take n (drop off xs) k d under ∙ get_or-drop off xs k d ∙ sym (get_or-take len xs (off + k) d (omega (arith, under, within)))
    ∙ sym (get_or-drop off (take len xs) k d) ∙ sym (get_or-take n (drop off (take len xs)) k d under)))

-- without pages it is the file, from where the database begins
no_page : (m : MendedFile) (base : List ℕ) (i : ℕ) → txn_pages m.pages ≡ [] → i < mended_length m → slice_index (mended_view m base) i ≡ slice_index (drop m.start base) i
no_page m base i none low =
    let inside : m.start + i < txn_size m.pages = omega (arith, low, m.shown) in
    get_or-take m.len (drop m.start (txn_image m.pages base)) i 0 low ∙ get_or-drop m.start (txn_image m.pages base) i 0
    ∙ filled_at (byte_over (txn_pages m.pages) base) (txn_size m.pages) (m.start + i) inside ∙ ap (λ ps. byte_over ps base (m.start + i)) none
    ∙ sym (get_or-drop m.start base i 0)

-- so a part of what is shown is a part of the file
pub part_unpaged : (m : MendedFile) (base : List ℕ) (off n : ℕ) → txn_pages m.pages ≡ [] → off + n ≤ mended_length m → m.start + mended_length m ≤ length base
    → take n (drop (m.start + off) base) ≡ take n (drop off (mended_view m base))
part_unpaged m base off n none within reaches =
    let view = mended_view m base in
    ext_get_or 0 (take n (drop (m.start + off) base)) (take n (drop off view))
    (omega (arith, length-take n (drop (m.start + off) base), length-drop (m.start + off) base, length-take n (drop off view), length-drop off view, view_length m base, within, reaches))
    (λ k low.
    (let under : k < n = omega (arith, low, length-take n (drop (m.start + off) base)) in
    let along : m.start + off + k ≡ m.start + (off + k) = omega arith in
    get_or-take n (drop (m.start + off) base) k 0 under ∙ get_or-drop (m.start + off) base k 0 ∙ ap (slice_index base) along
    ∙ sym (get_or-drop m.start base (off + k) 0) ∙ sym (no_page m base (off + k) none (omega (arith, under, within)))
    ∙ sym (get_or-drop off view k 0) ∙ sym (get_or-take n (drop off view) k 0 under)))

pub none_changed : (m : MendedFile) (base : List ℕ) → txn_pages m.pages ≡ [] → bytes_changed (drop m.start base) (mended_view m base) ≡ 0
none_changed m base none =
    count_no (λ i. not (slice_index (drop m.start base) i == slice_index (mended_view m base) i)) 0 (length (mended_view m base))
    (λ i high low. ap not (eq-eqb (slice_index (drop m.start base) i) (slice_index (mended_view m base) i) (sym (no_page m base i none (omega (arith, low, view_length m base))))))

-- A block more of the file was compared with its part of what it is read as.
module _ (m : MendedFile) (whole base before now : List ℕ) (at size : ℕ) (read : before ≡ take size (drop at base)) (shown : now ≡ take size (drop at (mended_view m whole))) (sized : length now ≡ size) where
  abbrev test : ℕ → Bool
  test i = not (slice_index base i == slice_index (mended_view m whole) i)

  byte : (k : ℕ) → k < size → test (at + k) ≡ differs (slice_index before (0 + k), slice_index now (0 + k))
  byte k low =
      let back : k ≡ 0 + k = omega arith in
      let a : slice_index base (at + k) ≡ slice_index before (0 + k) = sym (part_byte base at size k low) ∙ ap (λ xs. slice_index xs k) (sym read) ∙ ap (slice_index before) back in
      let b : slice_index (mended_view m whole) (at + k) ≡ slice_index now (0 + k) = sym (part_byte (mended_view m whole) at size k low) ∙ ap (λ xs. slice_index xs k) (sym shown) ∙ ap (slice_index now) back in
      λ j. not (a j == b j)

  pub compared_more : (changed found : ℕ) → length before ≡ length now → changed ≡ count_by test (range_with_len 0 at) → found ≡ count_by differs (zip before now) → changed + found ≡ count_by test (range_with_len 0 (at + size))
  compared_more changed found long so_far is =
      let zero_on : 0 + at ≡ at = omega arith in
      let parts = count_parts test 0 at size in
      let on = ap (λ k. count_by test (range_with_len k size)) zero_on in
      let shifted = count_shifted test (λ k. differs (slice_index before k, slice_index now k)) at 0 size byte in
      let all = ap (λ n. count_by (λ k. differs (slice_index before k, slice_index now k)) (range_with_len 0 n)) sized in
      omega (arith, so_far, is, parts, on, shifted, all, count_zipped before now long)
