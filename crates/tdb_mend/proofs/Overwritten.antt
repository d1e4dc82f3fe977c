-- What is written into a part of an image is written to it.
use Rattle.std.proofs.Common.{◌≡◌, ℕ, ◌+◌, ◌≤◌, List, length, take, drop, sym, ◌∙◌, ap, subst, arith}
use Rattle.std.proofs.lemmas.Grind.{common_steps}
use Rattle.std.proofs.lemmas.List.{places, same_lists}
use Rattle.tdb_disk.specs.Image.{overlay}
use Rattle.tdb_disk.specs.Stop.{Torn}
use Rattle.tdb_txn.specs.Pages.{byte_over, length_filled}
use Rattle.tdb_txn.specs.Txn.{txn_image, txn_pages, txn_size}
use Rattle.tdb_mend.specs.declared.file.MendedFile.{MendedFile}
use Rattle.tdb_mend.specs.View.{mended_view}

-- and what is written below an end is written to what stands below it
pub overlay_cut : (xs bytes : List ℕ) (off n : ℕ) → off + length bytes ≤ n → n ≤ length xs → take n (overlay xs off bytes) ≡ overlay (take n xs) off bytes
overlay_cut xs bytes off n inside reaches = same_lists _ _ (grind (arith, common_steps)) (λ k d h. grind (arith, places))

part_overlay : (image bytes : List ℕ) (start at n : ℕ) → at + length bytes ≤ n → start + n ≤ length image
    → take n (drop start (overlay image (start + at) bytes)) ≡ overlay (take n (drop start image)) at bytes
part_overlay image bytes start at n inside reaches =
    same_lists _ _ (grind (arith, common_steps)) (λ k d h. grind (arith, places))

part_torn : (old new : List ℕ) (start at count n : ℕ) → start + n ≤ length old → Torn (start + at) count old new
    → Torn at count (take n (drop start old)) (take n (drop start new))
part_torn old new start at count n reaches torn = record {
  size = grind (arith, common_steps, torn.size);
  below = λ i low. (let same = torn.below (start + i) (omega (arith, low)) in grind (arith, places, torn.size, same));
  above = λ i high. (let same = torn.above (start + i) (omega (arith, high)) in grind (arith, places, torn.size, same));
}

-- a mended file over a file of these bytes: what is written to its pages, and what was written when a call failed
module _ (m : MendedFile) (base was new now : List ℕ) (before : was ≡ txn_image m.pages base) (after : new ≡ now) where
  reaches : m.start + m.len ≤ length (txn_image m.pages base)
  reaches = omega (arith, length_filled (byte_over (txn_pages m.pages) base) (txn_size m.pages), m.shown, m.behind)

  pub written_as : new ≡ was → take m.len (drop m.start now) ≡ mended_view m base
  written_as same = ap (λ xs. take m.len (drop m.start xs)) (sym after ∙ same ∙ before)

  pub written_over : (bytes : List ℕ) (off : ℕ) → off + length bytes ≤ m.len → new ≡ overlay was (m.start + off) bytes
      → take m.len (drop m.start now) ≡ overlay (mended_view m base) off bytes
  written_over bytes off within set =
      ap (λ xs. take m.len (drop m.start xs)) (sym after ∙ set ∙ ap (λ xs. overlay xs (m.start + off) bytes) before)
      ∙ part_overlay (txn_image m.pages base) bytes m.start off m.len within reaches

  pub written_torn : (off n : ℕ) → Torn (m.start + off) n was new → Torn off n (mended_view m base) (take m.len (drop m.start now))
  written_torn off n torn =
      part_torn (txn_image m.pages base) now m.start off n m.len reaches
      (subst (λ xs. Torn (m.start + off) n xs now) before (subst (λ xs. Torn (m.start + off) n was xs) after torn))
