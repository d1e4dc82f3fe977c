-- The bytes of a block as those of the image that it is a part of.
use Rattle.std.proofs.Common.{◌≡◌, ◌∙◌, ℕ, ◌+◌, ◌-◌, ◌<◌, ◌≤◌, List, ◌++◌, ◌⊎◌, length, take, drop, inl, inr, arith}
use Rattle.std.proofs.lemmas.Bool.{cases_lt}
use Rattle.std.proofs.lemmas.Grind.{common_steps}
use Rattle.std.proofs.lemmas.List.{places, same_lists}
use Rattle.std.proofs.lemmas.Slice.{overwrites}
use borrow.Rule.Slice.PartMut.{put_mid}
use Rattle.tdb_disk.specs.Image.{overlay, padded}

-- bytes of a block are bytes of the image
pub part_of_block : (image block : List ℕ) (start within n : ℕ) → block ≡ take (length block) (drop start image)
    → within + n ≤ length block → take n (drop within block) ≡ take n (drop (start + within) image)
part_of_block image block start within n shown inside =
    same_lists _ _ (grind (arith, common_steps)) (λ k d h. grind (arith, places))

-- two neighbouring parts of the image are one
pub parts_join : (image : List ℕ) (off done n : ℕ) → off + (done + n) ≤ length image
    → take done (drop off image) ++ take n (drop (off + done) image) ≡ take (done + n) (drop off image)
parts_join image off done n inside =
    same_lists _ _ (grind (arith, common_steps)) (λ k d h. elim (cases_lt k done) [
      | inl front ↦ grind (arith, places)
      | inr back ↦ grind (arith, places)
    ])

-- a block whose bytes are written over is what the image has there when the same bytes are written over in it
pub patched_block : (image block piece : List ℕ) (start within : ℕ) → block ≡ take (length block) (drop start image)
    → within + length piece ≤ length block
    → overlay block within piece ≡ take (length block) (drop start (overlay image (start + within) piece))
patched_block image block piece start within shown inside =
    same_lists _ _ (grind (arith, common_steps)) (λ k d h. grind (arith, places))

-- a block before or behind what is written stays
pub other_block : (image block piece : List ℕ) (start at : ℕ) → block ≡ take (length block) (drop start image)
    → (start + length block ≤ at) ⊎ (at + length piece ≤ start)
    → block ≡ take (length block) (drop start (overlay image at piece))
other_block image block piece start at shown apart =
    same_lists _ _ (grind (arith, common_steps)) (λ k d h. grind (arith, places))

-- bytes that are written one part after another are written as a whole
pub overlay_join : (image bytes : List ℕ) (off done end : ℕ) → done ≤ end → end ≤ length bytes
    → off + length bytes ≤ length image
    → overlay (overlay image off (take done bytes)) (off + done) (take (end - done) (drop done bytes))
    ≡ overlay image off (take end bytes)
overlay_join image bytes off done end more inside within =
    same_lists _ _ (grind (arith, common_steps)) (λ k d h. grind (arith, places))

-- what is read of a range, one part more
pub part_read : (image buf piece : List ℕ) (off done end : ℕ) → done < end → end ≤ length buf
    → off + length buf ≤ length image → take done buf ≡ take done (drop off image)
    → piece ≡ take (end - done) (drop (off + done) image)
    → take end (put_mid done (end - done) buf piece) ≡ take end (drop off image)
part_read image buf piece off done end more inside range before now =
    let size : length piece ≡ end - done = rw now (grind (arith, common_steps)) in
    let joined : take end (put_mid done (end - done) buf piece) ≡ take done buf ++ piece = grind (arith, common_steps, overwrites) in
    joined ∙ rw (before, now) (same_lists _ _ (grind (arith, common_steps)) (λ k d h. elim (cases_lt k done) [
      | inl front ↦ grind (arith, places)
      | inr back ↦ grind (arith, places)
    ]))

-- a block of a file is the same in a longer one
pub padded_block : (image block : List ℕ) (start to : ℕ) → block ≡ take (length block) (drop start image)
    → start + length block ≤ length image → block ≡ take (length block) (drop start (padded image to))
padded_block image block start to shown inside =
    same_lists _ _ (grind (arith, common_steps)) (λ k d h. grind (arith, places))

-- a block before a cut is the same in the file that is cut
pub cut_block : (image block : List ℕ) (start to : ℕ) → block ≡ take (length block) (drop start image)
    → start + length block ≤ to → to ≤ length image → block ≡ take (length block) (drop start (take to image))
cut_block image block start to shown inside shorter =
    same_lists _ _ (grind (arith, common_steps)) (λ k d h. grind (arith, places))
