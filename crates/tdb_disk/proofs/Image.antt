-- What an overlay and a padding of an image hold at each place.
use Rattle.std.proofs.Common.{◌≡◌, ℕ, ◌+◌, ◌-◌, ◌<◌, ◌≤◌, List, length, take, max, slice_index, inl, inr, arith}
use Rattle.std.proofs.lemmas.Grind.{common_steps}
use Rattle.std.proofs.lemmas.List.{places, get_or_past}
use Rattle.std.proofs.lemmas.Bool.{cases_lt}
use Rattle.tdb_disk.specs.Image.{overlay, padded}

-- an overlay keeps the length
pub length-overlay : (image : List ℕ) (at : ℕ) (bytes : List ℕ) → length (overlay image at bytes) ≡ length image
length-overlay image at bytes = grind (arith, common_steps)

-- a padding has the greater of the two lengths
pub length-padded : (image : List ℕ) (to : ℕ) → length (padded image to) ≡ max (length image) to
length-padded image to = grind (arith, common_steps)

-- a front that is longer than the list is the list
pub take_shorter : (n : ℕ) (image : List ℕ) → take (length (take n image)) image ≡ take n image
take_shorter n image = elim (cases_lt n (length image)) [
  | inl within ↦ grind (arith, common_steps)
  | inr past ↦ grind (arith, common_steps)
]

-- the bytes before an overlay stay
pub overlay_below : (image : List ℕ) (at : ℕ) (bytes : List ℕ) (i : ℕ) → i < at
    → slice_index (overlay image at bytes) i ≡ slice_index image i
overlay_below image at bytes i low = elim (cases_lt i (length image)) [
  | inl within ↦ grind (arith, places)
  | inr past ↦ grind (arith, places, get_or_past, length-overlay image at bytes)
]

-- the bytes behind an overlay stay
pub overlay_above : (image : List ℕ) (at : ℕ) (bytes : List ℕ) (i : ℕ) → at + length bytes ≤ i
    → slice_index (overlay image at bytes) i ≡ slice_index image i
overlay_above image at bytes i high = elim (cases_lt i (length image)) [
  | inl within ↦ grind (arith, places)
  | inr past ↦ grind (arith, places, get_or_past, length-overlay image at bytes)
]

-- the bytes of an overlay that lie within the image
pub overlay_in : (image : List ℕ) (at : ℕ) (bytes : List ℕ) (i : ℕ) → at ≤ i → i < at + length bytes → i < length image
    → slice_index (overlay image at bytes) i ≡ slice_index bytes (i - at)
overlay_in image at bytes i low high within = grind (arith, places)

-- the bytes before a padding stay
pub padded_below : (image : List ℕ) (to i : ℕ) → i < length image → slice_index (padded image to) i ≡ slice_index image i
padded_below image to i low = grind (arith, places)

-- the bytes of a padding, and those past it, are zero
pub padded_in : (image : List ℕ) (to i : ℕ) → length image ≤ i → slice_index (padded image to) i ≡ 0
padded_in image to i high = elim (cases_lt i to) [
  | inl within ↦ grind (arith, places)
  | inr past ↦ grind (arith, places, get_or_past)
]

-- what stands past the end of a padding is as it was, zero
pub padded_above : (image : List ℕ) (to i : ℕ) → to ≤ i → slice_index (padded image to) i ≡ slice_index image i
padded_above image to i high = elim (cases_lt i (length image)) [
  | inl within ↦ padded_below image to i within
  | inr past ↦ grind (arith, padded_in image to i past, get_or_past)
]
