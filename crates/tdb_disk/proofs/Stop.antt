-- What a stop may leave of runs of calls, by what it may leave of each.
use Rattle.std.proofs.Common.{◌≡◌, ℕ, ◌%◌, inl, inr, List, length, take, replicate, min, max, refl, sym, ap, ◌∙◌, arith}
use Rattle.std.proofs.lemmas.Bool.{cases_lt}
use Rattle.std.proofs.lemmas.List.{length-take, length-replicate}
use Rattle.std.proofs.Math.Seq.{take-length}
use Rattle.tdb_disk.specs.History.{wrote, wrote_word, grew, cut, synced, History, began, called, seen}
use Rattle.tdb_disk.specs.Image.{overlay, padded}
use Rattle.tdb_disk.specs.Picked.{synced_image, torn_image, picked}
use Rattle.tdb_disk.specs.Stop.{Torn, Grown, Shrunk, Leaves}
use Rattle.tdb_disk.specs.declared.pick.Pick.{Pick}
use Rattle.tdb_disk.specs.declared.pick.Pick.TheVariants.{Synced, Read, Torn as Tear}
use Rattle.tdb_disk.proofs.Image.{length-overlay, length-padded, overlay_below, overlay_above, padded_below, padded_in, padded_above, take_shorter}

-- a write may leave nothing of it
pub torn_nothing : (at n : ℕ) (image : List ℕ) → Torn at n image image
torn_nothing at n image = record { size = refl; below = λ i low. refl; above = λ i high. refl }

-- a write may leave any bytes of the same length
pub torn_overlay : (at : ℕ) (image bytes : List ℕ) (n : ℕ) → length bytes ≡ n → Torn at n image (overlay image at bytes)
torn_overlay at image bytes n sized = record {
  size = length-overlay image at bytes;
  below = λ i low. overlay_below image at bytes i low;
  above = λ i high. overlay_above image at bytes i (omega (arith, sized, high));
}

-- a growth may leave nothing of it
pub grown_nothing : (from to : ℕ) (image : List ℕ) → Grown from to image image
grown_nothing from to image = record {
  no_shorter = omega arith;
  no_longer = omega arith;
  aligned = λ old new. old;
  below = λ i low. refl;
  above = λ i high. refl;
  between = λ i low high. inl refl;
}

-- the greater and the less of two multiples of four are multiples of four
max_aligned : (m n : ℕ) → m % 4 ≡ 0 → n % 4 ≡ 0 → max m n % 4 ≡ 0
max_aligned m n left right = elim (cases_lt m n) [
  | inl low ↦ (let is : max m n ≡ n = omega (arith, low) in ap (λ k. k % 4) is ∙ right)
  | inr high ↦ (let is : max m n ≡ m = omega (arith, high) in ap (λ k. k % 4) is ∙ left)
]

min_aligned : (m n : ℕ) → m % 4 ≡ 0 → n % 4 ≡ 0 → min m n % 4 ≡ 0
min_aligned m n left right = elim (cases_lt m n) [
  | inl low ↦ (let is : min m n ≡ m = omega (arith, low) in ap (λ k. k % 4) is ∙ left)
  | inr high ↦ (let is : min m n ≡ n = omega (arith, high) in ap (λ k. k % 4) is ∙ right)
]

-- a growth may leave all of it
pub grown_whole : (from to : ℕ) (image : List ℕ) → length image ≡ from → Grown from to image (padded image to)
grown_whole from to image sized = record {
  no_shorter = omega (arith, length-padded image to);
  no_longer = omega (arith, length-padded image to);
  aligned = λ old new. ap (λ n. n % 4) (length-padded image to) ∙ max_aligned (length image) to old new;
  below = λ i low. padded_below image to i (omega (arith, sized, low));
  above = λ i high. padded_above image to i high;
  between = λ i low high. inr (padded_in image to i (omega (arith, sized, low)));
}

-- a cut may leave nothing of it
pub shrunk_nothing : (to : ℕ) (image : List ℕ) → Shrunk to image image
shrunk_nothing to image = record {
  no_shorter = omega arith;
  front = sym (take-length image);
  aligned = λ old new. old;
}

-- a cut may leave all of it
pub shrunk_whole : (to : ℕ) (image : List ℕ) → Shrunk to image (take to image)
shrunk_whole to image = record {
  no_shorter = omega (arith, length-take to image);
  front = sym (take_shorter to image);
  aligned = λ old new. ap (λ n. n % 4) (length-take to image) ∙ min_aligned to (length image) new old;
}

-- the image with 0xA5 has the length that is seen
pub length-torn_image : (h : History) → length (torn_image h) ≡ length (seen h)
length-torn_image (began bytes) = refl
length-torn_image (called h (wrote at bytes)) =
    length-overlay (torn_image h) at (replicate (length bytes) 0xA5) ∙ length-torn_image h ∙ sym (length-overlay (seen h) at bytes)
length-torn_image (called h (wrote_word at bytes)) =
    length-overlay (torn_image h) at bytes ∙ length-torn_image h ∙ sym (length-overlay (seen h) at bytes)
length-torn_image (called h (grew to)) =
    length-padded (torn_image h) to ∙ ap (λ n. max n to) (length-torn_image h) ∙ sym (length-padded (seen h) to)
length-torn_image (called h (cut to)) =
    length-take to (torn_image h) ∙ ap (min to) (length-torn_image h) ∙ sym (length-take to (seen h))
length-torn_image (called h synced) = refl

-- a stop may leave what a read gives
pub leaves_seen : (h : History) → Leaves h (seen h)
leaves_seen (began bytes) = refl
leaves_seen (called h (wrote at bytes)) = (seen h, leaves_seen h, torn_overlay at (seen h) bytes (length bytes) refl)
leaves_seen (called h (wrote_word at bytes)) = (seen h, leaves_seen h, inr refl)
leaves_seen (called h (grew to)) = (seen h, leaves_seen h, grown_whole (length (seen h)) to (seen h) refl)
leaves_seen (called h (cut to)) = (seen h, leaves_seen h, shrunk_whole to (seen h))
leaves_seen (called h synced) = refl

-- a stop may leave what the last sync saw
pub leaves_synced : (h : History) → Leaves h (synced_image h)
leaves_synced (began bytes) = refl
leaves_synced (called h (wrote at bytes)) = (synced_image h, leaves_synced h, torn_nothing at (length bytes) (synced_image h))
leaves_synced (called h (wrote_word at bytes)) = (synced_image h, leaves_synced h, inl refl)
leaves_synced (called h (grew to)) = (synced_image h, leaves_synced h, grown_nothing (length (seen h)) to (synced_image h))
leaves_synced (called h (cut to)) = (synced_image h, leaves_synced h, shrunk_nothing to (synced_image h))
leaves_synced (called h synced) = refl

-- a stop may leave 0xA5 in each range that was written since the last sync
pub leaves_torn : (h : History) → Leaves h (torn_image h)
leaves_torn (began bytes) = refl
leaves_torn (called h (wrote at bytes)) =
    (torn_image h, leaves_torn h, torn_overlay at (torn_image h) (replicate (length bytes) 0xA5) (length bytes) (length-replicate (length bytes) 0xA5))
leaves_torn (called h (wrote_word at bytes)) = (torn_image h, leaves_torn h, inr refl)
leaves_torn (called h (grew to)) = (torn_image h, leaves_torn h, grown_whole (length (seen h)) to (torn_image h) (length-torn_image h))
leaves_torn (called h (cut to)) = (torn_image h, leaves_torn h, shrunk_whole to (torn_image h))
leaves_torn (called h synced) = refl

-- a stop may leave each image that can be picked
pub leaves_picked : (pick : Pick) (h : History) → Leaves h (picked pick h)
leaves_picked Synced h = leaves_synced h
leaves_picked Read h = leaves_seen h
leaves_picked Tear h = leaves_torn h
