-- The stop model: which images a stop of the machine may leave, by one relation for each call.
use Rattle.std.specs.Prelude.{◌≡◌, ℕ, ◌+◌, ◌%◌, ◌<◌, ◌≤◌, min, max, List, ◌⊎◌, length, take, slice_index}
use Rattle.tdb_disk.specs.Image.{overlay}
use Rattle.tdb_disk.specs.History.{Event, wrote, wrote_word, grew, cut, synced, History, began, called, seen, clock, Extends}

-- a write may leave any bytes in its range, and no other byte changes
pub record Torn (at n : ℕ) (old new : List ℕ) : Type 0 where
  pub size : length new ≡ length old
  pub below : (i : ℕ) → i < at → slice_index new i ≡ slice_index old i
  pub above : (i : ℕ) → at + n ≤ i → slice_index new i ≡ slice_index old i

-- a growth may leave any length up to the new one, by whole words where both ends are; each byte that it added is zero
-- or what was there before
pub record Grown (from to : ℕ) (old new : List ℕ) : Type 0 where
  pub no_shorter : length old ≤ length new
  pub no_longer : length new ≤ max (length old) to
  pub aligned : length old % 4 ≡ 0 → to % 4 ≡ 0 → length new % 4 ≡ 0
  pub below : (i : ℕ) → i < from → slice_index new i ≡ slice_index old i
  pub above : (i : ℕ) → to ≤ i → slice_index new i ≡ slice_index old i
  pub between : (i : ℕ) → from ≤ i → i < to → (slice_index new i ≡ slice_index old i) ⊎ (slice_index new i ≡ 0)

-- a cut may leave any length down to the new one, by whole words where both ends are, and the bytes as they were
pub record Shrunk (to : ℕ) (old new : List ℕ) : Type 0 where
  pub no_shorter : min to (length old) ≤ length new
  pub front : new ≡ take (length new) old
  pub aligned : length old % 4 ≡ 0 → to % 4 ≡ 0 → length new % 4 ≡ 0

-- what a stop may leave after a call, from what was seen and what a stop might have left before it: a range that was
-- written holds any bytes, a word that was written is old or new as a whole, and a sync leaves just what is seen
abbrev pub Steps : Event → List ℕ → (List ℕ → Type 0) → List ℕ → Type 0
Steps (wrote at bytes) now old image = (from : List ℕ) × old from × Torn at (length bytes) from image
Steps (wrote_word at bytes) now old image = (from : List ℕ) × old from × ((image ≡ from) ⊎ (image ≡ overlay from at bytes))
Steps (grew to) now old image = (from : List ℕ) × old from × Grown (length now) to from image
Steps (cut to) now old image = (from : List ℕ) × old from × Shrunk to from image
Steps synced now old image = image ≡ now

-- a stop now may leave this image
abbrev pub Leaves : History → List ℕ → Type 0
Leaves (began bytes) image = image ≡ bytes
Leaves (called h event) image = Steps event (seen h) (Leaves h) image

-- a stop at some moment from this clock on may have left this image
abbrev pub LeftSince : ℕ → History → List ℕ → Type 0
LeftSince from (began bytes) image = image ≡ bytes
LeftSince from (called h event) image = Leaves (called h event) image ⊎ ((from ≤ clock h) × LeftSince from h image)

-- a stop now leaves what a read gives
abbrev pub Quiet : History → Type 0
Quiet h = (image : List ℕ) → Leaves h image → image ≡ seen h

-- one history goes on from another, and every stop since then leaves an image with this property
pub record LeavesOnly (old new : History) (P : List ℕ → Type 0) : Type 0 where
  pub extends : Extends old new
  pub each : (image : List ℕ) → LeftSince (clock old) new image → P image
