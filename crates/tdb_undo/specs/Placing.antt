-- A new undo area: what its placing leaves, and the file at the end.
use Rattle.std.specs.Prelude.{◌≡◌, ℕ, ◌+◌, ◌%◌, ◌<◌, ◌≤◌, ◌⊎◌, ◌==◌, List, length, slice_index, if◌then◌else◌}
use Rattle.tdb_words.specs.declared.word.Order.{Order}
use Rattle.tdb_words.specs.Word.{word}
use Rattle.tdb_words.specs.Header.{area_head}
use Rattle.tdb_space.specs.Form.{Form}
use Rattle.tdb_space.specs.Record.{rec_len_of}
use Rattle.tdb_space.specs.Extents.{times, area}
use Rattle.tdb_space.specs.Moved.{StaysAccepted}

-- Where the word at 44 of image c leads, while a new undo area is placed behind image b at an offset: where it led, and
-- the new area has no length yet; or to the new area, which ends within the image
pub data LeadsTo (o : Order) (b : List ℕ) (at : ℕ) (c : List ℕ) : Type 0 where
  old_area : word o c area_head ≡ word o b area_head → ((i : ℕ) → at + 4 ≤ i → i < at + 8 → slice_index c i ≡ 0) → LeadsTo o b at c
  new_area : word o c area_head ≡ at → rec_len_of o c at % 4 ≡ 0 → at + 24 + rec_len_of o c at ≤ length c → LeadsTo o b at c

-- Image c is image b while that is done: longer by zeros, but for the length of the new area and the word at 44
pub record Placing (o : Order) (b : List ℕ) (at : ℕ) (c : List ℕ) : Type 0 where
  pub longer : length b ≤ length c
  pub sized : length c % 4 ≡ 0
  pub same : (i : ℕ) → i < length b → (i < area_head) ⊎ (area_head + 4 ≤ i) → slice_index c i ≡ slice_index b i
  pub zeros : (i : ℕ) → length b ≤ i → (i < at + 4) ⊎ (at + 8 ≤ i) → slice_index c i ≡ 0
  pub leads : LeadsTo o b at c

-- the word at 44 leads to an undo area with room for so many bytes, at which the image ends
pub record IsSet (o : Order) (c : List ℕ) (at n : ℕ) : Type 0 where
  pub there : word o c area_head ≡ at
  pub rec_len : rec_len_of o c at ≡ n
  pub size : length c ≡ at + 24 + n

-- Image b is accepted image a without what its undo area held: all of that area is 0, and the word at 44 still leads to
-- it
pub record IsCleared (f : Form) (a b : List ℕ) : Type 0 where
  pub stays : StaysAccepted f a b
  pub size : length b ≡ length a
  pub there : word f.order b area_head ≡ word f.order a area_head
  pub others : (i : ℕ) → times (area f.order a) i ≡ 0 → slice_index b i ≡ slice_index a i
  pub zeros : (i : ℕ) → 1 ≤ times (area f.order a) i → slice_index b i ≡ 0

-- Image b is accepted image a with another undo area, at an offset behind its end, with room for so many bytes and
-- nothing but zeros in it. What the old one held is 0, and nothing else changes.
pub record IsPlaced (f : Form) (a b : List ℕ) (at n : ℕ) : Type 0 where
  pub stays : StaysAccepted f a b
  pub set : IsSet f.order b at n
  pub others : (i : ℕ) → i < length a → (i < area_head) ⊎ (area_head + 4 ≤ i) → times (area f.order a) i ≡ 0 → slice_index b i ≡ slice_index a i
  pub zeros : (i : ℕ) → (length a ≤ i) ⊎ (1 ≤ times (area f.order a) i) → (i < at + 4) ⊎ (at + 8 ≤ i) → slice_index b i ≡ 0

-- how many syncs it takes to make the undo area of an image zero: one for its content and one for its header, and none
-- where the image has no undo area
abbrev pub clearing_syncs : Order → List ℕ → ℕ
clearing_syncs o img = if word o img area_head == 0 then 0 else 2
