-- Bytes that lie in none of the extents that were put down.
use Rattle.std.specs.Prelude.{◌≡◌, ℕ, ◌-◌, ◌<◌, ◌≤◌, ◌==◌, ◌&&◌, Bool, true, false, not, nat_lt, List, length, count_by, slice_index}
use Rattle.std.specs.List.{range_with_len}
use Rattle.tdb_words.specs.declared.record.TheConstants.{PADDING}
use Rattle.tdb_words.specs.declared.what.What.TheVariants.{Overlap, Stray}
use Rattle.tdb_space.specs.Extents.{Extent as Held, times}
use Rattle.tdb_space.specs.FirstFault.{Fault}

-- a byte is neither 0 nor padding
abbrev pub is_content : ℕ → Bool
is_content byte = not (byte == 0) && not (byte == PADDING)

-- each byte between two offsets is 0 or padding
abbrev pub NoContent : List ℕ → ℕ → ℕ → Type 0
NoContent img from to = (i : ℕ) → from ≤ i → i < to → is_content (slice_index img i) ≡ false

-- the least byte between two offsets that is neither 0 nor padding
pub record FirstContent (img : List ℕ) (from to at : ℕ) : Type 0 where
  pub high : from ≤ at
  pub low : at < to
  pub here : is_content (slice_index img at) ≡ true
  pub before : NoContent img from at

-- a byte from an offset on that none of these extents holds, and that is neither 0 nor padding
abbrev pub is_stray_among : List Held → ℕ → List ℕ → ℕ → Bool
is_stray_among es start img i =
    not (nat_lt i start) && nat_lt i (length img) && (times es i == 0) && not (slice_index img i == 0) && not (slice_index img i == PADDING)

-- no byte is stray
abbrev pub NoStrayAmong : List Held → ℕ → List ℕ → Type 0
NoStrayAmong es start img = (i : ℕ) → is_stray_among es start img i ≡ false

-- the least stray byte
abbrev pub FirstStrayAmong : List Held → ℕ → List ℕ → ℕ → Type 0
FirstStrayAmong es start img at = (is_stray_among es start img at ≡ true) × ((i : ℕ) → i < at → is_stray_among es start img i ≡ false)

-- how many bytes from an offset on none of these extents holds
abbrev pub held_by_none : List Held → ℕ → List ℕ → ℕ
held_by_none es start img = count_by (λ i. times es i == 0) (range_with_len start (length img - start))

-- none of these extents shares a byte with another
abbrev pub NoOverlapAmong : List Held → Type 0
NoOverlapAmong es = (i : ℕ) → times es i ≤ 1

-- the least byte that they hold more than once
abbrev pub FirstOverlapAmong : List Held → ℕ → Type 0
FirstOverlapAmong es at = (2 ≤ times es at) × ((i : ℕ) → i < at → times es i ≤ 1)

-- the first fault of extents: the least byte that two share, or else the least stray one
pub data FirstAmong (es : List Held) (start : ℕ) (img : List ℕ) : Fault → Type 0 where
  shared : (at : ℕ) → FirstOverlapAmong es at → FirstAmong es start img (Overlap, at)
  stray : (at : ℕ) → NoOverlapAmong es → FirstStrayAmong es start img at → FirstAmong es start img (Stray, at)

-- no two of these extents share a byte, no byte is stray, and so many bytes are held by none
pub record NoFaultAmong (es : List Held) (start : ℕ) (img : List ℕ) (dead : ℕ) : Type 0 where
  pub apart : NoOverlapAmong es
  pub clean : NoStrayAmong es start img
  pub count : dead ≡ held_by_none es start img
