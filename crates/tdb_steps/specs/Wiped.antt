-- What a wipe leaves: no pair, and all that the undo area doesn't hold is free.
use Rattle.std.specs.Prelude.{◌≡◌, ℕ, ◌+◌, ◌*◌, ◌-◌, ◌/◌, ◌%◌, ◌<◌, ◌≤◌, ◌⊎◌, List, [], length, slice_index, All, None}
use Rattle.std.specs.List.{Contains}
use Rattle.tdb_words.specs.Word.{word}
use Rattle.tdb_words.specs.Record.{rec_at}
use Rattle.tdb_disk.specs.Stop.{Torn}
use Rattle.tdb_space.specs.Form.{Form, data_start, chain_head, free_head}
use Rattle.tdb_space.specs.Chain.{free_of}
use Rattle.tdb_space.specs.Pairs.{map_of}
use Rattle.tdb_space.specs.Extents.{Extent, once, times, extents, area}
use Rattle.tdb_space.specs.Accepted.{AcceptWith}
use Rattle.tdb_space.specs.Runs.{InOrder}
use Rattle.tdb_free.specs.FreeList.{HoldsNothing}
use Rattle.tdb_free.specs.Shortened.{free_record}
use Rattle.tdb_steps.specs.declared.wiping.AreaBounds.{AreaBounds}

-- how many writes a wipe of a file of so many chains makes at most, and of how many bytes in all
abbrev pub wipe_writes : ℕ → ℕ
wipe_writes chains = chains / 1024 + 6

abbrev pub wipe_bytes : ℕ → ℕ
wipe_bytes chains = 4 * chains + 64

-- an extent is a greatest stretch of bytes from the data start to the end of an image that its undo area doesn't hold:
-- it can't begin earlier, nor end later
pub record IsStretch (f : Form) (img : List ℕ) (e : Extent) : Type 0 where
  pub some : 1 ≤ e.1
  pub from : data_start f ≤ e.0
  pub to : e.0 + e.1 ≤ length img
  pub clear : (i : ℕ) → e.0 ≤ i → i < e.0 + e.1 → times (area f.order img) i ≡ 0
  pub begins : (e.0 ≡ data_start f) ⊎ (1 ≤ times (area f.order img) (e.0 - 1))
  pub ends : (e.0 + e.1 ≡ length img) ⊎ (1 ≤ times (area f.order img) (e.0 + e.1))

-- From image a to image b a stretch became one record of the free list, which holds nothing. Between its header and its
-- tailer nothing was written.
pub record IsFreed (f : Form) (a b : List ℕ) (e : Extent) : Type 0 where
  pub long : 28 ≤ e.1
  pub listed : Contains (extents f.order b (free_of f b)) e
  pub empty : HoldsNothing f.order b e.0
  pub kept : (i : ℕ) → e.0 + 24 ≤ i → i + 4 < e.0 + e.1 → slice_index b i ≡ slice_index a i

-- a stretch is too short for a record, and zeros
pub record IsBlank (b : List ℕ) (e : Extent) : Type 0 where
  pub short : e.1 < 28
  pub zeros : (i : ℕ) → e.0 ≤ i → i < e.0 + e.1 → slice_index b i ≡ 0

-- from image a to image b the length stays, and each byte of the header and of the undo area
pub record FrontSame (f : Form) (a b : List ℕ) : Type 0 where
  pub size : length b ≡ length a
  pub header : (i : ℕ) → i < free_head → slice_index b i ≡ slice_index a i
  pub undo_area : (i : ℕ) → 1 ≤ times (area f.order a) i → slice_index b i ≡ slice_index a i

-- Image b is image a wiped. It is accepted, no hand is out, no chain has a record, and no key a value. The records of
-- its free list stand in order of place, and each is a greatest stretch of a; each such stretch is one of them or
-- zeros.
pub record Wiped (f : Form) (a b : List ℕ) : Type 0 where
  pub accepted : AcceptWith f b []
  pub no_pair : (key : List ℕ) → map_of f b key ≡ None
  pub heads : (k : ℕ) → k < f.chains → word f.order b (chain_head k) ≡ 0
  pub in_order : InOrder 0 (extents f.order b (free_of f b))
  pub each : All (IsStretch f a) (extents f.order b (free_of f b))
  pub stretches : (e : Extent) → IsStretch f a e → IsFreed f a b e ⊎ IsBlank b e
  pub stays : FrontSame f a b

-- all lists of an image are empty
pub record HeadsEmpty (f : Form) (b : List ℕ) : Type 0 where
  pub free : word f.order b free_head ≡ 0
  pub chains : (k : ℕ) → k < f.chains → word f.order b (chain_head k) ≡ 0

-- A wipe of image a failed and left image b: at most heads of lists changed; or all lists are empty, and the header and
-- the undo area stay; or b is wiped.
pub data WipeStopped (f : Form) (a b : List ℕ) : Type 0 where
  in_heads : Torn free_head (4 * (f.chains + 1)) a b → WipeStopped f a b
  in_stretches : HeadsEmpty f b → FrontSame f a b → WipeStopped f a b
  at_end : Wiped f a b → WipeStopped f a b

-- Where the undo area of a file of this form and length can stand: from an offset up to another, in whole words. Where
-- there is none both are the length.
pub record BoundsStand (f : Form) (len : ℕ) (p : AreaBounds) : Type 0 where
  pub above : data_start f ≤ p.from
  pub ordered : p.from ≤ p.to
  pub within : p.to ≤ len
  pub aligned : p.from % 4 ≡ 0
  pub aligned_to : p.to % 4 ≡ 0

-- the undo area of an image has these bytes, or there is none
pub record IsArea (f : Form) (img : List ℕ) (p : AreaBounds) : Type 0 where
  pub bytes : (i : ℕ) → times (area f.order img) i ≡ once (p.from, p.to - p.from) i
  pub some : (p.from < p.to) ⊎ ((p.from ≡ length img) × (p.to ≡ length img))

-- From image a to image b a stretch of n bytes was made free: it is a record that leads to an offset, and a list with
-- it begins there; or it is zeros, and the list begins where it did.
pub data MadeFree (f : Form) (a b : List ℕ) (from n next first : ℕ) : Type 0 where
  as_record : 28 ≤ n → rec_at f.order b from ≡ free_record next (n - 24) → word f.order b (from + n - 4) ≡ n
      → ((i : ℕ) → from + 24 ≤ i → i + 4 < from + n → slice_index b i ≡ slice_index a i) → first ≡ from → MadeFree f a b from n next first
  as_zeros : n < 28 → ((i : ℕ) → from ≤ i → i < from + n → slice_index b i ≡ 0) → first ≡ next → MadeFree f a b from n next first

-- the heads of all lists became 0, and nothing else changed
pub record HeadsZeroed (f : Form) (a b : List ℕ) : Type 0 where
  pub only : Torn free_head (4 * (f.chains + 1)) a b
  pub zeros : (i : ℕ) → free_head ≤ i → i < data_start f → slice_index b i ≡ 0

-- From image a to image b the length stays, and so does each byte below the data start, but for the head of the free
-- list, and of the undo area
pub record AroundStays (f : Form) (a b : List ℕ) (p : AreaBounds) : Type 0 where
  pub size : length b ≡ length a
  pub low : (i : ℕ) → i < data_start f → (i < free_head) ⊎ (free_head + 4 ≤ i) → slice_index b i ≡ slice_index a i
  pub undo_area : (i : ℕ) → p.from ≤ i → i < p.to → slice_index b i ≡ slice_index a i

-- from image a to image b what lies before and behind the undo area was made free, and the free list begins there
pub record FreedAround (f : Form) (a b : List ℕ) (p : AreaBounds) : Type 0 where
  pub behind : ℕ
  pub first : ℕ
  pub back : MadeFree f a b p.to (length a - p.to) 0 behind
  pub front : MadeFree f a b (data_start f) (p.from - data_start f) behind first
  pub head : word f.order b free_head ≡ first
