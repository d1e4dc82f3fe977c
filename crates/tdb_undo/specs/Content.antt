-- The entries of an undo area as they are written.
use Rattle.std.specs.Prelude.{◌≡◌, ℕ, ◌+◌, ◌<◌, ◌≤◌, ◌⊎◌, false, Bool, ◌||◌, Option, Some, None, List, [], ◌∷◌, length, take, drop, slice_index}
use Rattle.tdb_words.specs.declared.word.Order.{Order}
use Rattle.tdb_words.specs.Word.{word}
use Rattle.tdb_space.specs.Extents.{Extent}
use Rattle.tdb_space.specs.Opening.{lies_in}
use Rattle.tdb_space.specs.Planned.{content_length, HasContent}
use Rattle.tdb_undo.specs.declared.area.Area.{Area}

-- an entry for a run stands at a place of the new image, with the bytes that the old one has in the run; nothing else
-- changed
pub record EntryPut (o : Order) (place : ℕ) (run : Extent) (old new : List ℕ) : Type 0 where
  pub size : length new ≡ length old
  pub others : (i : ℕ) → lies_in place (8 + run.1) i ≡ false → slice_index new i ≡ slice_index old i
  pub off : word o new place ≡ run.0
  pub len : word o new (place + 4) ≡ run.1
  pub bytes : (k : ℕ) → k < run.1 → slice_index new (place + 8 + k) ≡ slice_index old (run.0 + k)

-- An entry that ends at a place leaves room in the undo area for the last word; its run lies within a file of so many
-- bytes, and beside the area
pub record HasRoom (a : Area) (len next : ℕ) (run : Extent) : Type 0 where
  pub fits : next + 4 ≤ a.at + 24 + a.header.rec_len
  pub within : run.0 + run.1 ≤ len
  pub beside : (run.0 + run.1 ≤ a.at) ⊎ (a.at + 24 + a.header.rec_len ≤ run.0)

-- each of these runs lies within a file of so many bytes, and beside the undo area
abbrev pub AllBeside : Area → ℕ → List Extent → Type 0
AllBeside a len [] = Unit {0}
AllBeside a len (e ∷ es) = (e.0 + e.1 ≤ len) × ((e.0 + e.1 ≤ a.at) ⊎ (a.at + 24 + a.header.rec_len ≤ e.0)) × AllBeside a len es

-- the content for these runs fits into the undo area, and they lie beside it in a file of so many bytes
pub record RunsFit (a : Area) (len : ℕ) (es : List Extent) : Type 0 where
  pub fits : content_length es ≤ a.header.rec_len
  pub beside : AllBeside a len es

-- From a place on up to another one, entries for these runs stand in an image
abbrev pub HasEntries : Order → List ℕ → ℕ → List Extent → ℕ → Type 0
HasEntries o img at [] end = at ≡ end
HasEntries o img at (e ∷ es) end =
    (word o img at ≡ e.0) × (word o img (at + 4) ≡ e.1) × (take e.1 (drop (at + 8) img) ≡ take e.1 (drop e.0 img)) × HasEntries o img (at + 8 + e.1) es end

-- a byte beside what is still to be written into the undo area from a place on: it lies in front of the area or behind
-- it, or in its content in front of that place
abbrev pub BesideRest : Area → ℕ → ℕ → Type 0
BesideRest a place j = (j < a.at) ⊎ (((a.at + 24 ≤ j) × (j < place)) ⊎ (a.at + 24 + a.header.rec_len ≤ j))

-- Entries for these runs were put into the content of the undo area, and end at a place; nothing else changed. They
-- stand in every image that has the same bytes beside what is still to be written.
pub record PutUpTo (o : Order) (a : Area) (es : List Extent) (old new : List ℕ) (end : ℕ) : Type 0 where
  pub size : length new ≡ length old
  pub others : (i : ℕ) → (i < a.at + 24) ⊎ (end ≤ i) → slice_index new i ≡ slice_index old i
  pub stand : (z : List ℕ) → length z ≡ length new → ((j : ℕ) → BesideRest a end j → slice_index z j ≡ slice_index new j) → HasEntries o z (a.at + 24) es end
  pub count : end + 4 ≡ a.at + 24 + content_length es

-- the place is told at which they end
abbrev pub AllPut : Order → Area → List Extent → List ℕ → List ℕ → Option ℕ → Type 0
AllPut o a es old new None = ⊥
AllPut o a es old new (Some end) = PutUpTo o a es old new end

-- a byte of what is filled of an undo area: of the two words of its header that count, or of its content
abbrev pub is_content : Area → ℕ → Bool
is_content a i = lies_in (a.at + 8) 8 i || lies_in (a.at + 24) a.header.rec_len i

-- The undo area was filled: its content is that for these runs, and its header says how long the file was and how long
-- the content is. Nothing else changed.
pub record IsFilled (o : Order) (a : Area) (old_len : ℕ) (es : List Extent) (old new : List ℕ) : Type 0 where
  pub size : length new ≡ length old
  pub others : (i : ℕ) → is_content a i ≡ false → slice_index new i ≡ slice_index old i
  pub content : HasContent o new (24 + a.header.rec_len) (a.at + 24) es
  pub old_length : word o new (a.at + 8) ≡ old_len
  pub data_len : word o new (a.at + 12) ≡ content_length es
