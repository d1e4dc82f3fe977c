-- What the entries of an undo area give back.
use Rattle.std.specs.Prelude.{◌≡◌, ℕ, ◌+◌, ◌&&◌, not, nat_lt, Bool, if◌then◌else◌, List, length, slice_index}
use Rattle.tdb_words.specs.declared.word.Order.{Order}
use Rattle.tdb_space.specs.Opening.{Entry, entries_from, last_covering, given_back, lies_in}
use Rattle.tdb_mend.specs.declared.area.UndoArea.{UndoArea}

-- where the content of an undo area ends
abbrev pub content_end_of : UndoArea → ℕ
content_end_of a = a.at + 24 + a.header.data_len

-- the entries of an undo area in an image
abbrev pub entries_of : Order → List ℕ → UndoArea → List Entry
entries_of o img a = entries_from o img a.header.data_len (a.at + 24) (content_end_of a)

-- a byte that entries may give back: it lies below the old length of the file, and not in the undo area
abbrev pub may_give : UndoArea → ℕ → Bool
may_give a i = nat_lt i a.header.key_len && not (lies_in a.at (24 + a.header.rec_len) i)

-- a byte of those that an entry with so many bytes from an offset on gives back
abbrev pub gives : UndoArea → ℕ → ℕ → ℕ → Bool
gives a off len i = lies_in off len i && may_give a i

-- one image is another with what these entries give back
pub record GivenBack (a : UndoArea) (es : List Entry) (old new : List ℕ) : Type 0 where
  pub size : length new ≡ length old
  pub each : (i : ℕ) → slice_index new i ≡ (if may_give a i then given_back (last_covering es i) i (slice_index old i) else slice_index old i)
