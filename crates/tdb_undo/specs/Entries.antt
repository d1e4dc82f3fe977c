-- The entries of an undo area, one after the other.
use Rattle.std.specs.Prelude.{◌≡◌, ℕ, ◌+◌, ◌-◌, Bool, true, false, ◌&&◌, not, nat_le, if◌then◌else◌, is_some, List, [], ◌∷◌, length, slice_index}
use Rattle.tdb_words.specs.declared.word.Order.{Order}
use Rattle.tdb_space.specs.Opening.{Entry, entries_from, covers, last_covering, given_back, lies_in}
use Rattle.tdb_undo.specs.declared.area.Area.{Area}
use Rattle.tdb_words.specs.Header.{known_length}

-- where the content of an undo area ends
abbrev pub entries_stop : Area → ℕ
entries_stop a = a.at + 24 + a.header.data_len

-- the entries of an undo area in an image
abbrev pub entries_in : Order → List ℕ → Area → List Entry
entries_in o img a = entries_from o img a.header.data_len (a.at + 24) (entries_stop a)

-- how many old bytes these entries keep
abbrev pub lengths : List Entry → ℕ
lengths [] = 0
lengths (e ∷ es) = e.len + lengths es

-- the byte at a place as an entry keeps it, or as it is where the entry doesn't cover it
abbrev pub one_back : Entry → ℕ → ℕ → ℕ
one_back e i byte = if covers i e then slice_index e.olds (i - e.off) else byte

-- a byte of the file that entries may be written to: it lies neither among the first 64 nor in the undo area
abbrev pub is_writable : Area → ℕ → Bool
is_writable a i = nat_le known_length i && not (lies_in a.at (24 + a.header.rec_len) i)

-- an entry of so many bytes from an offset on is written to this byte
abbrev pub is_given : Area → ℕ → ℕ → ℕ → Bool
is_given a off len i = lies_in off len i && is_writable a i

-- one of these entries is written to this byte
abbrev pub is_written : Area → List Entry → ℕ → Bool
is_written a es i = is_some (last_covering es i) && is_writable a i

-- one image is another with what these entries keep, where they are written to
pub record Given (a : Area) (es : List Entry) (old new : List ℕ) : Type 0 where
  pub size : length new ≡ length old
  pub others : (i : ℕ) → is_written a es i ≡ false → slice_index new i ≡ slice_index old i
  pub inside : (i : ℕ) → is_written a es i ≡ true → slice_index new i ≡ given_back (last_covering es i) i (slice_index old i)
