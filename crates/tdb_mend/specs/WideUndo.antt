-- The wide undo: what the undo area of an image gives back where the stock library left its gate open. Its entries are
-- whole pages, so one may pass the length that the file had; and it makes its area longer in place, so that this length
-- may lie inside the area.
use Rattle.std.specs.Prelude.{ℕ, ◌+◌, ◌||◌, max, nat_lt, Bool, if◌then◌else◌, Option, Some, None, List, [], ◌∷◌, length, map}
use Rattle.std.specs.List.{range_with_len}
use Rattle.tdb_words.specs.declared.what.What.TheVariants.{UndoBad}
use Rattle.tdb_words.specs.declared.word.Order.{Order}
use Rattle.tdb_space.specs.Form.{Form, data_start}
use Rattle.tdb_space.specs.Record.{rec_len_of, key_len_of, data_len_of}
use Rattle.tdb_space.specs.FirstFault.{Fault}
use Rattle.tdb_space.specs.Opening.{Entry, entries, entries_end, undone_byte}
use Rattle.tdb_space.specs.Undoing.{area_at}

-- How many bytes a wide undo leaves, where the undo area stands at this offset: as many as the file had; and where that
-- length lies inside the area, up to the area's end, so that the area is kept whole
abbrev pub wide_length : Order → List ℕ → ℕ → ℕ
wide_length o img at =
    if nat_lt at (key_len_of o img at) then max (key_len_of o img at) (at + 24 + rec_len_of o img at) else key_len_of o img at

-- What a wide undo gives, where the undo area stands at this offset and has these entries: each byte as any undo gives
-- it back. So what an entry has for places past the end is dropped, and the area stays, whatever entries cover it.
abbrev pub widely_undone_by : Order → List ℕ → ℕ → List Entry → List ℕ
widely_undone_by o img at es = map (undone_byte o img at es) (range_with_len 0 (wide_length o img at))

-- what a wide undo gives of an image
abbrev pub widely_undone : Form → List ℕ → List ℕ
widely_undone f img = widely_undone_by f.order img (area_at f img) (entries f img)

-- the area's key_len is no length that the file had: it lies before the data, or passes the end
abbrev pub is_no_length : Form → List ℕ → ℕ → Bool
is_no_length f img at = nat_lt (key_len_of f.order img at) (data_start f) || nat_lt (length img) (key_len_of f.order img at)

-- the first of these entries that passes the end of the content, by the place of its offset word
abbrev pub unparsed : ℕ → List Entry → Option Fault
unparsed end [] = None
unparsed end (e ∷ es) = if nat_lt end (e.place + 8 + e.len) then Some (UndoBad, e.place) else unparsed end es

-- What is wrong with an undo area at an offset that is to be undone widely, by the first of these: its old length is
-- none, its entries pass its content, or one of them passes the end of the entries
abbrev pub wide_fault_at : Form → List ℕ → ℕ → Option Fault
wide_fault_at f img at =
    if is_no_length f img at then Some (UndoBad, at + 8)
    else if nat_lt (rec_len_of f.order img at) (data_len_of f.order img at) then Some (UndoBad, at + 12)
    else unparsed (entries_end f.order img at) (entries f img)
