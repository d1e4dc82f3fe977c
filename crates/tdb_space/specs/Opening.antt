-- Opening a file: what its undo area takes back, and the map that it then holds. The undo area is the recovery area of
-- the public TDB 1 format. While its gate is open, the file is read as it was before the changes whose old bytes the
-- area keeps.
use Rattle.std.specs.Prelude.{◌≡◌, ℕ, zero, suc, ◌+◌, ◌-◌, ◌%◌, ◌≤◌, ◌⊎◌, ◌==◌, Bool, ◌&&◌, ◌||◌, not, nat_lt, nat_le, if◌then◌else◌, Option, Some, None, List, [], ◌∷◌, length, map, take, drop, slice_index}
use Rattle.std.specs.List.{filter, last_or, range_with_len}
use Rattle.tdb_words.specs.declared.record.TheConstants.{GATE_OPEN}
use Rattle.tdb_words.specs.declared.what.What.TheVariants.{UndoBad}
use Rattle.tdb_words.specs.declared.word.Order.{Order}
use Rattle.tdb_words.specs.Word.{word}
use Rattle.tdb_words.specs.Header.{HeaderOk, area_head}
use Rattle.tdb_space.specs.Form.{Form, form_of, data_start, SameHeader}
use Rattle.tdb_space.specs.Record.{rec_len_of, key_len_of, data_len_of, magic_of}
use Rattle.tdb_space.specs.Pairs.{map_of}
use Rattle.tdb_space.specs.Accepted.{AreaInPlace, AreaOk, Shut, Accept}
use Rattle.tdb_space.specs.FirstFault.{Fault, is_out, is_long}

-- An entry of the undo area: an offset word, a length word, and that many old bytes of the file from that offset on.
-- The place is where its offset word stands.
pub record Entry : Type 0 where
  pub place : ℕ
  pub off : ℕ
  pub len : ℕ
  pub olds : List ℕ

-- the entry whose offset word stands at a place
abbrev pub entry_at : Order → List ℕ → ℕ → Entry
entry_at o img at = record {
  place = at;
  off = word o img at;
  len = word o img (at + 4);
  olds = take (word o img (at + 4)) (drop (at + 8) img);
}

-- The entries that follow one another from a place on, and no more of them than a number. There is one more while more
-- than 8 bytes are left up to the end.
abbrev pub entries_from : Order → List ℕ → ℕ → ℕ → ℕ → List Entry
entries_from o img zero at end = []
entries_from o img (suc n) at end =
    if nat_lt (at + 8) end then entry_at o img at ∷ entries_from o img n (at + 8 + word o img (at + 4)) end else []

-- where the entries of the undo area at an offset end: the area's data_len counts their bytes, which follow its header
abbrev pub entries_end : Order → List ℕ → ℕ → ℕ
entries_end o img at = at + 24 + data_len_of o img at

-- The entries of the undo area. Each has 8 bytes at least, so there are no more of them than bytes of theirs.
abbrev pub entries : Form → List ℕ → List Entry
entries f img = entries_from f.order img (data_len_of f.order img (word f.order img area_head)) (word f.order img area_head + 24) (entries_end f.order img (word f.order img area_head))

-- The area's key_len is the length that the file had. It is no such length: it lies before the data, passes the end, or
-- cuts the undo area at this offset in two.
abbrev pub is_bad_cut : Form → List ℕ → ℕ → Bool
is_bad_cut f img at =
    nat_lt (key_len_of f.order img at) (data_start f) || nat_lt (length img) (key_len_of f.order img at)
    || nat_lt at (key_len_of f.order img at) && nat_lt (key_len_of f.order img at) (at + 24 + rec_len_of f.order img at)

-- an entry passes the end of the entries, or what it covers passes the file's old length
abbrev pub is_bad_entry : ℕ → ℕ → Entry → Bool
is_bad_entry end old_length e = nat_lt end (e.place + 8 + e.len) || nat_lt old_length (e.off + e.len)

-- the first bad one of these entries, by the place of its offset word
abbrev pub entry_fault : ℕ → ℕ → List Entry → Option Fault
entry_fault end old_length [] = None
entry_fault end old_length (e ∷ es) = if is_bad_entry end old_length e then Some (UndoBad, e.place) else entry_fault end old_length es

-- an undo area at an offset with these entries: its old length is none, its entries pass its content, or an entry is
-- bad
abbrev pub undo_fault_at : Form → List ℕ → ℕ → List Entry → Option Fault
undo_fault_at f img at es =
    if is_bad_cut f img at then Some (UndoBad, at + 8)
    else if nat_lt (rec_len_of f.order img at) (data_len_of f.order img at) then Some (UndoBad, at + 12)
    else entry_fault (entries_end f.order img at) (key_len_of f.order img at) es

-- what is wrong with the undo area of an image whose gate is open, by the first of these conditions
abbrev pub undo_fault : Form → List ℕ → Option Fault
undo_fault f img = undo_fault_at f img (word f.order img area_head) (entries f img)

-- the undo area of an image is in place and its gate is open, and nothing is wrong with what it keeps
pub record Undoable (f : Form) (img : List ℕ) : Type 0 where
  pub in_place : AreaInPlace f img (word f.order img area_head)
  pub gate_open : magic_of f.order img (word f.order img area_head) ≡ GATE_OPEN
  pub no_fault : undo_fault f img ≡ None

-- an entry covers a byte of the file
abbrev pub covers : ℕ → Entry → Bool
covers i e = nat_le e.off i && nat_lt i (e.off + e.len)

-- the last of these entries that covers a byte
abbrev pub last_covering : List Entry → ℕ → Option Entry
last_covering es i = last_or None (filter (covers i) es)

-- the byte at a place that an entry gives back, or the one that stands there where there is no entry
abbrev pub given_back : Option Entry → ℕ → ℕ → ℕ
given_back None i byte = byte
given_back (Some e) i byte = slice_index e.olds (i - e.off)

-- a byte lies in so many bytes from an offset on
abbrev pub lies_in : ℕ → ℕ → ℕ → Bool
lies_in from count i = nat_le from i && nat_lt i (from + count)

-- A byte of what an undo gives, where the undo area stands at this offset and has these entries. The gate is shut. The
-- word at 44, which says where the area is, is 0 where the area lies past the file's old length, and else stays. The
-- area itself stays. Every other byte is that of the last entry that covers it, or stays.
abbrev pub undone_byte : Order → List ℕ → ℕ → List Entry → ℕ → ℕ
undone_byte o img at es i =
    if lies_in (at + 20) 4 i then 0
    else if lies_in area_head 4 i then (if nat_le (key_len_of o img at) at then 0 else slice_index img i)
    else if lies_in at (24 + rec_len_of o img at) i then slice_index img i
    else given_back (last_covering es i) i (slice_index img i)

-- what an undo gives: so many bytes as the file had
abbrev pub undone : Order → List ℕ → ℕ → List Entry → List ℕ
undone o img at es = map (undone_byte o img at es) (range_with_len 0 (key_len_of o img at))

-- the undo area of an image stands within it, and its gate is open
abbrev pub is_open : Form → List ℕ → Bool
is_open f img =
    not (is_out f img (word f.order img area_head)) && not (is_long f img (word f.order img area_head)) && (magic_of f.order img (word f.order img area_head) == GATE_OPEN)

-- The image that a file is read as: with an open gate what the undo gives, and else the file as it is. It says
-- something only where the gate is shut, there is no undo area, or the image is Undoable. An entry may cover the header
-- too, so what this gives may have another form.
abbrev pub restored : Form → List ℕ → List ℕ
restored f img = if is_open f img then undone f.order img (word f.order img area_head) (entries f img) else img

-- The image can be opened: its header is one of ours, the length is a whole number of words and reaches the data, the
-- undo area is in place, it has nothing to undo or can be undone, and what that gives is accepted.
pub record Opens (img : List ℕ) : Type 0 where
  pub header : HeaderOk img
  pub sized : length img % 4 ≡ 0
  pub long : data_start (form_of img) ≤ length img
  pub area_ok : AreaOk (form_of img) img
  pub undo : Shut (form_of img) img ⊎ Undoable (form_of img) img
  pub accepted : Accept (restored (form_of img) img)

-- the map that an image holds, by its own header
abbrev pub own_map : List ℕ → List ℕ → Option (List ℕ)
own_map img = map_of (form_of img) img

-- the image can be opened, and holds this map then
pub record OpensTo (img : List ℕ) (m : List ℕ → Option (List ℕ)) : Type 0 where
  pub opens : Opens img
  pub holds : (key : List ℕ) → own_map (restored (form_of img) img) key ≡ m key

-- the image can be undone, and that changes no byte by which its header is known, though an entry may cover one
pub record Mild (img : List ℕ) : Type 0 where
  pub undoable : Undoable (form_of img) img
  pub header : SameHeader img (restored (form_of img) img)

-- a file with nothing to undo is read as it is
abbrev pub ReadAsItIs : Type 0
ReadAsItIs = (f : Form) (img : List ℕ) → Shut f img → restored f img ≡ img

-- one that can be undone is read as what the undo gives
abbrev pub ReadUndone : Type 0
ReadUndone = (f : Form) (img : List ℕ) → Undoable f img → restored f img ≡ undone f.order img (word f.order img area_head) (entries f img)

-- after an undo the undo area is in place, if there is one, and there is nothing more to undo
abbrev pub UndoneOnce : Type 0
UndoneOnce = (f : Form) (img : List ℕ) → Undoable f img → AreaOk f (restored f img) × Shut f (restored f img)

-- an accepted image can be opened, and holds its own map then
abbrev pub AcceptedOpens : Type 0
AcceptedOpens = (img : List ℕ) → Accept img → OpensTo img (own_map img)
