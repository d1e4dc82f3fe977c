-- The undo area by what was read of it, and what is wrong with it.
use Rattle.std.specs.Prelude.{◌≡◌, ℕ, ◌+◌, ◌*◌, ◌%◌, ◌≤◌, ◌⊎◌, ◌==◌, ◌||◌, ◌&&◌, not, nat_lt, Bool, if◌then◌else◌, Option, Some, None, List}
use Rattle.tdb_words.specs.declared.record.Rec.{Rec}
use Rattle.tdb_words.specs.declared.record.TheConstants.{GATE_OPEN, GATE_SHUT}
use Rattle.tdb_words.specs.declared.what.What.TheVariants.{AreaBad, UndoBad}
use Rattle.tdb_words.specs.declared.word.Order.{Order}
use Rattle.tdb_words.specs.Word.{word}
use Rattle.tdb_words.specs.Record.{rec_at}
use Rattle.tdb_words.specs.Header.{area_head, header_length}
use Rattle.tdb_space.specs.Form.{Form, data_start}
use Rattle.tdb_space.specs.Record.{magic_of}
use Rattle.tdb_space.specs.FirstFault.{Fault, is_out, is_long}
use Rattle.tdb_undo.specs.declared.area.Area.{Area}

-- no record header can stand at an offset of a file of so many chains and of this length
abbrev pub is_out_at : ℕ → ℕ → ℕ → Bool
is_out_at chains len at = not (at % 4 == 0) || nat_lt at (header_length + 4 * (chains + 1)) || nat_lt len (at + 24)

-- what is wrong with an undo area that has this header, at this offset of a file of this length, whatever its gate is
abbrev pub header_fault_at : Rec → ℕ → ℕ → Option Fault
header_fault_at r at len =
    if not (r.rec_len % 4 == 0) || nat_lt len (at + 24 + r.rec_len) then Some (AreaBad, at + 4)
    else if not (r.magic == GATE_OPEN) && not (r.magic == GATE_SHUT) then Some (AreaBad, at + 20)
    else None

-- What is wrong with the place and the header of an undo area at an offset, by the first of these: it can't stand
-- there, its length doesn't fit, its gate word is neither that of an open nor that of a shut gate
abbrev pub place_fault_at : Form → List ℕ → ℕ → Option Fault
place_fault_at f img at =
    if is_out f img at then Some (AreaBad, area_head)
    else if is_long f img at then Some (AreaBad, at + 4)
    else if not (magic_of f.order img at == GATE_OPEN) && not (magic_of f.order img at == GATE_SHUT) then Some (AreaBad, at + 20)
    else None

-- the same of the undo area of an image, where it has one
abbrev pub place_fault : Form → List ℕ → Option Fault
place_fault f img = if word f.order img area_head == 0 then None else place_fault_at f img (word f.order img area_head)

-- What is wrong with the old length and the length of the content in the header of an undo area at an offset, where the
-- records of a file of this length begin at this offset
abbrev pub content_fault_at : Rec → ℕ → ℕ → ℕ → Option Fault
content_fault_at r at start len =
    if nat_lt r.key_len start || nat_lt len r.key_len || nat_lt at r.key_len && nat_lt r.key_len (at + 24 + r.rec_len) then Some (UndoBad, at + 8)
    else if nat_lt r.rec_len r.data_len then Some (UndoBad, at + 12)
    else None

-- the undo area of an image is this one
pub record IsAreaOf (o : Order) (img : List ℕ) (a : Area) : Type 0 where
  pub there : a.at ≡ word o img area_head
  pub head : a.header ≡ rec_at o img a.at

-- the undo area of an image is this one, or it has none
abbrev pub AreaSeen : Order → List ℕ → Option Area → Type 0
AreaSeen o img None = word o img area_head ≡ 0
AreaSeen o img (Some a) = IsAreaOf o img a

-- an undo area stands in a file of so many bytes, behind the heads of the chains
pub record Stands (f : Form) (size : ℕ) (a : Area) : Type 0 where
  pub aligned : a.at % 4 ≡ 0
  pub above : data_start f ≤ a.at
  pub len_aligned : a.header.rec_len % 4 ≡ 0
  pub within : a.at + 24 + a.header.rec_len ≤ size
  pub gate : (a.header.magic ≡ GATE_OPEN) ⊎ (a.header.magic ≡ GATE_SHUT)

-- the undo area that the word at 44 of an image leads to
abbrev pub area_of : Order → List ℕ → Area
area_of o img = record { at = word o img area_head; header = rec_at o img (word o img area_head) }
