-- The undo area by what was read of it, and how it stands.
use Rattle.std.specs.Prelude.{◌≡◌, ℕ, ◌+◌, ◌%◌, ◌≤◌, ◌==◌, ◌||◌, ◌&&◌, not, max, nat_lt, true, false, if◌then◌else◌, Option, Some, None, List}
use Rattle.tdb_words.specs.declared.record.TheConstants.{GATE_OPEN, GATE_SHUT}
use Rattle.tdb_words.specs.declared.what.What.TheVariants.{AreaBad, UndoBad}
use Rattle.tdb_words.specs.declared.word.Order.{Order}
use Rattle.tdb_words.specs.Word.{word}
use Rattle.tdb_words.specs.Record.{rec_at}
use Rattle.tdb_words.specs.Header.{area_head}
use Rattle.tdb_space.specs.Form.{Form}
use Rattle.tdb_space.specs.Record.{magic_of}
use Rattle.tdb_space.specs.FirstFault.{Fault, is_out, is_long}
use Rattle.tdb_space.specs.Opening.{is_open}
use Rattle.tdb_mend.specs.Mended.{padding_word, lacks_header}
use Rattle.tdb_mend.specs.declared.area.UndoArea.{UndoArea}
use Rattle.tdb_mend.specs.declared.area.AreaState.{AreaState}
use Rattle.tdb_mend.specs.declared.area.AreaState.TheVariants.{Still, WithoutHeader, Open}

-- the undo area that the word at 44 of an image leads to
abbrev pub area_of : Order → List ℕ → UndoArea
area_of o img = record { at = word o img area_head; header = rec_at o img (word o img area_head) }

-- what is wrong with an undo area that has a header, in a file of so many bytes, whatever it keeps
abbrev pub header_fault_in : UndoArea → ℕ → Option Fault
header_fault_in a len =
    if not (a.header.rec_len % 4 == 0) || nat_lt len (a.at + 24 + a.header.rec_len) then Some (AreaBad, a.at + 4)
    else if not (a.header.magic == GATE_OPEN) && not (a.header.magic == GATE_SHUT) then Some (AreaBad, a.at + 20)
    else None

-- What is wrong with its old length and the length of its content, where the records of a file of this length begin at
-- this offset
abbrev pub content_fault_in : UndoArea → ℕ → ℕ → Option Fault
content_fault_in a start len =
    if nat_lt a.header.key_len start || nat_lt len a.header.key_len then Some (UndoBad, a.at + 8)
    else if nat_lt a.header.rec_len a.header.data_len then Some (UndoBad, a.at + 12)
    else None

-- what is wrong with the place and the header of the undo area at an offset, whatever it keeps
abbrev pub state_fault_at : Form → List ℕ → ℕ → Option Fault
state_fault_at f img at =
    if is_out f img at then Some (AreaBad, area_head)
    else if magic_of f.order img at == padding_word then None
    else if is_long f img at then Some (AreaBad, at + 4)
    else if not (magic_of f.order img at == GATE_OPEN) && not (magic_of f.order img at == GATE_SHUT) then Some (AreaBad, at + 20)
    else None

-- the same of the undo area of an image, where it has one
abbrev pub state_fault : Form → List ℕ → Option Fault
state_fault f img = if word f.order img area_head == 0 then None else state_fault_at f img (word f.order img area_head)

-- how the undo area of an image stands
abbrev pub StateSeen : Form → List ℕ → AreaState → Type 0
StateSeen f img Still = (lacks_header f img ≡ false) × (is_open f img ≡ false)
StateSeen f img WithoutHeader = lacks_header f img ≡ true
StateSeen f img (Open a) = (lacks_header f img ≡ false) × (is_open f img ≡ true) × (a ≡ area_of f.order img)

-- an undo area stands in a file of so many bytes, whose records begin at an offset
pub record Stands (start size : ℕ) (a : UndoArea) : Type 0 where
  pub aligned : a.at % 4 ≡ 0
  pub above : start ≤ a.at
  pub within : a.at + 24 + a.header.rec_len ≤ size

-- an undo area that is open stands so
abbrev pub OpenStands : ℕ → ℕ → AreaState → Type 0
OpenStands start size Still = Unit {0}
OpenStands start size WithoutHeader = Unit {0}
OpenStands start size (Open a) = Stands start size a

-- how many bytes a wide undo leaves
abbrev pub wide_len_of : UndoArea → ℕ
wide_len_of a = if nat_lt a.at a.header.key_len then max a.header.key_len (a.at + 24 + a.header.rec_len) else a.header.key_len
