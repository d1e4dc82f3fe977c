-- The first fault that opening a file meets, in the order in which it reads: the front and the undo area as they are,
-- then what the undo area keeps, where its gate is open, and then what a check says of the file as it is read after the
-- undo.
use Rattle.std.specs.Prelude.{◌≡◌, ℕ, ◌+◌, ◌==◌, ◌⊎◌, not, if◌then◌else◌, Option, Some, None, List}
use Rattle.tdb_words.specs.declared.record.TheConstants.{GATE_OPEN, GATE_SHUT}
use Rattle.tdb_words.specs.declared.header.HeaderFault.{HeaderFault}
use Rattle.tdb_words.specs.declared.what.What.TheVariants.{Header, AreaBad}
use Rattle.tdb_words.specs.Word.{word}
use Rattle.tdb_words.specs.Header.{header_fault, area_head}
use Rattle.tdb_space.specs.Form.{Form, form_of}
use Rattle.tdb_space.specs.Record.{magic_of}
use Rattle.tdb_space.specs.Accepted.{Shut}
use Rattle.tdb_space.specs.FirstFault.{Fault, is_out, is_long, front_fault, IsFirstFault}
use Rattle.tdb_space.specs.Opening.{undo_fault, Undoable, restored, Opens}

-- What opening finds wrong with an undo area at an offset: it can't stand there, its length doesn't fit, what it keeps
-- is wrong, where its gate is open, or its gate word is neither of the two
abbrev pub opening_fault_at : Form → List ℕ → ℕ → Option Fault
opening_fault_at f img at =
    if is_out f img at then Some (AreaBad, area_head)
    else if is_long f img at then Some (AreaBad, at + 4)
    else if magic_of f.order img at == GATE_OPEN then undo_fault f img
    else if not (magic_of f.order img at == GATE_SHUT) then Some (AreaBad, at + 20)
    else None

-- what opening finds wrong with the undo area of an image, where the word at 44 says that there is one
abbrev pub opening_fault : Form → List ℕ → Option Fault
opening_fault f img = if word f.order img area_head == 0 then None else opening_fault_at f img (word f.order img area_head)

-- A fault is the first that opening an image meets: one of its front; one of its undo area; or else the first fault of
-- the image that it is read as. An undo may change the header: what its restored image then lacks is a fault of that
-- image, with the kind Header.
pub data IsOpeningFault (img : List ℕ) : Fault → Type 0 where
  in_front : (e : Fault) → front_fault img ≡ Some e → IsOpeningFault img e
  in_undo_area : (e : Fault) → front_fault img ≡ None → opening_fault (form_of img) img ≡ Some e → IsOpeningFault img e
  in_restored : (e : Fault) → front_fault img ≡ None → opening_fault (form_of img) img ≡ None → IsFirstFault (restored (form_of img) img) e → IsOpeningFault img e

-- an image opens, or opening it meets a first fault
abbrev pub OpensOrFault : Type 0
OpensOrFault = (img : List ℕ) → Opens img ⊎ ((e : Fault) × IsOpeningFault img e)

-- it meets at most one
abbrev pub OneOpeningFault : Type 0
OneOpeningFault = (img : List ℕ) (a b : Fault) → IsOpeningFault img a → IsOpeningFault img b → a ≡ b

-- and none where the image opens
abbrev pub NeverBoth : Type 0
NeverBoth = (img : List ℕ) (e : Fault) → IsOpeningFault img e → Opens img → ⊥

-- where nothing has to be undone, opening meets just the first fault of the image
abbrev pub SameWhereShut : Type 0
SameWhereShut = (img : List ℕ) (e : Fault) → Shut (form_of img) img → (IsOpeningFault img e → IsFirstFault img e) × (IsFirstFault img e → IsOpeningFault img e)

-- A fault of the kind Header is one of the image itself, or the image can be undone and it is one of what the undo
-- gives; its place is 0.
pub data IsHeaderFault (img : List ℕ) (at : ℕ) : Type 0 where
  own : (kind : HeaderFault) → at ≡ 0 → header_fault img ≡ Some kind → IsHeaderFault img at
  after_undo : (kind : HeaderFault) → at ≡ 0 → header_fault img ≡ None → Undoable (form_of img) img → header_fault (restored (form_of img) img) ≡ Some kind → IsHeaderFault img at

-- that is so wherever opening meets one
abbrev pub HeaderFaultIs : Type 0
HeaderFaultIs = (img : List ℕ) (at : ℕ) → IsOpeningFault img (Header, at) → IsHeaderFault img at
