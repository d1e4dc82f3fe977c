-- How a damaged image is read: as the stock library would read it.
use Rattle.std.specs.Prelude.{◌≡◌, ℕ, ◌+◌, ◌==◌, ◌&&◌, not, Bool, if◌then◌else◌, Option, Some, None, List, length, map, count_by, slice_index}
use Rattle.std.specs.List.{range_with_len}
use Rattle.tdb_disk.specs.Image.{overlay}
use Rattle.tdb_words.specs.declared.header.Header.{Header}
use Rattle.tdb_words.specs.declared.record.TheConstants.{GATE_OPEN, GATE_SHUT}
use Rattle.tdb_words.specs.declared.what.What.TheVariants.{AreaBad}
use Rattle.tdb_words.specs.Word.{word, bytes_of_word}
use Rattle.tdb_words.specs.Header.{header_at, area_head}
use Rattle.tdb_space.specs.Form.{Form, form_of}
use Rattle.tdb_space.specs.Record.{magic_of}
use Rattle.tdb_space.specs.FirstFault.{Fault, is_out, is_long, front_fault, ListsSound, NoOverlap, is_stray, IsFirstFault}
use Rattle.tdb_space.specs.Opening.{is_open}
use Rattle.tdb_space.specs.Undoing.{area_at}
use Rattle.tdb_mend.specs.WideUndo.{widely_undone, wide_fault_at}
use Rattle.tdb_mend.specs.Mutexes.{without_mutexes}

-- the word of an undo area that was placed and has no header yet: four bytes of padding, with which the stock library
-- fills a file that it makes longer
abbrev pub padding_word : ℕ
padding_word = 0x42424242

-- the word at 44 leads to where an undo area can stand, and no header was written there yet
abbrev pub lacks_header : Form → List ℕ → Bool
lacks_header f img = not (is_out f img (area_at f img)) && (magic_of f.order img (area_at f img) == padding_word)

-- the image without an undo area: its word at 44 is 0
abbrev pub without_area : Form → List ℕ → List ℕ
without_area f img = overlay img area_head (bytes_of_word f.order 0)

-- What mending finds wrong with an undo area at an offset, by the first of these: it can't stand there; it has a
-- header, and its length doesn't fit, or what it keeps is wrong, where its gate is open, or its gate word is neither of
-- the two
abbrev pub mend_fault_at : Form → List ℕ → ℕ → Option Fault
mend_fault_at f img at =
    if is_out f img at then Some (AreaBad, area_head)
    else if magic_of f.order img at == padding_word then None
    else if is_long f img at then Some (AreaBad, at + 4)
    else if magic_of f.order img at == GATE_OPEN then wide_fault_at f img at
    else if not (magic_of f.order img at == GATE_SHUT) then Some (AreaBad, at + 20)
    else None

-- what it finds wrong with the undo area of an image, where the word at 44 says that there is one
abbrev pub mend_fault : Form → List ℕ → Option Fault
mend_fault f img = if word f.order img area_head == 0 then None else mend_fault_at f img (word f.order img area_head)

-- What the undo area of an image leaves of it: without an undo area that has no header, with an open gate what the wide
-- undo gives, and else the image as it is. It says something only where there is no mend_fault.
abbrev pub undone_as : List ℕ → List ℕ
undone_as img =
    if lacks_header (form_of img) img then without_area (form_of img) img
    else if is_open (form_of img) img then widely_undone (form_of img) img
    else img

-- The image that a database is read as before its stray bytes are looked at. What an undo gives back of the header may
-- say again that there are mutexes.
abbrev pub read_as : List ℕ → List ℕ
read_as img = without_mutexes (undone_as img)

-- the image with each stray byte 0
abbrev pub without_strays : List ℕ → List ℕ
without_strays img = map (λ i. if is_stray img i then 0 else slice_index img i) (range_with_len 0 (length img))

-- the image that a file is read as
abbrev pub mended : List ℕ → List ℕ
mended img = without_strays (read_as img)

-- how many bytes of the second image differ from those of the first
abbrev pub bytes_changed : List ℕ → List ℕ → ℕ
bytes_changed a b = count_by (λ i. not (slice_index a i == slice_index b i)) (range_with_len 0 (length b))

-- how many bytes of an image are stray
abbrev pub strays : List ℕ → ℕ
strays img = count_by (is_stray img) (range_with_len 0 (length img))

-- How many bytes are changed to read a database: those that the undo changes, the word for features where that says
-- that there are mutexes, and then those that are stray
abbrev pub bytes_mended : List ℕ → ℕ
bytes_mended img = bytes_changed img (read_as img) + strays (read_as img)

-- the front of a database has no fault, but that it may stand behind mutexes, and this is what its header says
pub record HasHeader (img : List ℕ) (h : Header) : Type 0 where
  pub front : front_fault (without_mutexes img) ≡ None
  pub header : h ≡ header_at img

-- an image has no fault but stray bytes, if any
pub record IsSoundButStrays (img : List ℕ) : Type 0 where
  pub lists : ListsSound img
  pub apart : NoOverlap img

-- an image can be mended: nothing is wrong with its undo area, and what it is read as has no fault but stray bytes
pub record CanBeMended (img : List ℕ) : Type 0 where
  pub no_fault : mend_fault (form_of img) img ≡ None
  pub sound : IsSoundButStrays (read_as img)

-- a fault is the first of an image that has others than stray bytes; these come last, so it is none of them
abbrev pub IsFirstButStrays : List ℕ → Fault → Type 0
IsFirstButStrays img e = IsFirstFault img e × (IsSoundButStrays img → ⊥)

-- a fault keeps an image from being mended: one of its undo area, or else the first one of what it is read as, but for
-- stray bytes
pub data IsMendFault (img : List ℕ) : Fault → Type 0 where
  in_area : (e : Fault) → mend_fault (form_of img) img ≡ Some e → IsMendFault img e
  in_read : (e : Fault) → mend_fault (form_of img) img ≡ None → IsFirstButStrays (read_as img) e → IsMendFault img e
