-- Extents: which bytes belong to records, to the undo area and to hands, and how often.
use Rattle.std.specs.Prelude.{◌≡◌, ℕ, ◌+◌, ◌≤◌, ◌%◌, ◌&&◌, ◌==◌, nat_lt, nat_le, List, [], ◌∷◌, ◌++◌, length, if◌then◌else◌}
use Rattle.tdb_words.specs.declared.word.Order.{Order}
use Rattle.tdb_words.specs.Word.{word}
use Rattle.tdb_words.specs.Header.{area_head}
use Rattle.tdb_space.specs.Form.{Form, data_start}
use Rattle.tdb_space.specs.Record.{rec_len_of}
use Rattle.tdb_space.specs.Pairs.{joined}

-- an offset, and how many bytes from it on
abbrev pub Extent : Type 0
Extent = ℕ × ℕ

-- a record that stands in no list, by its offset and its rec_len
abbrev pub HandPair : Type 0
HandPair = ℕ × ℕ

-- how often an extent holds the byte at a place: once or not at all
abbrev pub once : Extent → ℕ → ℕ
once e i = if nat_le e.0 i && nat_lt i (e.0 + e.1) then 1 else 0

-- how often these extents hold the byte at a place
abbrev pub times : List Extent → ℕ → ℕ
times [] i = 0
times (e ∷ es) i = once e i + times es i

-- the extent of the record at an offset: its header and its rec_len bytes
abbrev pub extent_at : Order → List ℕ → ℕ → Extent
extent_at o img at = (at, 24 + rec_len_of o img at)

-- the extents of the records at these offsets
abbrev pub extents : Order → List ℕ → List ℕ → List Extent
extents o img [] = []
extents o img (x ∷ xs) = extent_at o img x ∷ extents o img xs

-- the extents of hands
abbrev pub hand_extents : List HandPair → List Extent
hand_extents [] = []
hand_extents (h ∷ hs) = (h.0, 24 + h.1) ∷ hand_extents hs

-- the extent of the undo area, where the image has one: the word at 44 is its offset, or 0
abbrev pub area : Order → List ℕ → List Extent
area o img = if word o img area_head == 0 then [] else extent_at o img (word o img area_head) ∷ []

-- the extents of all chains, of the free list, of the undo area and of the hands; a record that two lists hold comes
-- twice
abbrev pub all_extents : Form → List ℕ → (ℕ → List ℕ) → List ℕ → List HandPair → List Extent
all_extents f img chain free hands =
    joined f.chains (λ j. extents f.order img (chain j)) ++ extents f.order img free ++ area f.order img ++ hand_extents hands

-- a hand is in place: aligned, behind the heads and within the image
pub record HandOk (f : Form) (img : List ℕ) (h : HandPair) : Type 0 where
  pub aligned : h.0 % 4 ≡ 0
  pub len_aligned : h.1 % 4 ≡ 0
  pub above : data_start f ≤ h.0
  pub within : h.0 + 24 + h.1 ≤ length img

-- each of these hands is in place
abbrev pub AllHandOk : Form → List ℕ → List HandPair → Type 0
AllHandOk f img [] = Unit {0}
AllHandOk f img (h ∷ hs) = HandOk f img h × AllHandOk f img hs
