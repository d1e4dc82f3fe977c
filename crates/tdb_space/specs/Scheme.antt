-- The plan of a commit, as numbers: where its undo area stands, which bytes of the file it writes, and what a stop of
-- these writes leaves.
use Rattle.std.specs.Prelude.{◌≡◌, ℕ, ◌+◌, ◌%◌, ◌<◌, ◌≤◌, ◌⊎◌, Option, None, List, length, slice_index}
use Rattle.tdb_disk.specs.Image.{overlay}
use Rattle.tdb_disk.specs.Stop.{Torn}
use Rattle.tdb_words.specs.declared.word.Order.{Order}
use Rattle.tdb_words.specs.Word.{word, bytes_of_word}
use Rattle.tdb_words.specs.Header.{area_head, known_length, sequence_at}
use Rattle.tdb_space.specs.Form.{Form, form_of}
use Rattle.tdb_space.specs.Record.{rec_len_of, key_len_of}
use Rattle.tdb_space.specs.Extents.{Extent, times}
use Rattle.tdb_space.specs.Accepted.{Accept}
use Rattle.tdb_space.specs.Exchange.{Agree}
use Rattle.tdb_space.specs.Opening.{entries, Undoable, last_covering, OpensTo, Mild}
use Rattle.tdb_space.specs.Undoing.{UndoneAlike, Reopens}
use Rattle.tdb_space.specs.Gate.{gate_opened, IsReadyToOpen}

-- The byte order of the words; where the undo area stands, and how long it is with its header; where its gate stands;
-- the length that the file had at first; and the extents below that length which are written, the runs.
pub record Scheme : Type 0 where
  pub order : Order
  pub area : ℕ
  pub area_length : ℕ
  pub gate : ℕ
  pub old_length : ℕ
  pub runs : List Extent

-- the image with this word as its gate
abbrev pub with_gate : ℕ → Scheme → List ℕ → List ℕ
with_gate w p img = overlay img p.gate (bytes_of_word p.order w)

-- image c is image a with any bytes in the runs and from the old length on; the undo area stays
pub record Within (p : Scheme) (a c : List ℕ) : Type 0 where
  pub size : length c ≡ length a
  pub others : (i : ℕ) → i < p.old_length → times p.runs i ≡ 0 → slice_index c i ≡ slice_index a i
  pub area_bytes : Agree a c p.area (p.area + p.area_length)

-- no run holds a byte of the undo area
abbrev pub IsClear : Scheme → Type 0
IsClear p = (i : ℕ) → p.area ≤ i → i < p.area + p.area_length → times p.runs i ≡ 0

-- each byte from one place up to another is in a run or stands from the old length on, and none is in the undo area
abbrev pub MayWrite : Scheme → ℕ → ℕ → Type 0
MayWrite p from to = (i : ℕ) → from ≤ i → i < to → ((1 ≤ times p.runs i) ⊎ (p.old_length ≤ i)) × ((i < p.area) ⊎ (p.area + p.area_length ≤ i))

-- The plan fits image a, whose gate is open: the undo area and the old length are those that the image states, each
-- byte of a run is covered by an entry, and no run holds a byte by which the header is known, nor one of the word at
-- 44.
pub record IsPlanFor (f : Form) (p : Scheme) (a : List ℕ) : Type 0 where
  pub there : word f.order a area_head ≡ p.area
  pub area_length : 24 + rec_len_of f.order a p.area ≡ p.area_length
  pub old_length : key_len_of f.order a p.area ≡ p.old_length
  pub covered : (i : ℕ) → 1 ≤ times p.runs i → last_covering (entries f a) i ≡ None → ⊥
  pub front : (i : ℕ) → (i < sequence_at) ⊎ ((sequence_at + 4 ≤ i) × (i < known_length)) → times p.runs i ≡ 0

-- an image is within itself, what is written where the plan may write stays within, and so does what a stop leaves of
-- it
pub record StaysWithin (p : Scheme) (base : List ℕ) : Type 0 where
  pub itself : Within p base base
  pub further : (a c : List ℕ) → Within p base a → Within p a c → Within p base c
  pub torn : (a c : List ℕ) (at n : ℕ) → MayWrite p at (at + n) → Within p base a → Torn at n a c → Within p base c

-- whichever plan and image
abbrev pub WithinIsKept : Type 0
WithinIsKept = (p : Scheme) (base : List ℕ) → StaysWithin p base

-- an image within one that the plan fits is undone like it
abbrev pub RunsAreAlike : Type 0
RunsAreAlike = (f : Form) (p : Scheme) (a c : List ℕ) → length a % 4 ≡ 0 → Undoable f a → IsPlanFor f p a → Within p a c → UndoneAlike f a c

-- so it opens to the map to which that one opens
abbrev pub RunsAreUndone : Type 0
RunsAreUndone = (p : Scheme) (a c : List ℕ) (m : List ℕ → Option (List ℕ)) → OpensTo a m → Undoable (form_of a) a → IsPlanFor (form_of a) p a → Within p a c → OpensTo c m

-- and it reopens, where that one does and is Mild
abbrev pub RunsReopen : Type 0
RunsReopen = (r a c : List ℕ) (p : Scheme) → Reopens r a → Mild a → IsPlanFor (form_of a) p a → Within p a c → Reopens r c

-- From an accepted image that is ready the gate is opened: whatever is then written where the plan writes reopens to
-- its map.
abbrev pub OpenedReopens : Type 0
OpenedReopens = (a c : List ℕ) (p : Scheme) → Accept a → IsReadyToOpen (form_of a) a → IsPlanFor (form_of a) p (gate_opened (form_of a) a) → Within p (gate_opened (form_of a) a) c → Reopens a c
