-- The plan of a commit over an accepted file: what the undo area holds before its gate is opened, and what the file
-- becomes.
use Rattle.std.specs.Prelude.{◌≡◌, ℕ, ◌+◌, ◌%◌, ◌<◌, ◌≤◌, ◌⊎◌, ◌&&◌, ◌||◌, nat_lt, nat_le, if◌then◌else◌, List, [], ◌∷◌, length, map, take, drop, slice_index}
use Rattle.std.specs.List.{range_with_len}
use Rattle.tdb_words.specs.declared.record.TheConstants.{GATE_OPEN, GATE_SHUT}
use Rattle.tdb_words.specs.declared.word.Order.{Order}
use Rattle.tdb_words.specs.Word.{word}
use Rattle.tdb_words.specs.Header.{area_head}
use Rattle.tdb_space.specs.Form.{Form, form_of, data_start, SameHeader}
use Rattle.tdb_space.specs.Record.{rec_len_of, key_len_of, data_len_of}
use Rattle.tdb_space.specs.Extents.{Extent, once, times}
use Rattle.tdb_space.specs.Accepted.{Accept}
use Rattle.tdb_space.specs.Opening.{Mild}
use Rattle.tdb_space.specs.Undoing.{Reopens}
use Rattle.tdb_space.specs.Scheme.{Scheme, with_gate, Within, IsClear}
use Rattle.tdb_space.specs.Runs.{ChangedRuns}

-- how many bytes the content of an undo area has: for each run two words and its bytes, and at the end one word
abbrev pub content_length : List Extent → ℕ
content_length [] = 4
content_length (e ∷ es) = 8 + e.1 + content_length es

-- The content stands in an image from a place on: for each run its offset, its length and the bytes that the image has
-- there; and at the end a word, the length of the undo area with its header.
abbrev pub HasContent : Order → List ℕ → ℕ → ℕ → List Extent → Type 0
HasContent o a long at [] = word o a at ≡ long
HasContent o a long at (e ∷ es) =
    (word o a at ≡ e.0) × (word o a (at + 4) ≡ e.1) × (take e.1 (drop (at + 8) a) ≡ take e.1 (drop e.0 a)) × HasContent o a long (at + 8 + e.1) es

-- The undo area of the plan is the one that image b of the transaction has, which keeps the file's length, or a new
-- one, which stands behind b where b has none.
pub data Placed (f : Form) (a b : List ℕ) (p : Scheme) : Type 0 where
  kept : word f.order b area_head ≡ p.area → 24 + rec_len_of f.order b p.area ≡ p.area_length → p.area + p.area_length ≤ p.old_length → length a ≡ length b → Placed f a b p
  fresh : word f.order b area_head ≡ 0 → p.area ≡ length b → length a ≡ p.area + p.area_length → Placed f a b p

-- All is ready for the gate: image a is the file with the content in its undo area and the gate shut, image b that of
-- the transaction. The plan's numbers are those of the area; its runs are the changed bytes, and the content keeps what
-- the file has there; from the old length on the file has zeros outside the area; and b has the header of a.
pub record IsPlanned (p : Scheme) (a b : List ℕ) : Type 0 where
  pub some : word (form_of a).order a area_head ≡ 0 → ⊥
  pub there : word (form_of a).order a area_head ≡ p.area
  pub order : p.order ≡ (form_of a).order
  pub gate : p.gate ≡ p.area + 20
  pub long : p.area_length ≡ 24 + rec_len_of (form_of a).order a p.area
  pub key_len : key_len_of (form_of a).order a p.area ≡ p.old_length
  pub data_len : data_len_of (form_of a).order a p.area ≡ content_length p.runs
  pub fits : content_length p.runs ≤ rec_len_of (form_of a).order a p.area
  pub content : HasContent (form_of a).order a p.area_length (p.area + 24) p.runs
  pub old_above : data_start (form_of a) ≤ p.old_length
  pub old_words : p.old_length % 4 ≡ 0
  pub old_within : p.old_length ≤ length b
  pub behind : (i : ℕ) → p.old_length ≤ i → i < length a → once (p.area, p.area_length) i ≡ 0 → slice_index a i ≡ 0
  pub placed : Placed (form_of a) a b p
  pub header : SameHeader a b
  pub runs : ChangedRuns a b p.old_length (p.area, p.area_length) p.runs

-- the file opened with all bytes of the plan written: those of b in the runs and from the old length on
abbrev pub settled_byte : Scheme → List ℕ → List ℕ → ℕ → ℕ
settled_byte p b img i = if nat_lt 0 (times p.runs i) || nat_le p.old_length i && nat_lt i (length b) then slice_index b i else slice_index img i

abbrev pub settled_with : Scheme → List ℕ → List ℕ → List ℕ
settled_with p b img = map (settled_byte p b img) (range_with_len 0 (length img))

-- From image a to image c just the bytes in these runs become those of image b
pub record PutRuns (b : List ℕ) (es : List Extent) (a c : List ℕ) : Type 0 where
  pub size : length c ≡ length a
  pub inside : (i : ℕ) → 1 ≤ times es i → slice_index c i ≡ slice_index b i
  pub beside : (i : ℕ) → times es i ≡ 0 → slice_index c i ≡ slice_index a i

-- from image a to image c just the bytes from one place up to another become those of image b, as far as the image
-- reaches
pub record PutRange (b : List ℕ) (from to : ℕ) (a c : List ℕ) : Type 0 where
  pub size : length c ≡ length a
  pub inside : (i : ℕ) → from ≤ i → i < to → i < length a → slice_index c i ≡ slice_index b i
  pub beside : (i : ℕ) → (i < from) ⊎ (to ≤ i) → slice_index c i ≡ slice_index a i

-- the runs written, and then what lies from the old length on, is all of the plan
abbrev pub SettledIs : Type 0
SettledIs = (p : Scheme) (b a c d : List ℕ) → PutRuns b p.runs a c → PutRange b p.old_length (length b) c d → d ≡ settled_with p b a

-- the file once all of the plan is written and the gate is shut again
abbrev pub finished : Scheme → List ℕ → List ℕ → List ℕ
finished p a b = with_gate GATE_SHUT p (settled_with p b (with_gate GATE_OPEN p a))

-- What the plan leads to. Its runs are clear of the undo area. With the gate open whatever is written reopens to the
-- map of a, and is Mild. Written whole and shut again, the file reopens to the map of b, and outside the undo area and
-- the word at 44 it is b, as far as b reaches.
pub record Fills (p : Scheme) (a b : List ℕ) : Type 0 where
  pub clear : IsClear p
  pub mild : (c : List ℕ) → Within p (with_gate GATE_OPEN p a) c → Mild c
  pub undoes : (c : List ℕ) → Within p (with_gate GATE_OPEN p a) c → Reopens a c
  pub becomes : Reopens b (finished p a b)
  pub size : length (finished p a b) ≡ length a
  pub reaches : length b ≤ length a
  pub reads : (i : ℕ) → i < length b → (i < area_head) ⊎ (area_head + 4 ≤ i) → (i < p.area) ⊎ (p.area + p.area_length ≤ i) → slice_index (finished p a b) i ≡ slice_index b i

-- a plan that is ready leads to it
abbrev pub PlanFills : Type 0
PlanFills = (p : Scheme) (a b : List ℕ) → Accept a → Accept b → IsPlanned p a b → Fills p a b
