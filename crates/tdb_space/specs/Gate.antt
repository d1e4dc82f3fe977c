-- The undo area of an accepted image: what may be written into it, and what opening its gate asks for.
use Rattle.std.specs.Prelude.{◌≡◌, ℕ, ◌+◌, ◌-◌, ◌%◌, ◌<◌, ◌≤◌, ◌⊎◌, Some, List, [], length, slice_index}
use Rattle.tdb_disk.specs.Image.{overlay}
use Rattle.tdb_words.specs.declared.record.TheConstants.{GATE_OPEN, GATE_SHUT}
use Rattle.tdb_words.specs.Word.{word, bytes_of_word}
use Rattle.tdb_words.specs.Header.{area_head}
use Rattle.tdb_space.specs.Form.{Form, form_of}
use Rattle.tdb_space.specs.Record.{rec_len_of, magic_of}
use Rattle.tdb_space.specs.Chain.{chain_of, free_of}
use Rattle.tdb_space.specs.Pairs.{joined}
use Rattle.tdb_space.specs.Extents.{times, extents}
use Rattle.tdb_space.specs.Accepted.{AcceptWith, Accept}
use Rattle.tdb_space.specs.Opening.{Entry, entries, Undoable, last_covering, Mild}
use Rattle.tdb_space.specs.Moved.{StaysAccepted}
use Rattle.tdb_space.specs.Undoing.{area_at, area_end, old_size, Reopens}

-- the image with this word as the gate of its undo area
abbrev pub with_gate_word : ℕ → Form → List ℕ → List ℕ
with_gate_word w f a = overlay a (area_at f a + 20) (bytes_of_word f.order w)

-- the image with its gate open
abbrev pub gate_opened : Form → List ℕ → List ℕ
gate_opened f a = with_gate_word GATE_OPEN f a

-- the image with its gate shut
abbrev pub gate_shut : Form → List ℕ → List ℕ
gate_shut f a = with_gate_word GATE_SHUT f a

-- From image a to image b only the undo area changes, but neither its length nor its gate, which is shut
pub record InContent (f : Form) (a b : List ℕ) : Type 0 where
  pub some : word f.order a area_head ≡ 0 → ⊥
  pub size : length b ≡ length a
  pub others : (i : ℕ) → (i < area_at f a) ⊎ (area_end f a ≤ i) → slice_index b i ≡ slice_index a i
  pub rec_len : rec_len_of f.order b (area_at f a) ≡ rec_len_of f.order a (area_at f a)
  pub shut : magic_of f.order b (area_at f a) ≡ GATE_SHUT

-- what stands in an undo area whose gate is shut counts for nothing: the image stays accepted, with the same lists and
-- the same map
abbrev pub ContentIsFree : Type 0
ContentIsFree = (f : Form) (a b : List ℕ) → AcceptWith f a [] → InContent f a b → StaysAccepted f a b

-- The gate of an image may be opened: it can be undone then, what its entries give back is what stands there, the old
-- length is a whole number of words, and no record of a chain or of the free list reaches past it.
pub record IsReadyToOpen (f : Form) (a : List ℕ) : Type 0 where
  pub undoable : Undoable f (gate_opened f a)
  pub holds : (i : ℕ) (e : Entry) → last_covering (entries f (gate_opened f a)) i ≡ Some e → slice_index e.olds (i - e.off) ≡ slice_index a i
  pub words : old_size f a % 4 ≡ 0
  pub low : (i : ℕ) → 1 ≤ times (joined f.chains (λ k. extents f.order a (chain_of f a k))) i + times (extents f.order a (free_of f a)) i → i < old_size f a

-- an accepted image that is ready reopens with its gate open, to the map that it holds, and can be recovered again and
-- again
abbrev pub OpenGateKeepsMap : Type 0
OpenGateKeepsMap = (a : List ℕ) → Accept a → IsReadyToOpen (form_of a) a → Mild (gate_opened (form_of a) a) × Reopens a (gate_opened (form_of a) a)
