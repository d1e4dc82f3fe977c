-- A commit that needs another undo area: the file grows by zeros, the old area is emptied and given up, and a new one
-- is set.
use Rattle.std.specs.Prelude.{◌≡◌, ℕ, ◌+◌, ◌%◌, ◌<◌, ◌≤◌, ◌⊎◌, List, [], ◌∷◌, length, slice_index}
use Rattle.tdb_words.specs.declared.record.TheConstants.{GATE_SHUT}
use Rattle.tdb_words.specs.Word.{word}
use Rattle.tdb_words.specs.Header.{area_head}
use Rattle.tdb_space.specs.Form.{Form, data_start}
use Rattle.tdb_space.specs.Record.{rec_len_of, magic_of}
use Rattle.tdb_space.specs.Chain.{chain_of, free_of}
use Rattle.tdb_space.specs.Pairs.{joined, order_of, map_of}
use Rattle.tdb_space.specs.Extents.{HandPair, times, extents, area}
use Rattle.tdb_space.specs.Accepted.{AcceptWith}
use Rattle.tdb_space.specs.Moved.{StaysAccepted}
use Rattle.tdb_space.specs.Undoing.{area_at, area_end}
use Rattle.tdb_disk.specs.Stop.{Grown}

-- image c is image a with zeros behind its end, in whole words
pub record Longer (a c : List ℕ) : Type 0 where
  pub longer : length a ≤ length c
  pub sized : length c % 4 ≡ 0
  pub front : (i : ℕ) → i < length a → slice_index c i ≡ slice_index a i
  pub zeros : (i : ℕ) → length a ≤ i → i < length c → slice_index c i ≡ 0

-- From image a to image b the undo area is set at x, with room for n bytes and its gate shut. Only the word at 44 and
-- bytes of that area change; no record reaches into it; and what the undo area of a held outside it is 0. It may be the
-- same area with another length, or the first one.
pub record AreaSet (f : Form) (a b : List ℕ) (x n : ℕ) : Type 0 where
  pub size : length b ≡ length a
  pub there : word f.order b area_head ≡ x
  pub rec_len : rec_len_of f.order b x ≡ n
  pub shut : magic_of f.order b x ≡ GATE_SHUT
  pub aligned : x % 4 ≡ 0
  pub len_aligned : n % 4 ≡ 0
  pub above : data_start f ≤ x
  pub within : x + 24 + n ≤ length a
  pub beside : (i : ℕ) → (i < area_head) ⊎ (area_head + 4 ≤ i) → (i < x) ⊎ (x + 24 + n ≤ i) → slice_index b i ≡ slice_index a i
  pub left : (i : ℕ) → 1 ≤ times (area f.order a) i → (i < x) ⊎ (x + 24 + n ≤ i) → slice_index a i ≡ 0
  pub apart : (i : ℕ) → x ≤ i → i < x + 24 + n → times (joined f.chains (λ k. extents f.order a (chain_of f a k))) i + times (extents f.order a (free_of f a)) i ≡ 0

-- From image a to image b the undo area, of which all is 0, is given up: the word at 44 is 0, and nothing else changes
pub record AreaDropped (f : Form) (a b : List ℕ) : Type 0 where
  pub size : length b ≡ length a
  pub none : word f.order b area_head ≡ 0
  pub beside : (i : ℕ) → (i < area_head) ⊎ (area_head + 4 ≤ i) → slice_index b i ≡ slice_index a i
  pub left : (i : ℕ) → 1 ≤ times (area f.order a) i → slice_index a i ≡ 0

-- From image a to image b the undo area at an offset, with room for n bytes, becomes a hand: the word at 44 is 0, the
-- bytes of the area may be any, and nothing else changes
pub record GivenUp (f : Form) (a b : List ℕ) (at n : ℕ) : Type 0 where
  pub some : word f.order a area_head ≡ 0 → ⊥
  pub there : word f.order a area_head ≡ at
  pub rec_len : rec_len_of f.order a at ≡ n
  pub size : length b ≡ length a
  pub none : word f.order b area_head ≡ 0
  pub beside : (i : ℕ) → (i < area_head) ⊎ (area_head + 4 ≤ i) → (i < at) ⊎ (at + 24 + n ≤ i) → slice_index b i ≡ slice_index a i

-- all bytes of the undo area behind its header are 0
abbrev pub BareArea : Form → List ℕ → Type 0
BareArea f a = (i : ℕ) → area_at f a + 24 ≤ i → i < area_end f a → slice_index a i ≡ 0

-- From image a to image b only words of the undo area's header change, but not its gate; its length stays or is 0
pub record HeaderOnly (f : Form) (a b : List ℕ) : Type 0 where
  pub some : word f.order a area_head ≡ 0 → ⊥
  pub size : length b ≡ length a
  pub others : (i : ℕ) → (i < area_at f a) ⊎ (area_at f a + 20 ≤ i) → slice_index b i ≡ slice_index a i
  pub len : (rec_len_of f.order b (area_at f a) ≡ rec_len_of f.order a (area_at f a)) ⊎ (rec_len_of f.order b (area_at f a) ≡ 0)

-- an image is accepted with this hand out, and has the same order of pairs and the same map as another
pub record HoldsHand (f : Form) (a b : List ℕ) (hand : HandPair) : Type 0 where
  pub accepted : AcceptWith f b (hand ∷ [])
  pub same_order : order_of f b ≡ order_of f a
  pub same_map : (key : List ℕ) → map_of f b key ≡ map_of f a key

-- an image that grows by zeros stays accepted
abbrev pub LongerStays : Type 0
LongerStays = (f : Form) (a c : List ℕ) → AcceptWith f a [] → Longer a c → StaysAccepted f a c

-- what a stop of a growth of an accepted file leaves is the file with zeros behind it, where both lengths are whole
-- words
abbrev pub GrownIsLonger : Type 0
GrownIsLonger = (a c : List ℕ) (to : ℕ) → length a % 4 ≡ 0 → to % 4 ≡ 0 → Grown (length a) to a c → Longer a c

-- where the content is 0, an image whose undo area has another header stays accepted: so its words may be set to 0 in
-- any order
abbrev pub BareHeaderStays : Type 0
BareHeaderStays = (f : Form) (a b : List ℕ) → AcceptWith f a [] → BareArea f a → HeaderOnly f a b → StaysAccepted f a b

-- so does one whose undo area is set anew
abbrev pub AreaSetStays : Type 0
AreaSetStays = (f : Form) (a b : List ℕ) (x n : ℕ) → AcceptWith f a [] → AreaSet f a b x n → StaysAccepted f a b

-- or dropped
abbrev pub AreaDroppedStays : Type 0
AreaDroppedStays = (f : Form) (a b : List ℕ) → AcceptWith f a [] → AreaDropped f a b → StaysAccepted f a b

-- an undo area that is given up is a hand
abbrev pub AreaIsHand : Type 0
AreaIsHand = (f : Form) (a b : List ℕ) (at n : ℕ) → AcceptWith f a [] → GivenUp f a b at n → HoldsHand f a b (at, n)
