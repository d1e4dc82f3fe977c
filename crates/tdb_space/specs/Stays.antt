-- What a change of an image leaves to others: which chains it may have changed, and that all else by which somebody may
-- know the file stays.
use Rattle.std.specs.Prelude.{◌≡◌, ℕ, ◌+◌, ◌<◌, ◌≤◌, ◌⊎◌, List, length, slice_index}
use Rattle.tdb_words.specs.Word.{word}
use Rattle.tdb_words.specs.Header.{sequence_at}
use Rattle.tdb_space.specs.Form.{Form, chain_head, free_head}
use Rattle.tdb_space.specs.Chain.{chain_of, free_of}
use Rattle.tdb_space.specs.Pairs.{map_of}
use Rattle.tdb_space.specs.Extents.{Extent, HandPair, times, extents, area}
use Rattle.tdb_space.specs.Accepted.{AcceptWith}

-- from image a to image b no byte changes that none of these extents holds
abbrev pub OnlyIn : List Extent → List ℕ → List ℕ → Type 0
OnlyIn extents a b = (i : ℕ) → times extents i ≡ 0 → slice_index b i ≡ slice_index a i

-- From image a to image b chain k stays: its head, its offsets, and each byte of its records
pub record ChainStays (f : Form) (a b : List ℕ) (k : ℕ) : Type 0 where
  pub head : word f.order b (chain_head k) ≡ word f.order a (chain_head k)
  pub same_offsets : chain_of f b k ≡ chain_of f a k
  pub bytes : (i : ℕ) → 1 ≤ times (extents f.order a (chain_of f a k)) i → slice_index b i ≡ slice_index a i

-- from image a to image b the free list stays, in the same way
pub record FreeStays (f : Form) (a b : List ℕ) : Type 0 where
  pub head : word f.order b free_head ≡ word f.order a free_head
  pub same_offsets : free_of f b ≡ free_of f a
  pub bytes : (i : ℕ) → 1 ≤ times (extents f.order a (free_of f a)) i → slice_index b i ≡ slice_index a i

-- From image a to image b the file doesn't become shorter. The header stays, but for the sequence number, the word at
-- 48, and each byte of the undo area stays.
pub record FrontStays (f : Form) (a b : List ℕ) : Type 0 where
  pub longer : length a ≤ length b
  pub low : (i : ℕ) → i < free_head → (i < sequence_at) ⊎ (sequence_at + 4 ≤ i) → slice_index b i ≡ slice_index a i
  pub undo_area : (i : ℕ) → 1 ≤ times (area f.order a) i → slice_index b i ≡ slice_index a i

-- from image a to image b only these chains may have changed: the front and every other chain stay
pub record ChangesOnly (f : Form) (a b : List ℕ) (May : ℕ → Type 0) : Type 0 where
  pub front : FrontStays f a b
  pub chains : (k : ℕ) → k < f.chains → (May k → ⊥) → ChainStays f a b k

-- From image a to image b no chain changes, and the map stays; b is accepted with these hands out. So it is where a
-- record goes from the free list to a hand or back, where the file grows, and where the sequence number is raised.
pub record ChainsStay (f : Form) (a b : List ℕ) (hands : List HandPair) : Type 0 where
  pub accepted : AcceptWith f b hands
  pub map : (key : List ℕ) → map_of f b key ≡ map_of f a key
  pub only : ChangesOnly f a b (λ k. ⊥)
