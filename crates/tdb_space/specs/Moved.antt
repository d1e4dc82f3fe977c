-- An image whose undo area or length becomes another, and which holds the same pairs.
use Rattle.std.specs.Prelude.{◌≡◌, ℕ, ◌+◌, ◌%◌, ◌<◌, ◌≤◌, ◌⊎◌, List, [], length, slice_index}
use Rattle.tdb_space.specs.Form.{Form, data_start}
use Rattle.tdb_space.specs.Chain.{chain_of, free_of}
use Rattle.tdb_space.specs.Pairs.{joined, order_of, map_of}
use Rattle.tdb_space.specs.Extents.{times, extents, area}
use Rattle.tdb_space.specs.Accepted.{AreaOk, Shut, AcceptWith}
use Rattle.tdb_words.specs.Header.{area_head, sequence_at}

-- From image a to image b the length and the undo area may become others. Below the records only the words at 44 and 48
-- may change. The records of all lists stay, byte for byte, and lie within b. The undo area of b is in place, shut, and
-- holds no byte of theirs. Each other byte of b was held by nothing in a and stays, or is 0. So b may be longer than a
-- by zeros, or shorter.
pub record AreaMoved (f : Form) (a b : List ℕ) : Type 0 where
  pub sized : length b % 4 ≡ 0
  pub long : data_start f ≤ length b
  pub low : (i : ℕ) → i < data_start f → (i < area_head) ⊎ (sequence_at + 4 ≤ i) → slice_index b i ≡ slice_index a i
  pub chains : (k : ℕ) → k < f.chains → (i : ℕ) → 1 ≤ times (extents f.order a (chain_of f a k)) i → (i < length b) × (slice_index b i ≡ slice_index a i)
  pub frees : (i : ℕ) → 1 ≤ times (extents f.order a (free_of f a)) i → (i < length b) × (slice_index b i ≡ slice_index a i)
  pub area_ok : AreaOk f b
  pub shut : Shut f b
  pub apart : (i : ℕ) → 1 ≤ times (area f.order b) i → times (joined f.chains (λ k. extents f.order a (chain_of f a k))) i + times (extents f.order a (free_of f a)) i ≡ 0
  pub others : (i : ℕ) → data_start f ≤ i → i < length b → times (area f.order b) i ≡ 0 → ((times (area f.order a) i ≡ 0) × (slice_index b i ≡ slice_index a i)) ⊎ (slice_index b i ≡ 0)

-- what stays where the undo area or the length becomes another: the image is accepted, has the same lists, and holds
-- the same pairs
pub record StaysAccepted (f : Form) (a b : List ℕ) : Type 0 where
  pub accepted : AcceptWith f b []
  pub same_chains : (k : ℕ) → k < f.chains → chain_of f b k ≡ chain_of f a k
  pub same_free : free_of f b ≡ free_of f a
  pub same_order : order_of f b ≡ order_of f a
  pub same_map : (key : List ℕ) → map_of f b key ≡ map_of f a key

-- and so on, through more than one change
abbrev pub StaysThen : Type 0
StaysThen = (f : Form) (a b c : List ℕ) → StaysAccepted f a b → StaysAccepted f b c → StaysAccepted f a c

-- an accepted image of which the undo area or the length becomes another stays accepted
abbrev pub MovedStays : Type 0
MovedStays = (f : Form) (a b : List ℕ) → AcceptWith f a [] → AreaMoved f a b → StaysAccepted f a b
