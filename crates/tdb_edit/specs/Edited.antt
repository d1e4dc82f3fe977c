-- What a change of one key makes of an image.
use Rattle.std.specs.Prelude.{◌≡◌, ◌⊎◌, ℕ, Bool, true, false, List, [], Option, None, IsSome}
use Rattle.std.specs.Map.{update}
use Rattle.tdb_space.specs.Form.{Form}
use Rattle.tdb_space.specs.Pairs.{home, map_of, same_key}
use Rattle.tdb_space.specs.Extents.{HandPair}
use Rattle.tdb_space.specs.Accepted.{AcceptWith}
use Rattle.tdb_space.specs.Stays.{ChangesOnly}

-- the map of image b is that of image a
abbrev pub SameMap : Form → List ℕ → List ℕ → Type 0
SameMap f a b = (k : List ℕ) → map_of f b k ≡ map_of f a k

-- it is that of image a but at one key, where it has this value, or none
abbrev pub MapSet : Form → List ℕ → List ℕ → List ℕ → Option (List ℕ) → Type 0
MapSet f a b key value = (k : List ℕ) → map_of f b k ≡ update same_key (map_of f a) key value k

-- A change of a key, done or broken off, leaves all but the key's own chain: image b isn't shorter than image a, and
-- each byte of the header stays but for the sequence number, of the undo area and of every other chain. So at most the
-- key's chain changed, the free list, their heads, and bytes that no record holds.
abbrev pub OnlyKeyChanges : Form → List ℕ → List ℕ → List ℕ → Type 0
OnlyKeyChanges f a b key = ChangesOnly f a b (λ k. k ≡ home f key)

-- A key was changed: image b is accepted, and its map is that of image a but at the key. No other chain changed.
pub record KeyChanged (f : Form) (a b key : List ℕ) (value : Option (List ℕ)) : Type 0 where
  pub accepted : AcceptWith f b []
  pub map : MapSet f a b key value
  pub only : OnlyKeyChanges f a b key

-- A failed call broke a change of a key off: image b is accepted but for records that stand in no list, and its map is
-- that of image a, or that with the change. No other chain changed.
pub record BrokenOff (f : Form) (a b key : List ℕ) (value : Option (List ℕ)) : Type 0 where
  pub out : List HandPair
  pub accepted : AcceptWith f b out
  pub map : SameMap f a b ⊎ MapSet f a b key value
  pub only : OnlyKeyChanges f a b key

-- a key was deleted that was there; or it wasn't there, and nothing was changed
abbrev pub Deleted : Form → List ℕ → List ℕ → List ℕ → Bool → Type 0
Deleted f a b key true = IsSome (map_of f a key) × KeyChanged f a b key None
Deleted f a b key false = (map_of f a key ≡ None) × (b ≡ a)
