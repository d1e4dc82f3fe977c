-- What the pairs that can be read have to do with records and with the pairs of an accepted file.
use Rattle.std.specs.Prelude.{◌≡◌, ◌↔◌, ℕ, List, Contains}
use Rattle.tdb_words.specs.declared.record.TheConstants.{USED}
use Rattle.tdb_words.specs.Hash.{h_of}
use Rattle.tdb_space.specs.Form.{Form}
use Rattle.tdb_space.specs.Record.{Whole, Fits, key_at, data_at, full_hash_of, magic_of}
use Rattle.tdb_space.specs.Pairs.{order_of}
use Rattle.tdb_space.specs.Extents.{HandPair}
use Rattle.tdb_space.specs.Accepted.{AcceptWith}
use Rattle.tdb_rescue.specs.Rescued.{rescued}

-- a used record stands whole at an offset, and holds this key and this value, the key with its hash
pub record Stands (f : Form) (img : List ℕ) (at : ℕ) (key value : List ℕ) : Type 0 where
  pub whole : Whole f img at
  pub used : magic_of f.order img at ≡ USED
  pub fits : Fits f.order img at
  pub hashed : full_hash_of f.order img at ≡ h_of f.hash (key_at f.order img at)
  pub holds_key : key ≡ key_at f.order img at
  pub holds_value : value ≡ data_at f.order img at

-- a place, a key and a value are rescued exactly where a used record stands so
abbrev pub RescuedStand : Type 0
RescuedStand = (f : Form) (img : List ℕ) (at : ℕ) (key value : List ℕ) → Contains (rescued f img) (at, key, value) ↔ Stands f img at key value

-- each pair of an accepted image is rescued, at some place
abbrev pub AcceptedRescued : Type 0
AcceptedRescued = (f : Form) (img : List ℕ) (hands : List HandPair) (key value : List ℕ) → AcceptWith f img hands → Contains (order_of f img) (key, value)
    → (at : ℕ) × Contains (rescued f img) (at, key, value)
