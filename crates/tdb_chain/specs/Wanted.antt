-- The test of one record on the way along a chain.
use Rattle.std.specs.Prelude.{◌≡◌, ℕ, ◌+◌, List, length, take, drop}
use Rattle.tdb_words.specs.declared.record.Rec.{Rec}
use Rattle.tdb_words.specs.declared.record.TheConstants.{USED}

-- by its header the record at an offset is a used one with this hash and a key of this length, and behind the header
-- stands the key
pub record IsWanted (r : Rec) (hash : ℕ) (img : List ℕ) (at : ℕ) (key : List ℕ) : Type 0 where
  pub used : r.magic ≡ USED
  pub hashed : r.full_hash ≡ hash
  pub as_long : r.key_len ≡ length key
  pub there : take (length key) (drop (at + 24) img) ≡ key
