-- Runs of writes: which places they reach, what a stop may leave of them, and what they put there.
use Rattle.std.specs.Prelude.{◌≡◌, ℕ, Bool, true, false, List, length, slice_index}
use Rattle.tdb_disk.specs.History.{History}
use Rattle.tdb_disk.specs.Stop.{Leaves}

-- an image is another one but for bytes at some places
pub record TornAt (places : ℕ → Bool) (old new : List ℕ) : Type 0 where
  pub size : length new ≡ length old
  pub others : (i : ℕ) → places i ≡ false → slice_index new i ≡ slice_index old i

-- what a stop may leave once bytes at some places were written since a history: those of an image that it might have
-- left before, and at these places any
abbrev pub TornIn : (ℕ → Bool) → History → List ℕ → Type 0
TornIn places h image = (from : List ℕ) × Leaves h from × TornAt places from image

-- one image is another with just these bytes at some places
pub record Put (places : ℕ → Bool) (byte : ℕ → ℕ) (old new : List ℕ) : Type 0 where
  pub size : length new ≡ length old
  pub others : (i : ℕ) → places i ≡ false → slice_index new i ≡ slice_index old i
  pub inside : (i : ℕ) → places i ≡ true → slice_index new i ≡ byte i
