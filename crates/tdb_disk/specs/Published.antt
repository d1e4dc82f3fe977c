-- A file of twelve bytes or more whose first word says whether the two words behind it count.
use Rattle.std.specs.Prelude.{◌≡◌, ℕ, ◌==◌, List, Option, Some, None, ◌⊎◌, take, drop, slice_index, if◌then◌else◌}

-- what an image publishes: nothing where its first byte is 0, else the eight bytes behind its first word
abbrev pub published : List ℕ → Option (List ℕ)
published image = if slice_index image 0 == 0 then None else Some (take 8 (drop 4 image))

-- an image publishes nothing, or these bytes
abbrev pub NothingOr : List ℕ → List ℕ → Type 0
NothingOr bytes image = (published image ≡ None) ⊎ (published image ≡ Some bytes)
