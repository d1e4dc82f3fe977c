-- What a read gives after a call that changes a disk.
use Rattle.std.specs.Prelude.{◌≡◌, ℕ, List, ◌⊎◌, length}
use Rattle.tdb_disk.specs.History.{Event, applied}
use Rattle.tdb_disk.specs.Image.{overlay}

-- what a read gives after a call that did this or, where it failed, maybe nothing
abbrev pub ViewTried : Event → List ℕ → List ℕ → Type 0
ViewTried event old new = (new ≡ old) ⊎ (new ≡ applied event old)

-- the same after a write that, where it failed, may have left other bytes in its range
abbrev pub ViewTriedOver : ℕ → ℕ → List ℕ → List ℕ → Type 0
ViewTriedOver at n old new = (new ≡ old) ⊎ ((bytes : List ℕ) × (length bytes ≡ n) × (new ≡ overlay old at bytes))
