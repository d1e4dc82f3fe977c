-- What a view of a file may still write and grow by without asking for memory.
use Rattle.std.specs.Prelude.{◌≡◌, ℕ, ◌+◌, ◌-◌, ◌/◌, ◌<◌, ◌≤◌, ◌⊎◌}

-- without bound, or so many writes, so many bytes in all, and growths up to a length
pub data Spare : Type 0 where
  without_bound : Spare
  bounded : (writes bytes reach : ℕ) → Spare

-- one write of so many bytes lies within
abbrev pub RoomFor : Spare → ℕ → Type 0
RoomFor without_bound n = Unit {0}
RoomFor (bounded writes bytes reach) n = (0 < writes) × (n ≤ bytes)

-- so many writes of so many bytes in all lie within
abbrev pub RoomForAll : Spare → ℕ → ℕ → Type 0
RoomForAll without_bound count n = Unit {0}
RoomForAll (bounded writes bytes reach) count n = (count ≤ writes) × (n ≤ bytes)

-- a growth to a length lies within
abbrev pub RoomUpTo : Spare → ℕ → Type 0
RoomUpTo without_bound to = Unit {0}
RoomUpTo (bounded writes bytes reach) to = to ≤ reach

-- what is left after a write of so many bytes
abbrev pub spent : Spare → ℕ → Spare
spent without_bound n = without_bound
spent (bounded writes bytes reach) n = bounded (writes - 1) (bytes - n) reach

-- a write that failed used its part of the room, or none of it
abbrev pub SpentUpTo : Spare → ℕ → Spare → Type 0
SpentUpTo old n new = (new ≡ old) ⊎ (new ≡ spent old n)

-- room for so many writes of so many bytes in all, and for growths by a quarter of the length, these bytes and 4096
-- more
pub record IsReady (spare : Spare) (length writes bytes : ℕ) : Type 0 where
  pub each : RoomForAll spare writes bytes
  pub reach : RoomUpTo spare (length + length / 4 + bytes + 4096)
