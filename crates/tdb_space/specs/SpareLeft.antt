-- What some writes leave of the room of a view.
use Rattle.std.specs.Prelude.{ℕ, ◌+◌}
use Rattle.tdb_space.specs.Spare.{Spare, RoomForAll, RoomUpTo}

-- at most so many writes of so many bytes in all were taken from the room: what there was room for besides, there still
-- is
pub record LeavesRoom (writes bytes : ℕ) (old new : Spare) : Type 0 where
  pub each : (count n : ℕ) → RoomForAll old (writes + count) (bytes + n) → RoomForAll new count n
  pub reach : (to : ℕ) → RoomUpTo old to → RoomUpTo new to
