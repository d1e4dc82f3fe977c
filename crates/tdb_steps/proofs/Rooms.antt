-- Less room is needed for fewer writes of fewer bytes.
use Rattle.std.proofs.Common.{ℕ, ◌≤◌, arith}
use Rattle.tdb_space.specs.Spare.{Spare, RoomForAll}
use Rattle.tdb_space.specs.Spare.Spare.{without_bound, bounded}

pub room_fewer : (s : Spare) (m n k l : ℕ) → k ≤ m → l ≤ n → RoomForAll s m n → RoomForAll s k l
room_fewer without_bound m n k l fewer shorter room = tt
room_fewer (bounded w b reach) m n k l fewer shorter room = (omega (arith, room.0, fewer), omega (arith, room.1, shorter))
