-- The room that writes leave.
use Rattle.std.proofs.Common.{◌≡◌, ℕ, ◌+◌, ◌≤◌, inl, inr, subst, sym, arith}
use Rattle.tdb_space.specs.Spare.{Spare, RoomFor, RoomForAll, spent, SpentUpTo}
use Rattle.tdb_space.specs.Spare.Spare.{without_bound, bounded}
use Rattle.tdb_space.specs.SpareLeft.{LeavesRoom}

-- where there is room for one write and more, there is room for the one
pub room_for : (s : Spare) (count n : ℕ) → RoomForAll s count n → 1 ≤ count → (k : ℕ) → k ≤ n → RoomFor s k
room_for without_bound count n room some k low = tt
room_for (bounded w b r) count n room some k low = (omega (arith, room.0, some), omega (arith, room.1, low))

-- where nothing was written the room is as it was
pub room_same : (s : Spare) (w b : ℕ) → LeavesRoom w b s s
room_same without_bound w b = record { each = λ _ _ _. tt; reach = λ _ _. tt }
room_same (bounded v c r) w b = record { each = λ count n room. (omega (arith, room.0), omega (arith, room.1)); reach = λ _ reach. reach }

room_less : (s : Spare) (n : ℕ) → LeavesRoom 1 n s (spent s n)
room_less without_bound n = record { each = λ _ _ _. tt; reach = λ _ _. tt }
room_less (bounded v c r) n = record { each = λ count m room. (omega (arith, room.0), omega (arith, room.1)); reach = λ _ reach. reach }

-- one write takes its bytes
pub room_spent : (s t : Spare) (n : ℕ) → t ≡ spent s n → LeavesRoom 1 n s t
room_spent s t n e = subst (LeavesRoom 1 n s) (sym e) (room_less s n)

-- and a write that failed takes them or none
pub room_tried : (s t : Spare) (n : ℕ) → SpentUpTo s n t → LeavesRoom 1 n s t
room_tried s t n (inl e) = subst (LeavesRoom 1 n s) (sym e) (room_same s 1 n)
room_tried s t n (inr e) = room_spent s t n e

-- some writes and then others
pub room_then : (s t u : Spare) (w b v c : ℕ) → LeavesRoom w b s t → LeavesRoom v c t u → LeavesRoom (w + v) (b + c) s u
room_then s t u w b v c L M = record {
  each = λ count n room. M.each count n (L.each (v + count) (c + n) (subst (λ x. RoomForAll s x (b + (c + n))) (omega arith) (subst (RoomForAll s (w + v + count)) (omega arith) room)));
  reach = λ to reach. M.reach to (L.reach to reach);
}

-- fewer writes leave more room
pub room_more : (s t : Spare) (w b v c : ℕ) → w ≤ v → b ≤ c → LeavesRoom w b s t → LeavesRoom v c s t
room_more s t w b v c fewer shorter L = record {
  each = λ count n room. L.each count n (less s (v + count) (c + n) (w + count) (b + n) (omega (arith, fewer)) (omega (arith, shorter)) room);
  reach = L.reach;
}
  where
    less : (s : Spare) (m n k l : ℕ) → k ≤ m → l ≤ n → RoomForAll s m n → RoomForAll s k l
    less without_bound m n k l p q room = tt
    less (bounded x y r) m n k l p q room = (omega (arith, room.0, p), omega (arith, room.1, q))
