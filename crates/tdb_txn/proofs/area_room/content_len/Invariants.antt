-- The runs before one were counted.
use Rattle.std.proofs.Common.{◌≡◌, ◌-◌, ◌^◌, min, take}
use Rattle.tdb_space.specs.Planned.{content_length}
use Rattle.tdb_txn.proofs.area_room.content_len.Given as goal

abbrev pub invariant-loop-i : goal.invariant-loop-i
invariant-loop-i l = record {
  len : l.len ≡ min (content_length (take l.i l.runs)) (2 ^ 64 - 1);
}
