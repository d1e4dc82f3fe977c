use Rattle.std.proofs.Common.{take}
use Rattle.tdb_locks.specs.Conflict.{Found}
use Rattle.tdb_locks.proofs.conflict.first_conflict.Given as goal

abbrev pub invariant-loop-piece : goal.invariant-loop-piece
invariant-loop-piece l = Found (take l.piece-index l.pieces) l.want l.first
