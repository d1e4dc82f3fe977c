-- A byte before which nothing is held isn't part of a longer piece, so no memory is asked for.
use Rattle.std.proofs.Common.{◌+◌, arith}
use Rattle.tdb_walk.proofs.Bytes.{stands_whole}
use Rattle.tdb_walk.proofs.locking.let_go_byte.Goals as goal

pub unreachable-requires : goal.unreachable-requires
unreachable-requires c =
    let inside = c.in-Err.ensures.memory in
    stands_whole c.args.locks.now c.args.owner c.args.byte (c.args.byte + 1) inside.1 (omega arith) (c.requires.alone c.if-covered.false) inside.2
