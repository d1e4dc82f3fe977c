-- A byte before which its owner holds nothing isn't part of a longer piece, so no memory is asked for.
use Rattle.std.proofs.Common.{◌≡◌, arith, subst, None}
use Rattle.tdb_locks.specs.LockTable.{held}
use Rattle.tdb_steps.proofs.Holdings.{stands_whole}
use Rattle.tdb_openers.proofs.numbering.let_go_of_number.Goals as goal

pub unreachable-requires : goal.unreachable-requires
unreachable-requires c =
    let inside = c.in-Err.ensures.memory in
    stands_whole c.args.locks.now c.args.owner 48 49 inside.1 (omega arith) (λ b next. let e : 47 ≡ b = omega (arith, next) in subst (λ z. held c.args.locks.now c.args.owner z ≡ None) e c.requires.alone) inside.2
