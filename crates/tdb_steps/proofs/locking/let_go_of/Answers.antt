-- A region before which its opener holds nothing isn't part of a longer piece, so no memory is asked for.
use Rattle.std.proofs.Common.{◌≡◌, false, sym, ◌∙◌, subst}
use Rattle.tdb_locks.specs.LockTable.{IsInsidePiece, stop}
use Rattle.tdb_steps.specs.LockRows.{start_of, end_of, is_covered}
use Rattle.tdb_steps.proofs.Holdings.{stands_whole, region_some}
use Rattle.tdb_steps.proofs.locking.let_go_of.Goals as goal

pub unreachable-requires : goal.unreachable-requires
unreachable-requires c =
    let inside = c.in-Err.ensures.memory in
    let r = c.args.row.region in
    let bare : is_covered c.args.held.now c.args.row ≡ false = sym c.covers.ensures ∙ c.if-covers.false in
    let at : IsInsidePiece c.args.locks.now c.args.owner (start_of r) (end_of r) inside.1 =
    subst (λ e. IsInsidePiece c.args.locks.now c.args.owner (start_of r) e inside.1) c.len.ensures.reaches
    (subst (λ s. IsInsidePiece c.args.locks.now c.args.owner s (stop s c.len.result) inside.1) c.start.ensures inside.2) in
    stands_whole c.args.locks.now c.args.owner (start_of r) (end_of r) inside.1 (region_some r) (c.requires.alone bare) at
