use Rattle.std.proofs.Common.{◌∙◌, sym}
use Rattle.std.proofs.lemmas.List.{take_all}
use Rattle.tdb_locks.proofs.Clashing.{Found-more_clash, Found-more_skip, first-found}
use Rattle.tdb_locks.proofs.conflict.first_conflict.Goals as goal
use Rattle.tdb_locks.proofs.conflict.first_conflict.Goals.{then-clashes, else-clashes}

pub loop-piece-preserved : goal.loop-piece-preserved
loop-piece-preserved c = elim c.if-clashes.branch [
  | then-clashes w ↦ Found-more_clash _ _ _ _ _ _ c.requires.table c.loop-piece-test.true c.loop-piece.invariant (sym c.clashes.ensures ∙ w.if-clashes.true) (w.first-is ∙ w.soonest-first.ensures)
  | else-clashes w ↦ Found-more_skip _ _ _ _ _ _ c.requires.table c.loop-piece-test.true c.loop-piece.invariant (sym c.clashes.ensures ∙ w.if-clashes.false) w.first-is
]

pub returns : goal.returns
returns c = first-found _ _ c.requires.table c.requires.range _ (rw (take_all c.loop-piece.piece-index c.args.pieces.now c.loop-piece-test.false) at c.loop-piece.invariant)
