use Rattle.tdb_locks.proofs.Cutting.{IsCut-made}
use Rattle.tdb_locks.proofs.cut.Cut.of_range.Goals as goal

pub returns : goal.returns
returns c =
    IsCut-made _ _ _ _ _ _ c.requires.table c.requires.range c.first_past-from.ensures c.first_from-to.ensures _ _
    c.left_part.ensures.left c.left_part.ensures.some c.right_part.ensures.right c.right_part.ensures.some
