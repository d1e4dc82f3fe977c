use Rattle.std.proofs.Common.{rules}
use Rattle.tdb_locks.proofs.Splitting.{left-end, left-none, left-some}
use Rattle.tdb_locks.proofs.cut.left_part.Goals as goal

pub returns-in-Some-clause-left : goal.returns-in-Some-clause-left
returns-in-Some-clause-left c = left-some _ _ _ _ c.requires.table c.in-Some.piece.now c.requires.split (search rules) (search rules) c.if-piece-owner.true c.if-piece-byte.true

pub returns-in_default-clause-left : goal.returns-in_default-clause-left
returns-in_default-clause-left c = left-none _ _ _ _ c.requires.table c.in-Some.piece.now c.requires.split (search rules) (search rules) (λ _. c.if-piece-byte.false)

pub returns-in_default-2-clause-left : goal.returns-in_default-2-clause-left
returns-in_default-2-clause-left c = left-none _ _ _ _ c.requires.table c.in-Some.piece.now c.requires.split (search rules) (search rules) (λ same. absurd (c.if-piece-owner.false same))

pub returns-in_default-3-clause-left : goal.returns-in_default-3-clause-left
returns-in_default-3-clause-left c = left-end _ _ _ _ c.requires.table c.requires.split (search rules)
