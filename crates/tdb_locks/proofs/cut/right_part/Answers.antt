use Rattle.std.proofs.Common.{rules}
use Rattle.tdb_locks.proofs.Splitting.{right-end, right-none, right-some}
use Rattle.tdb_locks.proofs.cut.right_part.Goals as goal

pub returns-in-Some-clause-right : goal.returns-in-Some-clause-right
returns-in-Some-clause-right c = right-some _ _ _ _ c.requires.table c.in-Some.piece.now c.requires.split (search rules) (search rules) c.if-piece-owner.true c.if-byte-piece.true

pub returns-in_default-clause-right : goal.returns-in_default-clause-right
returns-in_default-clause-right c = right-none _ _ _ _ c.requires.table c.in-Some.piece.now c.requires.split (search rules) (search rules) (λ _. c.if-byte-piece.false)

pub returns-in_default-2-clause-right : goal.returns-in_default-2-clause-right
returns-in_default-2-clause-right c = right-none _ _ _ _ c.requires.table c.in-Some.piece.now c.requires.split (search rules) (search rules) (λ same. absurd (c.if-piece-owner.false same))

pub returns-in_default-3-clause-right : goal.returns-in_default-3-clause-right
returns-in_default-3-clause-right c = right-end _ _ _ _ c.requires.table c.requires.split (search rules)
