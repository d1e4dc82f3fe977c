use Rattle.std.proofs.Common.{rules, sym}
use Rattle.tdb_locks.proofs.Finding.{kind_of-end, kind_of-none, kind_of-some}
use Rattle.tdb_locks.proofs.search.kind_at.Goals as goal

pub returns-in-Some : goal.returns-in-Some
returns-in-Some c = sym (kind_of-some _ _ _ _ c.requires c.first_past.ensures c.in-Some.piece.now (search rules) (search rules) c.if-piece-owner.true c.if-piece-byte.true)

pub returns-in_default : goal.returns-in_default
returns-in_default c = sym (kind_of-none _ _ _ _ c.requires c.first_past.ensures c.in-Some.piece.now (search rules) (search rules) (λ _. c.if-piece-byte.false))

pub returns-in_default-2 : goal.returns-in_default-2
returns-in_default-2 c = sym (kind_of-none _ _ _ _ c.requires c.first_past.ensures c.in-Some.piece.now (search rules) (search rules) (λ same. absurd (c.if-piece-owner.false same)))

pub returns-in_default-3 : goal.returns-in_default-3
returns-in_default-3 c = sym (kind_of-end _ _ _ _ c.requires c.first_past.ensures (search rules))
