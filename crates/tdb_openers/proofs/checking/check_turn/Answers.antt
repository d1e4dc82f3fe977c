-- Each stage of a check takes its turn.
use Rattle.std.proofs.Common.{sym, ◌∙◌, subst, arith}
use Rattle.tdb_openers.specs.Openers.{CheckAfter}
use Rattle.tdb_openers.specs.Checked.{CheckLocks, HasKeys}
use Rattle.tdb_openers.proofs.Checks.CheckTurns.{all_table, free_table, lock_map, number_map}
use Rattle.tdb_openers.proofs.Checks.CheckTurns.{check_starves}
use Rattle.tdb_openers.proofs.checking.check_turn.Goals as goal

pub returns-in-Begun-clause-locks : goal.returns-in-Begun-clause-locks
returns-in-Begun-clause-locks g c n kept at H =
    let t = c.take_row in
    let a = c.args in
    all_table a.held.now kept a.owner n a.locks.now t.new.locks H (subst (λ k. CheckAfter k n) c.in-Begun.is at) t.result
    (subst (λ r. CheckLocks a.held.now a.owner a.locks.now t.new.locks r t.result) c.all_row.ensures t.ensures.locks)

pub returns-in-Begun-clause-map : goal.returns-in-Begun-clause-map
returns-in-Begun-clause-map g c n f img m at is keys = lock_map f img m is n c.args.held.now c.args.owner c.args.locks.now c.take_row.new.locks c.all_row.result c.take_row.result c.take_row.ensures.locks

pub returns-in-Records-clause-locks : goal.returns-in-Records-clause-locks
returns-in-Records-clause-locks g c n kept at H =
    let t = c.take_row-in-Records in
    let a = c.args in
    free_table a.held.now kept a.owner n a.locks.now t.new.locks H (subst (λ k. CheckAfter k n) c.in-Records.is at) t.result
    (subst (λ r. CheckLocks a.held.now a.owner a.locks.now t.new.locks r t.result) c.free_row.ensures t.ensures.locks)

pub returns-in-Records-clause-map : goal.returns-in-Records-clause-map
returns-in-Records-clause-map g c n f img m at is keys = lock_map f img m is n c.args.held.now c.args.owner c.args.locks.now c.take_row-in-Records.new.locks c.free_row.result c.take_row-in-Records.result c.take_row-in-Records.ensures.locks

pub returns-in-Counted-clause-map : goal.returns-in-Counted-clause-map
returns-in-Counted-clause-map g c n f img m at is keys =
    let three = subst (λ k. CheckAfter k n) c.in-Counted.is at in
    number_map f img m is n c.in-Counted.keys (omega (arith, three)) (subst (λ k. HasKeys k m) c.in-Counted.is keys)

-- memory is wanting for a lock or for the count
pub returns-in-Begun-clause-starves : goal.returns-in-Begun-clause-starves
returns-in-Begun-clause-starves g c f n at = check_starves f c.args.checking.now n _ (λ keys is. absurd (cc (sym c.in-Begun.is ∙ is))) at

pub returns-in-Records-clause-starves : goal.returns-in-Records-clause-starves
returns-in-Records-clause-starves g c f n at = check_starves f c.args.checking.now n _ (λ keys is. absurd (cc (sym c.in-Records.is ∙ is))) at

pub returns-in-Some-clause-starves : goal.returns-in-Some-clause-starves
returns-in-Some-clause-starves g c f n at = check_starves f c.args.checking.now n _ (λ keys is. absurd (cc (sym c.in-FreeList.is ∙ is))) at

pub returns-in-None-clause-starves : goal.returns-in-None-clause-starves
returns-in-None-clause-starves g c f n at = check_starves f c.args.checking.now n _ (λ keys is. absurd (cc (sym c.in-FreeList.is ∙ is))) at

pub returns-in-Counted-clause-starves : goal.returns-in-Counted-clause-starves
returns-in-Counted-clause-starves g c f n at = check_starves f c.args.checking.now n _ (λ keys is e. cc e) at
