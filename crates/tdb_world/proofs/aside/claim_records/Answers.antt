-- The lock of all records was taken, so no other opener's was in the way.
use Rattle.std.proofs.Common.{sym, subst}
use Rattle.tdb_txn_owner.specs.declared.wanting.Wants.{Wants}
use Rattle.tdb_world.specs.Claims.{Claimed}
use Rattle.tdb_world.proofs.aside.claim_records.Goals as goal

pub returns-in-Ok-clause-taken : goal.returns-in-Ok-clause-taken
returns-in-Ok-clause-taken c = λ e x N.
    subst (λ (w : Wants). Claimed c.args.openers.now c.args.who x w c.lock_records.new.self) (sym c.in-Records.is) (c.in-Ok.ensures.taken x N, c.in-Ok.ensures.free)
