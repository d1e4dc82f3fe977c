-- The number and the lock table stay.
use Rattle.std.proofs.Common.{refl}
use Rattle.tdb_txn_owner.proofs.txn_owner.TxnOwner.shrink_to_fit.Goals as goal

pub returns-clause-room : goal.returns-clause-room
returns-clause-room c = rw (← c.self.view_is) (record { owner = refl; locks = refl; stage = c.shrink_to_fit.ensures.room })
