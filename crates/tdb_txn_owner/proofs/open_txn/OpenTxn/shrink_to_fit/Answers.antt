-- The pages stay, and so does all else.
use Rattle.std.proofs.Common.{refl}
use Rattle.tdb_txn_owner.proofs.open_txn.OpenTxn.shrink_to_fit.Goals as goal

pub returns-clause-room : goal.returns-clause-room
returns-clause-room c = record { txn = c.shrink_to_fit.ensures.same; changed = refl; numbered = refl; held = refl; walk = refl }
