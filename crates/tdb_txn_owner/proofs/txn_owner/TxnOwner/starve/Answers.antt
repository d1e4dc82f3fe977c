-- The command ends for want of memory.
use Rattle.std.proofs.Common.{[]}
use Rattle.tdb_txn_owner.proofs.HolderTurns.{stage_starved}
use Rattle.tdb_txn_owner.proofs.txn_owner.TxnOwner.starve.Goals as goal

pub returns-clause-turned : goal.returns-clause-turned
returns-clause-turned c f o table h k past s t S K has M =
    let v = c.args.self in
    record { locks = []; left = tt; turned = stage_starved f o table v.owner v.locks h k past s v.stage t c.requires S K has M }
