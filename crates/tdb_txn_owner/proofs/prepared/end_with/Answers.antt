-- Where nothing is to be undone the disk is quiet.
use Rattle.std.proofs.Common.{subst}
use Rattle.tdb_txn_turns.proofs.Carried.{rests_stops}
use Rattle.tdb_txn_owner.specs.Stages.{KnowsPrepared}
use Rattle.tdb_txn_owner.proofs.prepared.end_with.Goals as goal

pub returns-in-Nothing-clause-stops : goal.returns-in-Nothing-clause-stops
returns-in-Nothing-clause-stops g c told r b K =
    let h = g.D.Disk.history c.args.d.now in
    rests_stops h r (subst (λ left. KnowsPrepared left h r b) c.in-Nothing.is K)
