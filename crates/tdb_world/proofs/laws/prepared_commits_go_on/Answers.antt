-- The laws of the Commit of a prepared transaction.
use Rattle.tdb_world.proofs.PreparedTurns.{commit_short, prepared_goes_on}
use Rattle.tdb_world.proofs.laws.prepared_commits_go_on.Goals as goal

pub returns : goal.returns
returns c = record { turn = prepared_goes_on; steps = commit_short }
