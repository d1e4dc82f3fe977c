-- The laws of how often a Commit syncs.
use Rattle.tdb_world.proofs.Seldom.{commits_exactly, commits_seldom}
use Rattle.tdb_world.proofs.laws.commits_sync_seldom.Goals as goal

pub returns : goal.returns
returns c = record { seldom = commits_seldom; exactly = commits_exactly }
