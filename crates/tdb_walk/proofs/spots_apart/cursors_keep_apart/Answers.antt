-- The laws by which cursors keep off records.
use Rattle.tdb_walk.proofs.Apart.{cursor_comes_apart, purger_holds}
use Rattle.tdb_walk.proofs.spots_apart.cursors_keep_apart.Goals as goal

pub returns : goal.returns
returns c = record { apart = cursor_comes_apart; purger = purger_holds }
