-- The law of what a cursor holds.
use Rattle.tdb_walk.proofs.CursorHeld.{cursor_holds}
use Rattle.tdb_walk.proofs.laws.cursors_hold.Goals as goal

pub returns : goal.returns
returns c = record { law = cursor_holds }
