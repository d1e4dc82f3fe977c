-- The law of moves.
use Rattle.tdb_walk.proofs.Going.{ahead_is_left, ends_rightly, blocks_rightly}
use Rattle.tdb_walk.proofs.Coming.{comes_rightly}
use Rattle.tdb_walk.proofs.laws.moves_are_walks.Goals as goal

pub returns : goal.returns
returns c = record { law = record { ahead = ahead_is_left; ends = ends_rightly; blocks = blocks_rightly; comes = comes_rightly } }
