-- The laws of what a turn of a cursor leaves.
use Rattle.tdb_walk.proofs.Again.{cursor_stands_again, cursor_begins, cursor_leaves}
use Rattle.tdb_walk.proofs.Shown.{cursor_shows}
use Rattle.tdb_walk.proofs.laws.cursors_go_on.Goals as goal

pub returns : goal.returns
returns c = record { again = cursor_stands_again; shows = cursor_shows; begins = cursor_begins; others = cursor_leaves }
