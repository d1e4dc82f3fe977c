-- The laws are the lemmas.
use Rattle.tdb_space.proofs.Moved.SameLists.{moved_stays, stays_then, stays_reopens}
use Rattle.tdb_space.proofs.Undoing.Alike.{same_undo_restores, alike_restores, alike_opens_to, reopens_alike, reopens_again, alike_reopens, exact_reopens}
use Rattle.tdb_space.proofs.Undoing.Tails.{tail_reopens}
use Rattle.tdb_space.proofs.laws.undoing.undoing_law.Goals as goal

pub returns-clause-same_undo : goal.returns-clause-same_undo
returns-clause-same_undo c = same_undo_restores

pub returns-clause-alike : goal.returns-clause-alike
returns-clause-alike c = alike_restores

pub returns-clause-alike_opens : goal.returns-clause-alike_opens
returns-clause-alike_opens c = alike_opens_to

pub returns-clause-still_again : goal.returns-clause-still_again
returns-clause-still_again c = reopens_alike

pub returns-clause-once_more : goal.returns-clause-once_more
returns-clause-once_more c = reopens_again

pub returns-clause-alike_again : goal.returns-clause-alike_again
returns-clause-alike_again c = alike_reopens

pub returns-clause-tail_again : goal.returns-clause-tail_again
returns-clause-tail_again c = tail_reopens

pub returns-clause-exact_again : goal.returns-clause-exact_again
returns-clause-exact_again c = exact_reopens

pub returns-clause-moved : goal.returns-clause-moved
returns-clause-moved c = moved_stays

pub returns-clause-moved_then : goal.returns-clause-moved_then
returns-clause-moved_then c = stays_then

pub returns-clause-moved_again : goal.returns-clause-moved_again
returns-clause-moved_again c = stays_reopens
