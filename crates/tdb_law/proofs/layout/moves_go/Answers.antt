-- The laws are the lemmas.
use Rattle.tdb_law.proofs.Steps.{to_next, to_first, past_last, past_empty, steps_join, none_left}
use Rattle.tdb_law.proofs.layout.moves_go.Goals as goal

pub returns : goal.returns
returns c = record { next = to_next; first = to_first; last = past_last; empty = past_empty; joined = steps_join; end = none_left }
