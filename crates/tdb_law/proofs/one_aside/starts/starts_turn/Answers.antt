-- The laws are the lemmas.
use Rattle.tdb_law.proofs.OneAside.Starting.{starts_turn, starts_join, starts_given, starts_die}
use Rattle.tdb_law.proofs.one_aside.starts.starts_turn.Goals as goal

pub returns : goal.returns
returns c = record { turn = starts_turn; join = starts_join; gift = starts_given; death = starts_die }
