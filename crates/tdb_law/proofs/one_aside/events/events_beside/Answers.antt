-- The laws are the lemmas.
use Rattle.tdb_law.proofs.OneAside.Happening.{joins_beside, given_beside, dies_beside}
use Rattle.tdb_law.proofs.one_aside.events.events_beside.Goals as goal

pub returns : goal.returns
returns c = record { join = joins_beside; gift = given_beside; death = dies_beside }
