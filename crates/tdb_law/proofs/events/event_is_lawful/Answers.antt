-- The laws are the lemmas.
use Rattle.tdb_law.proofs.Happening.{join_lawful, told_lawful}
use Rattle.tdb_law.proofs.Deaths.{death_lawful}
use Rattle.tdb_law.proofs.Undoing.{undo_lawful}
use Rattle.tdb_law.proofs.events.event_is_lawful.Goals as goal

pub returns : goal.returns
returns c = record { join = join_lawful; death = death_lawful; undo = undo_lawful; told = told_lawful }
