-- The laws are the lemmas.
use Rattle.tdb_law.proofs.OneAside.Starting.{starts_sound, whole_sound, starts_plain, starts_aside, start_given, start_ends, aside_hides}
use Rattle.tdb_law.proofs.one_aside.starts.starts_stand.Goals as goal

pub returns : goal.returns
returns c = record { sound = starts_sound; whole = whole_sound; plain = starts_plain; aside = starts_aside; given = start_given; ended = start_ends; hidden = aside_hides }
