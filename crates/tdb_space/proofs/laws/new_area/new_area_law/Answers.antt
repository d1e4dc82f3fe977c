-- The laws are the lemmas.
use Rattle.tdb_space.proofs.NewArea.AreaSets.{longer_stays, grown_longer, bare_header_stays, area_set_stays, area_dropped_stays, area_is_hand}
use Rattle.tdb_space.proofs.laws.new_area.new_area_law.Goals as goal

pub returns-clause-longer : goal.returns-clause-longer
returns-clause-longer c = longer_stays

pub returns-clause-grown : goal.returns-clause-grown
returns-clause-grown c = grown_longer

pub returns-clause-bare : goal.returns-clause-bare
returns-clause-bare c = bare_header_stays

pub returns-clause-set : goal.returns-clause-set
returns-clause-set c = area_set_stays

pub returns-clause-dropped : goal.returns-clause-dropped
returns-clause-dropped c = area_dropped_stays

pub returns-clause-hand : goal.returns-clause-hand
returns-clause-hand c = area_is_hand
