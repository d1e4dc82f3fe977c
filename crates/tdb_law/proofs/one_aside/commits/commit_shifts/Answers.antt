-- The laws are the lemmas.
use Rattle.tdb_law.proofs.OneAside.Committed.{image_shifts, gate_shifts}
use Rattle.tdb_law.proofs.one_aside.commits.commit_shifts.Goals as goal

pub returns : goal.returns
returns c = record { image = image_shifts; gate = gate_shifts }
