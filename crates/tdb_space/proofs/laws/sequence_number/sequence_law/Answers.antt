-- The laws are the lemmas.
use Rattle.tdb_space.proofs.Sequence.SameRecords.{same_records}
use Rattle.tdb_space.proofs.Sequence.SameFront.{same_front}
use Rattle.tdb_space.proofs.Sequence.SameLists.{same_lists}
use Rattle.tdb_space.proofs.Sequence.SameVerdict.{same_verdict}
use Rattle.tdb_space.proofs.Sequence.SameOpening.{same_opening}
use Rattle.tdb_space.proofs.laws.sequence_number.sequence_law.Goals as goal

pub returns-clause-front : goal.returns-clause-front
returns-clause-front c = same_front

pub returns-clause-records : goal.returns-clause-records
returns-clause-records c = same_records

pub returns-clause-lists : goal.returns-clause-lists
returns-clause-lists c = same_lists

pub returns-clause-verdict : goal.returns-clause-verdict
returns-clause-verdict c = same_verdict

pub returns-clause-opening : goal.returns-clause-opening
returns-clause-opening c = same_opening
