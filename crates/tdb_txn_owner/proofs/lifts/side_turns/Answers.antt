-- The laws of the whole state.
use Rattle.tdb_txn_owner.proofs.Lifting.{shown_turns, beside_turns, beside_ends, beside_begins}
use Rattle.tdb_txn_owner.proofs.lifts.side_turns.Goals as goal

pub returns-clause-shown : goal.returns-clause-shown
returns-clause-shown c = shown_turns

pub returns-clause-beside : goal.returns-clause-beside
returns-clause-beside c = beside_turns

pub returns-clause-ends : goal.returns-clause-ends
returns-clause-ends c = beside_ends

pub returns-clause-begins : goal.returns-clause-begins
returns-clause-begins c = beside_begins
