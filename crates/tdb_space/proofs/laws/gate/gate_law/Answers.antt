-- The laws are the lemmas.
use Rattle.tdb_space.proofs.Gate.Contents.{content_free}
use Rattle.tdb_space.proofs.Gate.OpenGate.{gate_keeps}
use Rattle.tdb_space.proofs.laws.gate.gate_law.Goals as goal

pub returns-clause-content : goal.returns-clause-content
returns-clause-content c = content_free

pub returns-clause-open_gate : goal.returns-clause-open_gate
returns-clause-open_gate c = gate_keeps
