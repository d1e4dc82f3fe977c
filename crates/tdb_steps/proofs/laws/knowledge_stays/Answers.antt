-- What is known stays known, stage by stage.
use Rattle.tdb_steps.proofs.Knowledge.{knowledge_stays, machine_knowledge_stays}
use Rattle.tdb_steps.proofs.laws.knowledge_stays.Goals as goal

pub returns : goal.returns
returns c = record { law = knowledge_stays; machine = machine_knowledge_stays }
