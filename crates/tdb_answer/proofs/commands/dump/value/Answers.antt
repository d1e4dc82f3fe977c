use Rattle.std.proofs.Common.{sym, ◌∙◌, ap}
use Rattle.tdb_answer.specs.Commands.Dump.{escaped_value}
use Rattle.tdb_answer.proofs.commands.dump.value.Goals as goal

-- the value that the map holds, or that it holds none
pub returns-in-Ok-Some-clause-ends : goal.returns-in-Ok-Some-clause-ends
returns-in-Ok-Some-clause-ends g c told = (c.requires.can_read told, ap escaped_value (sym (c.in-Ok-Some.ensures.found told ∙ c.in-Ok-Some.field-0-is)))

pub returns-in-Ok-None-clause-ends : goal.returns-in-Ok-None-clause-ends
returns-in-Ok-None-clause-ends g c told = (c.requires.can_read told, ap escaped_value (sym (c.in-Ok-None.ensures.found told ∙ c.in-Ok-None.field-0-is)))
