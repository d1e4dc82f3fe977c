-- A refusal is told, and all stays.
use Rattle.tdb_commands.specs.InLaw.{law_reply}
use Rattle.tdb_openers.proofs.Joining.Endings.{refused_ends}
use Rattle.tdb_openers.proofs.ending.refused_turn.Goals as goal

pub returns-clause-turned : goal.returns-clause-turned
returns-clause-turned c f x rest v k who ps s I H = refused_ends f x rest v k who ps (law_reply c.args.reply) s I H
