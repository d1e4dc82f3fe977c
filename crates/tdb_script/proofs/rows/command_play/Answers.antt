use Rattle.std.proofs.Common.{refl}
use Rattle.tdb_script.specs.Rows.{command_plays}
use Rattle.tdb_script.proofs.RowLemmas.{no_text_row}
use Rattle.tdb_script.proofs.rows.command_play.Goals as goal

-- bytes that are no text
pub returns-in_default : goal.returns-in_default
returns-in_default c = no_text_row (command_plays c.args.who c.args.command) refl c.args.name.now (c.text_of.ensures.refused c.in_default.is)
