use Rattle.std.proofs.Common.{refl}
use Rattle.tdb_script.specs.Rows.{key_commands}
use Rattle.tdb_script.proofs.RowLemmas.{no_text_row}
use Rattle.tdb_script.proofs.rows.key_command.Goals as goal

-- bytes that are no text
pub returns-in-None : goal.returns-in-None
returns-in-None c = no_text_row (key_commands c.args.key) refl c.args.name.now (c.text_of.ensures.refused c.in-None.is)
