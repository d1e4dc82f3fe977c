use Rattle.std.proofs.Common.{refl}
use Rattle.tdb_script.specs.Rows.{value_commands}
use Rattle.tdb_script.proofs.RowLemmas.{no_text_row}
use Rattle.tdb_script.proofs.rows.value_command.Goals as goal

-- bytes that are no text
pub returns-in_default : goal.returns-in_default
returns-in_default c = no_text_row (value_commands c.args.key c.args.value) refl c.args.name.now (c.text_of.ensures.refused c.in_default.is)
