use Rattle.std.proofs.Common.{refl}
use Rattle.tdb_script.proofs.RowLemmas.{no_text_row}
use Rattle.tdb_tool.specs.Rows.{key_orders}
use Rattle.tdb_tool.proofs.rows.key_order.Goals as goal

-- bytes that are no text
pub returns-in_default : goal.returns-in_default
returns-in_default c = no_text_row (key_orders c.args.key) refl c.args.name.now (c.text_of.ensures.refused c.in_default.is)
