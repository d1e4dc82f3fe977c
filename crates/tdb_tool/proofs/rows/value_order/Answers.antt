use Rattle.std.proofs.Common.{refl, subst, None, ◌≡◌}
use Rattle.std.specs.Prelude.{codes}
use Rattle.tdb_steps.specs.declared.flag.Flag.{Flag}
use Rattle.tdb_commands.specs.declared.command.Command.{Command}
use Rattle.tdb_script.specs.Rows.{row_of}
use Rattle.tdb_script.proofs.RowLemmas.{no_text_row, skip_row}
use Rattle.tdb_tool.specs.declared.order.Order.{Order}
use Rattle.tdb_tool.specs.Rows.{value_orders}
use Rattle.tdb_tool.proofs.rows.value_order.Goals as goal

-- bytes that are no text
pub returns-in_default : goal.returns-in_default
returns-in_default c = no_text_row (value_orders c.args.key c.args.value) refl c.args.name.now (c.text_of.ensures.refused c.in_default.is)

-- none of these words
pub returns-in_default-text : goal.returns-in_default-text
returns-in_default-text c =
    let replaces = Order.Take (Command.Store c.args.key c.args.value Flag.Replace) in
    let inserts = Order.Take (Command.Store c.args.key c.args.value Flag.Insert) in
    subst (λ name. None ≡ row_of (value_orders c.args.key c.args.value) name) c.in-Some.ensures.read
    (skip_row (codes "store") c.in-Some.text.now replaces c.in_default-text.not-store (
    skip_row (codes "storehex") c.in-Some.text.now replaces c.in_default-text.not-storehex (
    skip_row (codes "insert") c.in-Some.text.now inserts c.in_default-text.not-insert refl)))
