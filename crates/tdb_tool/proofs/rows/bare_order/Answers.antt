use Rattle.std.proofs.Common.{refl, subst, None, ◌≡◌}
use Rattle.std.specs.Prelude.{codes}
use Rattle.tdb_dump.specs.declared.listing.Listing.{Listing}
use Rattle.tdb_commands.specs.declared.command.Command.{Command}
use Rattle.tdb_script.specs.Rows.{row_of}
use Rattle.tdb_script.proofs.RowLemmas.{no_text_row, skip_row}
use Rattle.tdb_tool.specs.declared.order.Order.{Order}
use Rattle.tdb_tool.specs.Rows.{bare_orders}
use Rattle.tdb_tool.proofs.rows.bare_order.Goals as goal

-- bytes that are no text
pub returns-in_default : goal.returns-in_default
returns-in_default c = no_text_row bare_orders refl c.args.name.now (c.text_of.ensures.refused c.in_default.is)

-- none of these words
pub returns-in_default-text : goal.returns-in_default-text
returns-in_default-text c =
    let text = c.in-Some.text.now in
    let not = c.in_default-text in
    subst (λ name. None ≡ row_of bare_orders name) c.in-Some.ensures.read
    (skip_row (codes "erase") text (Order.Take Command.Wipe) not.not-erase (
    skip_row (codes "check") text (Order.Take Command.Check) not.not-check (
    skip_row (codes "first") text (Order.Take Command.First) not.not-first (
    skip_row (codes "next") text (Order.Take Command.Next) not.not-next (
    skip_row (codes "dump") text (Order.List Listing.Pairs) not.not-dump (
    skip_row (codes "keys") text (Order.List Listing.Keys) not.not-keys (
    skip_row (codes "hexkeys") text (Order.List Listing.HexKeys) not.not-hexkeys (
    skip_row (codes "transaction_start") text (Order.Take Command.Start) not.not-transaction_start (
    skip_row (codes "transaction_commit") text (Order.Take Command.Commit) not.not-transaction_commit (
    skip_row (codes "transaction_cancel") text (Order.Take Command.Cancel) not.not-transaction_cancel (
    skip_row (codes "quit") text Order.Quit not.not-quit refl)))))))))))
