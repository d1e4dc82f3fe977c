use Rattle.std.specs.Prelude.{codes}
use Rattle.tdb_commands.specs.declared.command.Command.{Command}
use Rattle.tdb_script.proofs.RowLemmas.{skip_row}
use Rattle.tdb_script.proofs.rows.group_named.Goals as goal

-- none of these words
pub returns-in_default : goal.returns-in_default
returns-in_default c =
    skip_row (codes "start") c.args.text.now Command.Start c.in_default.not-start (
    skip_row (codes "commit") c.args.text.now Command.Commit c.in_default.not-commit (
    skip_row (codes "prepare") c.args.text.now Command.Prepare c.in_default.not-prepare (
    skip_row (codes "cancel") c.args.text.now Command.Cancel c.in_default.not-cancel (
    c.holding_named.ensures))))
