use Rattle.std.specs.Prelude.{codes}
use Rattle.tdb_commands.specs.declared.command.Command.{Command}
use Rattle.tdb_script.proofs.RowLemmas.{skip_row}
use Rattle.tdb_script.proofs.rows.bare_named.Goals as goal

-- none of these words
pub returns-in_default : goal.returns-in_default
returns-in_default c =
    skip_row (codes "wipe") c.args.text.now Command.Wipe c.in_default.not-wipe (
    skip_row (codes "check") c.args.text.now Command.Check c.in_default.not-check (
    skip_row (codes "seqnum") c.args.text.now Command.Seqnum c.in_default.not-seqnum (
    skip_row (codes "close") c.args.text.now Command.Close c.in_default.not-close (
    c.group_named.ensures))))
