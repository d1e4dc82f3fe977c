use Rattle.std.specs.Prelude.{codes}
use Rattle.tdb_commands.specs.declared.command.Command.{Command}
use Rattle.tdb_script.proofs.RowLemmas.{skip_row}
use Rattle.tdb_script.proofs.rows.holding_named.Goals as goal

-- none of these words
pub returns-in_default : goal.returns-in_default
returns-in_default c =
    skip_row (codes "lockall") c.args.text.now Command.LockAll c.in_default.not-lockall (
    skip_row (codes "lockallread") c.args.text.now Command.LockAllRead c.in_default.not-lockallread (
    skip_row (codes "unlockall") c.args.text.now Command.UnlockAll c.in_default.not-unlockall (
    c.walking_named.ensures)))
