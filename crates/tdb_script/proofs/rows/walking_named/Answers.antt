use Rattle.std.proofs.Common.{refl}
use Rattle.std.specs.Prelude.{codes}
use Rattle.tdb_commands.specs.declared.command.Command.{Command}
use Rattle.tdb_script.proofs.RowLemmas.{skip_row}
use Rattle.tdb_script.proofs.rows.walking_named.Goals as goal

-- none of these words
pub returns-in_default : goal.returns-in_default
returns-in_default c =
    skip_row (codes "first") c.args.text.now Command.First c.in_default.not-first (
    skip_row (codes "next") c.args.text.now Command.Next c.in_default.not-next (
    skip_row (codes "endwalk") c.args.text.now Command.EndWalk c.in_default.not-endwalk (
    refl)))
