use Rattle.std.proofs.Common.{sym, ◌∙◌}
use Rattle.tdb_answer.proofs.Verifying.{names_apart}
use Rattle.tdb_answer.proofs.commands.verify.restore_file.Goals as goal

-- the name at which the file is made isn't that of its copy
pub back_up_as-requires-clause-new_differs : goal.back_up_as-requires-clause-new_differs
back_up_as-requires-clause-new_differs g c is =
    names_apart c.args.suffix.now c.args.file.now c.requires.other (sym (c.as_str-2.ensures ∙ c.in-Ok-joined.ensures) ∙ is ∙ c.as_str.ensures ∙ c.in-Ok.ensures)
