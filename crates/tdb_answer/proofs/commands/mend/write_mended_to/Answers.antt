use Rattle.std.proofs.Common.{[]}
use Rattle.tdb_disk.specs.History.{seen}
use Rattle.tdb_mend.specs.Files.{file_mended as mended}
use Rattle.tdb_open.specs.declared.limits.TheConstants.{LONGEST_FILE}
use Rattle.tdb_answer.specs.Commands.Rewriting.{made_form}
use Rattle.tdb_answer.proofs.Rewriting.{removed_unwritten, refused_unwritten}
use Rattle.tdb_answer.proofs.commands.mend.write_mended_to.Goals as goal

-- it was written to its end
pub returns-in-Ok-clause-written : goal.returns-in-Ok-clause-written
returns-in-Ok-clause-written g c told = (g.F.D.Disk.history c.write_mended-written.new.to, c.give.ensures.held told, c.in-Ok.ensures.written told)

-- it wasn't, and was removed
pub returns-in-Ok-remove-clause-refused : goal.returns-in-Ok-remove-clause-refused
returns-in-Ok-remove-clause-refused g c told =
    removed_unwritten (mended (seen (g.F.D.Disk.history c.args.from.now))) [] (made_form c.args.form) LONGEST_FILE (g.F.Files.held c.remove.new.self c.args.name.now) (c.in-Ok-remove.ensures.gone told)
    c.in-Err.refusal c.from.result c.from.ensures (c.in-Err.ensures.refused told)

pub returns-in-Ok-remove-clause-known : goal.returns-in-Ok-remove-clause-known
returns-in-Ok-remove-clause-known g c = refused_unwritten c.in-Err.refusal c.from.result c.from.ensures
