use Rattle.tdb_disk.specs.History.{seen}
use Rattle.tdb_answer.specs.Commands.Rewriting.{made_form}
use Rattle.tdb_answer.proofs.Rewriting.{removed_unwritten, refused_unwritten}
use Rattle.tdb_answer.proofs.commands.rewriting.write_to.Goals as goal

-- it was written to its end
pub returns-in-Ok-clause-written : goal.returns-in-Ok-clause-written
returns-in-Ok-clause-written g c told = (g.F.D.Disk.history c.write_anew-written.new.to, c.give.ensures.held told, c.in-Ok.ensures.written told)

-- it wasn't, and was removed
pub returns-in-Ok-remove-clause-refused : goal.returns-in-Ok-remove-clause-refused
returns-in-Ok-remove-clause-refused g c told =
    removed_unwritten (seen (g.F.D.Disk.history c.args.from.now)) c.args.prefix.now (made_form c.args.file.form) c.args.file.limit (g.F.Files.held c.remove.new.self c.args.name.now) (c.in-Ok-remove.ensures.gone told)
    c.in-Err.refusal c.from.result c.from.ensures (c.in-Err.ensures.refused told)

pub returns-in-Ok-remove-clause-known : goal.returns-in-Ok-remove-clause-known
returns-in-Ok-remove-clause-known g c = refused_unwritten c.in-Err.refusal c.from.result c.from.ensures
