use Rattle.std.proofs.Common.{ap}
use Rattle.std.proofs.lemmas.Result.{err_from_is_err_and}
use Rattle.tdb_disk.specs.History.{seen}
use Rattle.tdb_answer.specs.Commands.Rewriting.{made_form}
use Rattle.tdb_answer.proofs.Rewriting.{written_anew}
use Rattle.tdb_answer.proofs.commands.rewriting.write_anew.Goals as goal

-- the pairs were added, the file got its number, and all is on the medium
pub returns-in-Ok-set_sequence-clause-written : goal.returns-in-Ok-set_sequence-clause-written
returns-in-Ok-set_sequence-clause-written g c told =
    written_anew (seen (g.D.Disk.history c.args.from.now)) c.args.prefix.now (made_form c.args.file.form) c.args.opened.now.header.sequence (g.D.Disk.history c.add_chosen.new.to) (g.D.Disk.history c.set_sequence.new.disk)
    (ap (λ h. h.sequence) (c.requires.opened told).header) (c.in_ok-add_chosen.ensures.rewritten told) (c.in-Ok-set_sequence.ensures.got told)

-- they weren't
pub returns-in_err-add_chosen-clause-refused : goal.returns-in_err-add_chosen-clause-refused
returns-in_err-add_chosen-clause-refused g c =
    let q = err_from_is_err_and c.from_residual.result c.from_residual.ensures.1 in
    rw (q.1, q.2) (λ told. c.in_err-add_chosen.ensures.refused told)

-- the file was made
pub add_chosen-requires-clause-new : goal.add_chosen-requires-clause-new
add_chosen-requires-clause-new g c told = (c.in-Ok.ensures.made told).file
