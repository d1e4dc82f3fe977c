use Rattle.std.proofs.Common.{[]}
use Rattle.std.proofs.lemmas.Result.{err_from_is_err_and}
use Rattle.tdb_disk.specs.History.{seen}
use Rattle.tdb_mend.specs.Files.{file_mended as mended}
use Rattle.tdb_answer.specs.Commands.Rewriting.{made_form}
use Rattle.tdb_answer.proofs.Rewriting.{written_anew}
use Rattle.tdb_answer.proofs.commands.mend.write_mended.Goals as goal

-- the pairs were added, the file got its number, and all is on the medium
pub returns-in-Ok-set_sequence-clause-written : goal.returns-in-Ok-set_sequence-clause-written
returns-in-Ok-set_sequence-clause-written g c told =
    written_anew (mended (seen (g.D.Disk.history c.args.from.now))) [] (made_form c.args.form) c.args.number (g.D.Disk.history c.add_mended.new.to) (g.D.Disk.history c.set_sequence.new.disk)
    (c.requires.number told) (c.in_ok-add_mended.ensures.rewritten told) (c.in-Ok-set_sequence.ensures.got told)

-- they weren't
pub returns-in_err-add_mended-clause-refused : goal.returns-in_err-add_mended-clause-refused
returns-in_err-add_mended-clause-refused g c =
    let q = err_from_is_err_and c.from_residual.result c.from_residual.ensures.1 in
    rw (q.1, q.2) (λ told. c.in_err-add_mended.ensures.refused told)

-- the file was made
pub add_mended-requires-clause-new : goal.add_mended-requires-clause-new
add_mended-requires-clause-new g c told = (c.in-Ok.ensures.made told).file
