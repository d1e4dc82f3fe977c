-- Where the word was not written, the record stays in the list, or has left it.
use Rattle.tdb_free.proofs.Results.{on_err}
use Rattle.tdb_free.proofs.taking.take_whole.Goals as goal

pub returns-in_err-take_out-clause-stopped : goal.returns-in_err-take_out-clause-stopped
returns-in_err-take_out-clause-stopped g c = on_err c.from_residual.result c.in_err-take_out.ensures.stopped
