-- The undo area has a fault.
use Rattle.std.proofs.lemmas.Result.{err_from_is_err_and}
use Rattle.tdb_mend.proofs.undoing.undo_in.Goals as goal

pub returns-in_err-left-clause-bad : goal.returns-in_err-left-clause-bad
returns-in_err-left-clause-bad g c =
    let p = err_from_is_err_and c.from_residual.result c.from_residual.ensures.1 in
    rw (p.1, p.2) (λ told own. c.in_err-left.ensures.bad told own)
