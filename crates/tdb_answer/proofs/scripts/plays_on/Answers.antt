use Rattle.std.proofs.lemmas.Result.{err_from_is_err_and}
use Rattle.tdb_answer.proofs.Served.{script_playable}
use Rattle.tdb_answer.proofs.Turning.{bad_whole}
use Rattle.tdb_answer.proofs.scripts.plays_on.Goals as goal

-- the input wasn't read
pub returns-in_err-text-clause-refused : goal.returns-in_err-text-clause-refused
returns-in_err-text-clause-refused g c =
    let q = err_from_is_err_and c.from_residual.result c.from_residual.ensures.1 in
    rw (q.1, q.2)
    (λ told. c.in_err-text.ensures.fault (g.S.Source.left c.args.input.now))

-- it is no script
pub returns-in_err-plays-clause-refused : goal.returns-in_err-plays-clause-refused
returns-in_err-plays-clause-refused g c =
    let q = err_from_is_err_and c.from_residual-in_err-plays.result c.from_residual-in_err-plays.ensures.1 in
    rw (q.1, q.2)
    (λ told.
    (let (more, left, end) = c.in_ok-text.ensures.text told in
    bad_whole c.as_slice.result.now c.in_ok-text.text more (g.S.Source.left c.args.input.now) c.in_err-plays.field-0.0 c.as_slice.ensures left end c.in_err-plays.ensures.refused))

-- its plays may be taken
pub returns-clause-playable : goal.returns-clause-playable
returns-clause-playable g c = script_playable c.as_slice.result.now c.in_ok-plays.plays c.in_ok-plays.ensures.read
