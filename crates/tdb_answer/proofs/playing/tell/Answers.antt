use Rattle.std.proofs.Common.{◌∙◌, ap}
use Rattle.std.proofs.lemmas.Result.{err_from_is_err_and}
use Rattle.tdb_answer.proofs.Coming.{told_front}
use Rattle.tdb_answer.proofs.playing.tell.Goals as goal

-- a line wasn't written whole
pub returns-in_err-write_line-clause-front : goal.returns-in_err-write_line-clause-front
returns-in_err-write_line-clause-front g c =
    let q = err_from_is_err_and c.from_residual.result c.from_residual.ensures.1 in
    rw (q.1)
    (λ told. told_front (g.K.Sink.written c.args.output.now) (g.K.Sink.written c.loop-i.output) (g.K.Sink.written c.write_line.new.out) c.args.report.now.lines c.loop-i.i c.in-Some.line.now c.in-Some.ensures.0 c.in-Some.ensures.1 (c.loop-i.invariant.written told) (c.in_err-write_line.ensures.err told))

-- there was no memory for one
pub returns-in_err-write_line-clause-memory : goal.returns-in_err-write_line-clause-memory
returns-in_err-write_line-clause-memory g c =
    let q = err_from_is_err_and c.from_residual.result c.from_residual.ensures.1 in
    rw (q.1, q.2)
    (λ is told. (c.loop-i.i, ap g.K.Sink.written (c.in_err-write_line.ensures.memory is) ∙ c.loop-i.invariant.written told))
