use Rattle.std.proofs.Common.{◌++◌, ◌∙◌, ap}
use Rattle.std.proofs.lemmas.List.{append_assoc}
use Rattle.std.proofs.lemmas.Result.{err_from_is_err_and, on_ok_weaker, on_err_weaker}
use Rattle.tdb_tool.proofs.Telling.{front_after, front_of_more}
use Rattle.tdb_tool.proofs.printing.flush_both.Goals as goal

-- the first text wasn't written whole
pub returns-in_err-flush-clause-front : goal.returns-in_err-flush-clause-front
returns-in_err-flush-clause-front g c =
    let q = err_from_is_err_and c.from_residual.result c.from_residual.ensures.1 in
    rw (q.1)
    (λ told. front_of_more (g.K.Sink.written c.args.output.now) c.args.held.now.items c.args.text.now.items (g.K.Sink.written c.flush.new.output) (c.in_err-flush.ensures.front told))

pub returns-clause-whole : goal.returns-clause-whole
returns-clause-whole g c =
    on_ok_weaker c.flush-2.result (λ wrote told. wrote told ∙ ap (λ t. t ++ c.args.text.now.items) (c.in_ok-flush.ensures.whole told)
    ∙ append_assoc (g.K.Sink.written c.args.output.now) c.args.held.now.items c.args.text.now.items) c.flush-2.ensures.whole

pub returns-clause-front : goal.returns-clause-front
returns-clause-front g c =
    on_err_weaker c.flush-2.result (λ wrote told. front_after (g.K.Sink.written c.args.output.now) (g.K.Sink.written c.flush.new.output) (g.K.Sink.written c.flush-2.new.output) c.args.held.now.items c.args.text.now.items
    (c.in_ok-flush.ensures.whole told) (wrote told)) c.flush-2.ensures.front
