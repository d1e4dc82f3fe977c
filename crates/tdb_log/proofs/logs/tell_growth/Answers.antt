-- The growth was refused.
use Rattle.std.proofs.lemmas.Result.{IfErr-weaker}
use Rattle.tdb_log.proofs.Telling.{growth_refused}
use Rattle.tdb_log.proofs.logs.tell_growth.Goals as goal

pub returns-then-from-to-clause-refused : goal.returns-then-from-to-clause-refused
returns-then-from-to-clause-refused g c =
    IfErr-weaker c.note.result _ _ (λ refusal refused. growth_refused c.args.from c.args.to refusal (g.L.Logs.logs c.args.logs.now) (g.L.Logs.logs c.note.new.self) c.if-from-to.true refused) c.note.ensures.refused
