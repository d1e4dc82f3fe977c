-- What is popped is the last.
use Rattle.std.proofs.Common.{◌-◌, vec_len, ap, ◌∙◌, map}
use Rattle.tdb_log.proofs.LogLists.{but_last_taken}
use Rattle.tdb_log.proofs.logs.VecBoxDynLogLogs.drop_last.Goals as goal

pub returns-clause-dropped : goal.returns-clause-dropped
returns-clause-dropped g c =
    ap (map _) c.pop.ensures.rest ∙ but_last_taken _ c.args.self.now.items (vec_len c.args.self.now - 1) (ap (λ k. k - 1) c.args.self.now.ok.0)
