use Rattle.std.proofs.Common.{Err, subst}
use Rattle.tdb_open.specs.declared.halt.Fault.TheVariants.{Log}
use Rattle.tdb_answer.specs.Heard.{GrowthHeard}
use Rattle.tdb_answer.proofs.Hearing.{grown_refused}
use Rattle.tdb_answer.proofs.act.tell_grown.Goals as goal

-- the log refused the growth
pub returns-in-Err-clause-heard : goal.returns-in-Err-clause-heard
returns-in-Err-clause-heard g c =
    let logs = g.L.Logs.logs c.args.logs.now in
    let later = g.L.Logs.logs c.tell_growth.new.logs in
    subst (λ n. GrowthHeard {A = Unit {0}} c.args.from n logs later (Err Log)) c.in_ok-to.ensures.length
    (grown_refused c.args.from c.in_ok-to.to logs later c.in-Err.field-0 c.in-Err.ensures.refused)
