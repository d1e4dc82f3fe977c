use Rattle.std.proofs.Common.{◌≡◌, Err, [], subst, sym, ◌∙◌, ap}
use Rattle.std.proofs.lemmas.Result.{IfErr-weaker}
use Rattle.tdb_log.specs.Logs.{LastRefused, ToldUpTo}
use Rattle.tdb_open.specs.declared.halt.Halt.TheVariants as IsHalt
use Rattle.tdb_open.specs.declared.halt.Refusal.TheVariants.{Corrupt}
use Rattle.tdb_open.specs.Notices.{verdict}
use Rattle.tdb_open.proofs.Notices.{first_refused}
use Rattle.tdb_open.proofs.verdict.tell_verdict.Goals as goal

-- the last log refuses what it is told
pub returns-in-Ok-clause-refused : goal.returns-in-Ok-clause-refused
returns-in-Ok-clause-refused g c =
    let old = g.L.Logs.logs c.args.logs.now in
    let new = g.L.Logs.logs c.note.new.self in
    IfErr-weaker c.note.result (λ r. LastRefused r old new) (λ r. ToldUpTo r (verdict c.args.answer.now) old new)
    (λ r h. subst (λ a. ToldUpTo r (verdict a) old new) (sym c.in-Ok.is) (first_refused r _ [] old new h)) c.note.ensures.refused

pub returns-in-Err-Refused-Corrupt-clause-refused : goal.returns-in-Err-Refused-Corrupt-clause-refused
returns-in-Err-Refused-Corrupt-clause-refused g c =
    let old = g.L.Logs.logs c.args.logs.now in
    let h = c.note-in-Err-Refused-Corrupt in
    let new = g.L.Logs.logs h.new.self in
    let arm = c.in-Err-Refused-Corrupt in
    let halt = rw arm.is at arm.field-0-is in
    let refusal = rw arm.is at arm.field-0-0-is in
    let fault = rw halt at refusal in
    let is : c.args.answer.now ≡ Err (IsHalt.Refused (Corrupt arm.what arm.at)) = arm.is ∙ ap (λ h. Err h) (halt ∙ ap (λ r. IsHalt.Refused r) fault) in
    IfErr-weaker h.result (λ r. LastRefused r old new) (λ r. ToldUpTo r (verdict c.args.answer.now) old new)
    (λ r k. subst (λ a. ToldUpTo r (verdict a) old new) (sym is) (first_refused r _ [] old new k)) h.ensures.refused
