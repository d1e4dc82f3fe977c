-- The last box stays where it is, and its log is told.
use Rattle.std.proofs.Common.{◌≡◌, ◌-◌, suc, length, vec_len, OnOk, IfErr, refl, subst, arith}
use Rattle.std.proofs.lemmas.Result.{on_ok_weaker, IfErr-weaker}
use Rattle.tdb_log.specs.Logs.{Logged, Took, Refused}
use Rattle.tdb_log.proofs.LogLists.{last_set, last_refused, took_of, refused_of}
use Rattle.tdb_log.proofs.logs.VecBoxDynLogLogs.note.Goals as goal

pub returns-in-Some-clause-taken : goal.returns-in-Some-clause-taken
returns-in-Some-clause-taken g c =
    let new : Logged = record { tells = (goal.Log-dyn g c.as_mut.result.now).tells c.note.new.self; notices = (goal.Log-dyn g c.as_mut.result.now).notices c.note.new.self; faults = (goal.Log-dyn g c.as_mut.result.now).faults c.note.new.self } in
    let long : length c.args.self.now.items ≡ suc (vec_len c.args.self.now - 1) = omega (arith, c.args.self.now.ok.0, c.in-Some.ensures.variant.0 refl) in
    on_ok_weaker c.note.result (last_set _ (Took c.args.notice.now) c.args.self.now.items _ c.in-Some.log.now _ long c.in-Some.ensures.value)
    (subst (λ p. OnOk c.note.result (Took c.args.notice.now (record { tells = (goal.Log-dyn g p).tells p.1; notices = (goal.Log-dyn g p).notices p.1; faults = (goal.Log-dyn g p).faults p.1 }) new))
    c.as_mut.ensures.value.1 (took_of c.args.notice.now _ new c.note.result c.note.ensures.0 c.note.ensures.1.1.0 c.note.ensures.1.1.1))

pub returns-in-Some-clause-refused : goal.returns-in-Some-clause-refused
returns-in-Some-clause-refused g c =
    let new : Logged = record { tells = (goal.Log-dyn g c.as_mut.result.now).tells c.note.new.self; notices = (goal.Log-dyn g c.as_mut.result.now).notices c.note.new.self; faults = (goal.Log-dyn g c.as_mut.result.now).faults c.note.new.self } in
    let long : length c.args.self.now.items ≡ suc (vec_len c.args.self.now - 1) = omega (arith, c.args.self.now.ok.0, c.in-Some.ensures.variant.0 refl) in
    IfErr-weaker c.note.result _ _ (λ refusal. last_refused _ refusal c.args.self.now.items _ c.in-Some.log.now _ long c.in-Some.ensures.value)
    (subst (λ p. IfErr c.note.result (λ refusal. Refused refusal (record { tells = (goal.Log-dyn g p).tells p.1; notices = (goal.Log-dyn g p).notices p.1; faults = (goal.Log-dyn g p).faults p.1 }) new))
    c.as_mut.ensures.value.1 (refused_of _ new c.note.result c.note.ensures.1.0 c.note.ensures.1.1.0 c.note.ensures.1.1.1))
