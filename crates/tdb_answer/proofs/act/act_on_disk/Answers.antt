use Rattle.std.proofs.Common.{rules, ◌≡◌, ◌<◌, Err, length, refl, sym, subst}
use Rattle.std.specs.Prelude.{◌^◌}
use Rattle.tdb_disk.specs.History.{seen}
use Rattle.tdb_answer.specs.Acts.{OpenedAndActed}
use Rattle.tdb_open.specs.Opening.{opened_bytes, of_fault}
use Rattle.tdb_open.specs.Notices.{BelowHeard}
use Rattle.tdb_answer.specs.Ending.{of_halt}
use Rattle.tdb_log.specs.Logs.{growth}
use Rattle.tdb_answer.specs.Heard.{ActedHeard, ToldFor, acted_ending}
use Rattle.tdb_answer.proofs.Acting.{halted, replied, faulted}
use Rattle.tdb_answer.proofs.BackingUp.{opened_short}
use Rattle.tdb_answer.proofs.Hearing.{halted_heard, faulted_heard, replied_heard}
use Rattle.tdb_answer.proofs.act.act_on_disk.Goals as goal

-- an opening that halted
pub returns-in_err-opened-clause-acted : goal.returns-in_err-opened-clause-acted
returns-in_err-opened-clause-acted g c told =
    let old = g.D.Disk.history c.args.disk.now in
    let now = g.D.Disk.history c.open_below.new.disk in
    let is : c.from_residual.result ≡ Err c.in_err-opened.field-0.0 = search rules in
    subst (OpenedAndActed c.args.act.now old now) (sym is)
    (halted c.args.act.now old now c.in_err-opened.field-0.0 (c.in_err-opened.ensures.refused told) (c.in_err-opened.ensures.halted told))

-- an act that met a fault
pub returns-in_err-reply-clause-acted : goal.returns-in_err-reply-clause-acted
returns-in_err-reply-clause-acted g c told =
    let old = g.D.Disk.history c.args.disk.now in
    let mid = g.D.Disk.history c.open_below.new.disk in
    let now = g.D.Disk.history c.perform_and_tell.new.disk in
    let is : c.from_residual-in_err-reply.result ≡ Err (of_fault c.in_err-reply.field-0.0) = search rules in
    subst (OpenedAndActed c.args.act.now old now) (sym is)
    (faulted c.args.act.now old (c.in_ok-opened.ensures.within told) mid now (c.in_ok-opened.ensures.opened told).can_open (c.in_ok-opened.ensures.left told) (c.in_ok-opened.ensures.reads told) c.in_err-reply.field-0.0 (c.in_err-reply.ensures.acted told))

-- one that replied
pub returns-clause-acted : goal.returns-clause-acted
returns-clause-acted g c told =
    let old = g.D.Disk.history c.args.disk.now in
    let mid = g.D.Disk.history c.open_below.new.disk in
    let now = g.D.Disk.history c.perform_and_tell.new.disk in
    replied c.args.act.now old (c.in_ok-opened.ensures.within told) mid now (c.in_ok-opened.ensures.opened told).can_open (c.in_ok-opened.ensures.left told) (c.in_ok-opened.ensures.reads told) _ (c.in_ok-reply.ensures.acted told)

-- what the file was read as is short
pub perform_and_tell-requires-clause-within : goal.perform_and_tell-requires-clause-within
perform_and_tell-requires-clause-within g c told =
    subst (λ img. length img < 2 ^ 32) (sym (c.in_ok-opened.ensures.reads told))
    (opened_short (seen (g.D.Disk.history c.args.disk.now)) (c.in_ok-opened.ensures.opened told).can_open)

-- what logs heard of it
pub returns-in_err-opened-clause-heard : goal.returns-in_err-opened-clause-heard
returns-in_err-opened-clause-heard g c told =
    let img = seen (g.D.Disk.history c.args.disk.now) in
    let now = length (seen (g.D.Disk.history c.open_below.new.disk)) in
    let logs = g.L.Logs.logs c.args.logs.now in
    let later = g.L.Logs.logs c.open_below.new.logs in
    let halt = c.in_err-opened.field-0.0 in
    let is : c.from_residual.result ≡ Err halt = search rules in
    subst (λ r. ActedHeard c.args.act.now.limit img now (acted_ending r) logs later) (sym is)
    (halted_heard (opened_bytes img) (BelowHeard c.args.act.now.limit img) halt (of_halt halt) (ToldFor (of_halt halt) (growth (length (opened_bytes img)) now)) logs later (c.in_err-opened.ensures.heard told) refl)

pub returns-in_err-reply-clause-heard : goal.returns-in_err-reply-clause-heard
returns-in_err-reply-clause-heard g c told =
    let img = seen (g.D.Disk.history c.args.disk.now) in
    let now = length (seen (g.D.Disk.history c.perform_and_tell.new.disk)) in
    let logs = g.L.Logs.logs c.args.logs.now in
    let later = g.L.Logs.logs c.perform_and_tell.new.logs in
    let fault = c.in_err-reply.field-0.0 in
    let is : c.from_residual-in_err-reply.result ≡ Err (of_fault fault) = search rules in
    subst (λ r. ActedHeard c.args.act.now.limit img now (acted_ending r) logs later) (sym is)
    (faulted_heard c.args.act.now.limit img (seen (g.D.Disk.history c.open_below.new.disk)) now c.in_ok-opened.opened logs (g.L.Logs.logs c.open_below.new.logs) later
    (c.in_ok-opened.ensures.reads told) (c.in_ok-opened.ensures.opened told).counted (c.in_ok-opened.ensures.heard told) fault (c.in_err-reply.ensures.heard told))

pub returns-clause-heard : goal.returns-clause-heard
returns-clause-heard g c told =
    replied_heard c.args.act.now.limit (seen (g.D.Disk.history c.args.disk.now)) (seen (g.D.Disk.history c.open_below.new.disk)) (length (seen (g.D.Disk.history c.perform_and_tell.new.disk))) c.in_ok-opened.opened
    (g.L.Logs.logs c.args.logs.now) (g.L.Logs.logs c.open_below.new.logs) (g.L.Logs.logs c.perform_and_tell.new.logs)
    (c.in_ok-opened.ensures.reads told) (c.in_ok-opened.ensures.opened told).counted (c.in_ok-opened.ensures.heard told) _ (c.in_ok-reply.ensures.heard told)
