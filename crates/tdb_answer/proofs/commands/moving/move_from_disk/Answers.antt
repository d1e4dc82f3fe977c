use Rattle.std.proofs.Common.{List, refl, sym, subst}
use Rattle.tdb_disk.specs.History.{seen}
use Rattle.tdb_log.specs.Logs.{Logged}
use Rattle.tdb_open.specs.Loading.{TurnOpeningHeard}
use Rattle.tdb_open.specs.Notices.{BelowHeard}
use Rattle.tdb_open.specs.Opening.{opened_bytes}
use Rattle.tdb_check.specs.Report.{Counted}
use Rattle.std.specs.Prelude.{Ok, Err}
use Rattle.tdb_answer.specs.Commands.Merge.{CountedPair}
use Rattle.tdb_answer.specs.Commands.Moving.{from_unopened, from_opened}
use Rattle.tdb_answer.specs.Heard.{heard_more}
use Rattle.tdb_answer.proofs.Hearing.{halted_heard}
use Rattle.tdb_answer.proofs.Merging.{pair_halted}
use Rattle.tdb_answer.proofs.Moving.{was_opened, not_opened, move_halted_known}
use Rattle.tdb_answer.proofs.commands.moving.move_from_disk.Goals as goal

-- the file was opened, and its key was moved into the other one, or wasn't
pub returns-in-Ok-clause-left : goal.returns-in-Ok-clause-left
returns-in-Ok-clause-left g c told =
    let old = g.F.D.Disk.history c.args.disk in
    let O = c.in-Ok.ensures.opened in
    from_opened c.in-Ok.from.history (was_opened c.args.limit _ old c.in-Ok.from.history c.in-Ok.field-0-1 c.options_within-options.ensures (O.opened told) (O.stops told)) (c.move_to_name.ensures.left told)

pub returns-in-Ok-clause-counted : goal.returns-in-Ok-clause-counted
returns-in-Ok-clause-counted g c =
    subst (λ n. CountedPair g.F.D.Disk.tells n (g.F.D.Disk.faults c.move_to_name.result.0) (g.F.Files.faults c.args.files.now) (g.F.Files.faults c.move_to_name.new.files) c.move_to_name.result.1) c.in-Ok.ensures.done c.move_to_name.ensures.counted

-- it wasn't
pub returns-in-Err-clause-left : goal.returns-in-Err-clause-left
returns-in-Err-clause-left g c told =
    let H = c.in-Err.ensures.halted in
    from_unopened c.in-Err.halt (not_opened c.args.limit _ (g.F.D.Disk.history c.args.disk) (g.F.D.Disk.history c.in-Err.disk) c.in-Err.halt c.options_within-options.ensures (H.opened told) (H.stops told)) refl c.from.ensures

pub returns-in-Err-clause-known : goal.returns-in-Err-clause-known
returns-in-Err-clause-known g c = move_halted_known c.in-Err.halt c.from.result c.from.ensures

pub returns-in-Err-clause-counted : goal.returns-in-Err-clause-counted
returns-in-Err-clause-counted g c =
    let cause = c.in-Err.ensures.cause in
    pair_halted g.F.D.Disk.tells (g.F.D.Disk.faults c.args.disk) (g.F.D.Disk.faults c.in-Err.disk) (g.F.Files.faults c.args.files.now) cause.never_falls
    c.in-Err.halt c.from.result c.from.ensures cause.failed cause.refused

-- what logs heard of it
pub returns-in-Ok-clause-heard : goal.returns-in-Ok-clause-heard
returns-in-Ok-clause-heard g c told =
    let img = seen (g.F.D.Disk.history c.args.disk) in
    let mid = g.L.Logs.logs c.load.new.logs in
    let O = c.in-Ok.ensures.opened in
    let o = c.in-Ok.field-0-1 in
    heard_more o mid (subst (λ i. Counted i o.report) (O.opened told).1.reads (c.in-Ok.ensures.loaded.checked told).counted)
    (subst (λ q. TurnOpeningHeard q img (g.L.Logs.logs c.args.logs.now) mid (Ok o)) c.options_within-options.ensures (O.heard told)) tt

pub returns-in-Err-clause-heard : goal.returns-in-Err-clause-heard
returns-in-Err-clause-heard g c told =
    let img = seen (g.F.D.Disk.history c.args.disk) in
    let later = g.L.Logs.logs c.load.new.logs in
    halted_heard (opened_bytes img) (BelowHeard c.args.limit img) c.in-Err.halt c.from.result (λ (mid end : List Logged). Unit {0}) (g.L.Logs.logs c.args.logs.now) later
    (subst (λ o. TurnOpeningHeard o img (g.L.Logs.logs c.args.logs.now) later (Err c.in-Err.halt)) c.options_within-options.ensures (c.in-Err.ensures.halted.heard told)) c.from.ensures
