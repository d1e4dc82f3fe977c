-- Each play goes on from those before it, and so do the logs.
use Rattle.std.proofs.Common.{Result, Ok, Err, refl, subst, take_all}
use Rattle.std.proofs.lemmas.Result.{err_from_is_err_and}
use Rattle.tdb_law.specs.Plays.{Course}
use Rattle.tdb_log.specs.declared.log.LogRefusal.{LogRefusal}
use Rattle.tdb_commands.specs.InLaw.{law_play, law_plays}
use Rattle.tdb_world.specs.Whole.{form_at}
use Rattle.tdb_world.specs.Courses.Hearing.{HeardLed}
use Rattle.tdb_world.specs.Courses.Led.{moment}
use Rattle.tdb_world.specs.Courses.Told.{PlayLed}
use Rattle.tdb_world.proofs.Courses.Leading.{led_none, led_whole}
use Rattle.tdb_world.proofs.Courses.Running.{heard_none, run_more, run_refused, run_fault, run_heard}
use Rattle.tdb_world.proofs.Courses.Stopping.{stops_join, stops_none, stops_whole}
use Rattle.tdb_world.proofs.course.playing.run.Goals as goal

pub loop-next-init : goal.loop-next-init
loop-next-init g c =
    let now = moment c.args.world.now (g.D.Disk.history c.args.d.now) (g.D.Disk.size c.args.d.now) (g.D.Disk.faults c.args.d.now) c.args.report.now.lines in
    record {
      led = led_none g.D.Disk.tells now tt _ _ _ c.requires.fits (λ state is. (refl, refl));
      stops = stops_none g.D.Disk.tells now now (Ok tt) refl refl refl;
      heard = heard_none g.D.Disk.tells now (g.L.Logs.logs c.args.logs.now);
    }

pub returns-in_err-play-clause-led : goal.returns-in_err-play-clause-led
returns-in_err-play-clause-led g c =
    let q = err_from_is_err_and c.from_residual.result c.from_residual.ensures.1 in
    let old = moment c.args.world.now (g.D.Disk.history c.args.d.now) (g.D.Disk.size c.args.d.now) (g.D.Disk.faults c.args.d.now) c.args.report.now.lines in
    let mid = moment c.loop-next.world (g.D.Disk.history c.loop-next.d) (g.D.Disk.size c.loop-next.d) (g.D.Disk.faults c.loop-next.d) c.loop-next.report.lines in
    let new = moment c.play.new.world (g.D.Disk.history c.play.new.d) (g.D.Disk.size c.play.new.d) (g.D.Disk.faults c.play.new.d) c.play.new.report.lines in
    rw (q.1, q.2)
    (run_fault g.D.Disk.tells old mid new c.args.plays.now c.loop-next.next-index c.next-item.result c.loop-next-test.true c.next-item.is _ _
    c.loop-next.invariant.led c.in_err-play.field-0.0 c.in_err-play.ensures.led)

pub returns-in_err-play-clause-stops : goal.returns-in_err-play-clause-stops
returns-in_err-play-clause-stops g c =
    let q = err_from_is_err_and c.from_residual.result c.from_residual.ensures.1 in
    let old = moment c.args.world.now (g.D.Disk.history c.args.d.now) (g.D.Disk.size c.args.d.now) (g.D.Disk.faults c.args.d.now) c.args.report.now.lines in
    let mid = moment c.loop-next.world (g.D.Disk.history c.loop-next.d) (g.D.Disk.size c.loop-next.d) (g.D.Disk.faults c.loop-next.d) c.loop-next.report.lines in
    let new = moment c.play.new.world (g.D.Disk.history c.play.new.d) (g.D.Disk.size c.play.new.d) (g.D.Disk.faults c.play.new.d) c.play.new.report.lines in
    rw (q.1, q.2)
    (stops_join g.D.Disk.tells old mid new tt c.loop-next.invariant.led.added c.in_err-play.ensures.led.added
    c.loop-next.invariant.led.header c.loop-next.invariant.led.lines c.in_err-play.ensures.led.lines (Err c.in_err-play.field-0.0) c.loop-next.invariant.stops c.in_err-play.ensures.stops)

pub returns-in_err-play-clause-heard : goal.returns-in_err-play-clause-heard
returns-in_err-play-clause-heard g c =
    let q = err_from_is_err_and c.from_residual.result c.from_residual.ensures.1 in
    let old = moment c.args.world.now (g.D.Disk.history c.args.d.now) (g.D.Disk.size c.args.d.now) (g.D.Disk.faults c.args.d.now) c.args.report.now.lines in
    let mid = moment c.loop-next.world (g.D.Disk.history c.loop-next.d) (g.D.Disk.size c.loop-next.d) (g.D.Disk.faults c.loop-next.d) c.loop-next.report.lines in
    let new = moment c.play.new.world (g.D.Disk.history c.play.new.d) (g.D.Disk.size c.play.new.d) (g.D.Disk.faults c.play.new.d) c.play.new.report.lines in
    rw (q.1)
    (run_heard g.D.Disk.tells old mid new c.args.plays.now c.loop-next.next-index c.next-item.result c.loop-next-test.true c.next-item.is _ _
    c.loop-next.invariant.led (g.L.Logs.logs c.args.logs.now) (g.L.Logs.logs c.loop-next.logs) (g.L.Logs.logs c.play.new.logs) c.in_err-play.ensures.led.added c.in_err-play.ensures.led.lines
    c.loop-next.invariant.heard (Err c.in_err-play.field-0.0) c.in_err-play.ensures.heard)

pub returns-in-Err-clause-led : goal.returns-in-Err-clause-led
returns-in-Err-clause-led g c =
    let old = moment c.args.world.now (g.D.Disk.history c.args.d.now) (g.D.Disk.size c.args.d.now) (g.D.Disk.faults c.args.d.now) c.args.report.now.lines in
    let mid = moment c.loop-next.world (g.D.Disk.history c.loop-next.d) (g.D.Disk.size c.loop-next.d) (g.D.Disk.faults c.loop-next.d) c.loop-next.report.lines in
    let new = moment c.play.new.world (g.D.Disk.history c.play.new.d) (g.D.Disk.size c.play.new.d) (g.D.Disk.faults c.play.new.d) c.play.new.report.lines in
    run_refused g.D.Disk.tells old mid new c.args.plays.now c.loop-next.next-index c.next-item.result c.loop-next-test.true c.next-item.is _ _
    c.loop-next.invariant.led c.in-Err.refusal
    (subst (λ (told : Result (Unit {0}) LogRefusal). PlayLed g.D.Disk.tells mid new (Ok told) (law_play c.next-item.result)) c.in-Err.is c.in_ok-play.ensures.led)

pub returns-in-Err-clause-stops : goal.returns-in-Err-clause-stops
returns-in-Err-clause-stops g c =
    let old = moment c.args.world.now (g.D.Disk.history c.args.d.now) (g.D.Disk.size c.args.d.now) (g.D.Disk.faults c.args.d.now) c.args.report.now.lines in
    let mid = moment c.loop-next.world (g.D.Disk.history c.loop-next.d) (g.D.Disk.size c.loop-next.d) (g.D.Disk.faults c.loop-next.d) c.loop-next.report.lines in
    let new = moment c.play.new.world (g.D.Disk.history c.play.new.d) (g.D.Disk.size c.play.new.d) (g.D.Disk.faults c.play.new.d) c.play.new.report.lines in
    stops_join g.D.Disk.tells old mid new tt c.loop-next.invariant.led.added c.in_ok-play.ensures.led.added
    c.loop-next.invariant.led.header c.loop-next.invariant.led.lines c.in_ok-play.ensures.led.lines (Ok (Err c.in-Err.refusal)) c.loop-next.invariant.stops
    (stops_whole g.D.Disk.tells mid new c.in_ok-play.field-0 (Err c.in-Err.refusal) c.in_ok-play.ensures.stops)

pub returns-in-Err-clause-heard : goal.returns-in-Err-clause-heard
returns-in-Err-clause-heard g c =
    let old = moment c.args.world.now (g.D.Disk.history c.args.d.now) (g.D.Disk.size c.args.d.now) (g.D.Disk.faults c.args.d.now) c.args.report.now.lines in
    let mid = moment c.loop-next.world (g.D.Disk.history c.loop-next.d) (g.D.Disk.size c.loop-next.d) (g.D.Disk.faults c.loop-next.d) c.loop-next.report.lines in
    let new = moment c.play.new.world (g.D.Disk.history c.play.new.d) (g.D.Disk.size c.play.new.d) (g.D.Disk.faults c.play.new.d) c.play.new.report.lines in
    run_heard g.D.Disk.tells old mid new c.args.plays.now c.loop-next.next-index c.next-item.result c.loop-next-test.true c.next-item.is _ _
    c.loop-next.invariant.led (g.L.Logs.logs c.args.logs.now) (g.L.Logs.logs c.loop-next.logs) (g.L.Logs.logs c.play.new.logs) c.in_ok-play.ensures.led.added c.in_ok-play.ensures.led.lines
    c.loop-next.invariant.heard (Ok (Err c.in-Err.refusal))
    (subst (λ (told : Result (Unit {0}) LogRefusal). HeardLed g.D.Disk.tells mid new (g.L.Logs.logs c.loop-next.logs) (g.L.Logs.logs c.play.new.logs) (Ok told)) c.in-Err.is c.in_ok-play.ensures.heard)

pub loop-next-preserved : goal.loop-next-preserved
loop-next-preserved g c =
    let old = moment c.args.world.now (g.D.Disk.history c.args.d.now) (g.D.Disk.size c.args.d.now) (g.D.Disk.faults c.args.d.now) c.args.report.now.lines in
    let mid = moment c.loop-next.world (g.D.Disk.history c.loop-next.d) (g.D.Disk.size c.loop-next.d) (g.D.Disk.faults c.loop-next.d) c.loop-next.report.lines in
    let new = moment c.play.new.world (g.D.Disk.history c.play.new.d) (g.D.Disk.size c.play.new.d) (g.D.Disk.faults c.play.new.d) c.play.new.report.lines in
    record {
      led = run_more g.D.Disk.tells old mid new c.args.plays.now c.loop-next.next-index c.next-item.result c.loop-next-test.true c.next-item.is _ _
          c.loop-next.invariant.led c.in_ok-play.field-0 c.in_ok-play.ensures.led;
      stops = stops_join g.D.Disk.tells old mid new tt c.loop-next.invariant.led.added c.in_ok-play.ensures.led.added
          c.loop-next.invariant.led.header c.loop-next.invariant.led.lines c.in_ok-play.ensures.led.lines (Ok tt) c.loop-next.invariant.stops
          (stops_whole g.D.Disk.tells mid new c.in_ok-play.field-0 tt c.in_ok-play.ensures.stops);
      heard = run_heard g.D.Disk.tells old mid new c.args.plays.now c.loop-next.next-index c.next-item.result c.loop-next-test.true c.next-item.is _ _
          c.loop-next.invariant.led (g.L.Logs.logs c.args.logs.now) (g.L.Logs.logs c.loop-next.logs) (g.L.Logs.logs c.play.new.logs) c.in_ok-play.ensures.led.added c.in_ok-play.ensures.led.lines
          c.loop-next.invariant.heard (Ok (Ok c.in-Ok.field-0))
          (subst (λ (told : Result (Unit {0}) LogRefusal). HeardLed g.D.Disk.tells mid new (g.L.Logs.logs c.loop-next.logs) (g.L.Logs.logs c.play.new.logs) (Ok told)) c.in-Ok.is c.in_ok-play.ensures.heard);
    }

pub returns-clause-led : goal.returns-clause-led
returns-clause-led g c =
    let f = form_at c.args.world.now in
    let old = moment c.args.world.now (g.D.Disk.history c.args.d.now) (g.D.Disk.size c.args.d.now) (g.D.Disk.faults c.args.d.now) c.args.report.now.lines in
    let new = moment c.loop-next.world (g.D.Disk.history c.loop-next.d) (g.D.Disk.size c.loop-next.d) (g.D.Disk.faults c.loop-next.d) c.loop-next.report.lines in
    let all = take_all c.loop-next.next-index c.args.plays.now c.loop-next-test.false in
    led_whole g.D.Disk.tells old new _ _ _ _ _ _ tt (Ok tt) c.loop-next.invariant.led (λ state lines z is C. subst (λ plays. Course f state (law_plays plays) lines z) all C)

pub returns-clause-stops : goal.returns-clause-stops
returns-clause-stops g c =
    let old = moment c.args.world.now (g.D.Disk.history c.args.d.now) (g.D.Disk.size c.args.d.now) (g.D.Disk.faults c.args.d.now) c.args.report.now.lines in
    let new = moment c.loop-next.world (g.D.Disk.history c.loop-next.d) (g.D.Disk.size c.loop-next.d) (g.D.Disk.faults c.loop-next.d) c.loop-next.report.lines in
    stops_whole g.D.Disk.tells old new tt (Ok tt) c.loop-next.invariant.stops
