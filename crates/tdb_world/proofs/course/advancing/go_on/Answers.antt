-- Each turn goes on from the steps before it, and there are fewer than nine.
use Rattle.std.proofs.Common.{◌≡◌, Ok, Err, true, false, refl, subst, arith}
use Rattle.std.proofs.lemmas.Result.{err_from_is_err_and}
use Rattle.tdb_commands.specs.InLaw.{law_opener}
use Rattle.tdb_openers.specs.Played.{Nothing, Steps, TakesOne}
use Rattle.tdb_openers.proofs.Joining.Courses.{steps_few}
use Rattle.tdb_world.specs.Whole.{form_at}
use Rattle.tdb_world.specs.Courses.Led.{moment, Led}
use Rattle.tdb_world.specs.Courses.Turns.{TakesOrClears}
use Rattle.tdb_world.proofs.Courses.Leading.{led_none, led_whole, led_fault}
use Rattle.tdb_world.proofs.Courses.Going.{turn_joined}
use Rattle.tdb_world.proofs.Courses.Stopping.{stops_fault, stops_join, stops_none, stops_whole}
use Rattle.tdb_world.proofs.course.advancing.go_on.Goals as goal

pub loop-taken-init : goal.loop-taken-init
loop-taken-init g c = record {
  busy = c.requires.busy;
  led = led_none g.D.Disk.tells (moment c.args.world.now (g.D.Disk.history c.args.d.now) (g.D.Disk.size c.args.d.now) (g.D.Disk.faults c.args.d.now) c.args.report.now.lines) tt _ _ _ c.requires.fits (λ state is. (refl, refl));
  stops = stops_none g.D.Disk.tells (moment c.args.world.now (g.D.Disk.history c.args.d.now) (g.D.Disk.size c.args.d.now) (g.D.Disk.faults c.args.d.now) c.args.report.now.lines)
      (moment c.args.world.now (g.D.Disk.history c.args.d.now) (g.D.Disk.size c.args.d.now) (g.D.Disk.faults c.args.d.now) c.args.report.now.lines) (Ok tt) refl refl refl;
}

pub returns-in_err-told_turn : goal.returns-in_err-told_turn
returns-in_err-told_turn g c =
    let q = err_from_is_err_and c.from_residual.result c.from_residual.ensures.1 in
    let old = moment c.args.world.now (g.D.Disk.history c.args.d.now) (g.D.Disk.size c.args.d.now) (g.D.Disk.faults c.args.d.now) c.args.report.now.lines in
    let mid = moment c.loop-taken.world (g.D.Disk.history c.loop-taken.d) (g.D.Disk.size c.loop-taken.d) (g.D.Disk.faults c.loop-taken.d) c.loop-taken.report.lines in
    let new = moment c.told_turn.new.world (g.D.Disk.history c.told_turn.new.d) (g.D.Disk.size c.told_turn.new.d) (g.D.Disk.faults c.told_turn.new.d) c.told_turn.new.report.lines in
    record {
      led = rw (q.1, q.2)
          (led_fault g.D.Disk.tells old new _ _ _ _ _ _ c.in_err-told_turn.field-0.0
          (turn_joined g.D.Disk.tells old mid new (law_opener c.args.who) c.loop-taken._taken c.loop-taken-test.true c.loop-taken.invariant.led (Err c.in_err-told_turn.field-0.0) c.in_err-told_turn.ensures.led)
          (λ state lines z is T. T) (λ state lines z is T. T));
      stops = rw (q.1, q.2)
          (stops_fault g.D.Disk.tells old new c.in_err-told_turn.field-0.0
          (stops_join g.D.Disk.tells old mid new tt c.loop-taken.invariant.led.added c.in_err-told_turn.ensures.led.added
          c.loop-taken.invariant.led.header c.loop-taken.invariant.led.lines c.in_err-told_turn.ensures.led.lines
          (Err c.in_err-told_turn.field-0.0) c.loop-taken.invariant.stops c.in_err-told_turn.ensures.stops));
    }

pub returns-then-not-branch : goal.returns-then-not-branch
returns-then-not-branch g c =
    let old = moment c.args.world.now (g.D.Disk.history c.args.d.now) (g.D.Disk.size c.args.d.now) (g.D.Disk.faults c.args.d.now) c.args.report.now.lines in
    let mid = moment c.loop-taken.world (g.D.Disk.history c.loop-taken.d) (g.D.Disk.size c.loop-taken.d) (g.D.Disk.faults c.loop-taken.d) c.loop-taken.report.lines in
    let new = moment c.told_turn.new.world (g.D.Disk.history c.told_turn.new.d) (g.D.Disk.size c.told_turn.new.d) (g.D.Disk.faults c.told_turn.new.d) c.told_turn.new.report.lines in
    let f = form_at c.loop-taken.world in
    let o = law_opener c.args.who in
    record {
      led = led_whole g.D.Disk.tells old new _ _ _ _ _ _ false tt
          (turn_joined g.D.Disk.tells old mid new o c.loop-taken._taken c.loop-taken-test.true c.loop-taken.invariant.led (Ok false)
          (subst (λ more. Led g.D.Disk.tells mid new (Ok more) (λ state. TakesOne f state o) Nothing (λ state. TakesOrClears f state o)) c.if-not-branch.true c.in_ok-told_turn.ensures.led)) (λ state lines z is T. T);
      stops = stops_whole g.D.Disk.tells old new _ tt
          (stops_join g.D.Disk.tells old mid new tt c.loop-taken.invariant.led.added c.in_ok-told_turn.ensures.led.added
          c.loop-taken.invariant.led.header c.loop-taken.invariant.led.lines c.in_ok-told_turn.ensures.led.lines
          (Ok _) c.loop-taken.invariant.stops c.in_ok-told_turn.ensures.stops);
    }

pub loop-taken-preserved : goal.loop-taken-preserved
loop-taken-preserved g c =
    let old = moment c.args.world.now (g.D.Disk.history c.args.d.now) (g.D.Disk.size c.args.d.now) (g.D.Disk.faults c.args.d.now) c.args.report.now.lines in
    let mid = moment c.loop-taken.world (g.D.Disk.history c.loop-taken.d) (g.D.Disk.size c.loop-taken.d) (g.D.Disk.faults c.loop-taken.d) c.loop-taken.report.lines in
    let new = moment c.told_turn.new.world (g.D.Disk.history c.told_turn.new.d) (g.D.Disk.size c.told_turn.new.d) (g.D.Disk.faults c.told_turn.new.d) c.told_turn.new.report.lines in
    let f = form_at c.loop-taken.world in
    let o = law_opener c.args.who in
    record {
      busy = c.in_ok-told_turn.ensures.busy c.if-not-branch.false;
      led = led_whole g.D.Disk.tells old new _ _ _ _ _ _ true tt
          (turn_joined g.D.Disk.tells old mid new o c.loop-taken._taken c.loop-taken-test.true c.loop-taken.invariant.led (Ok true)
          (subst (λ more. Led g.D.Disk.tells mid new (Ok more) (λ state. TakesOne f state o) Nothing (λ state. TakesOrClears f state o)) c.if-not-branch.false c.in_ok-told_turn.ensures.led)) (λ state lines z is T. T);
      stops = stops_whole g.D.Disk.tells old new _ tt
          (stops_join g.D.Disk.tells old mid new tt c.loop-taken.invariant.led.added c.in_ok-told_turn.ensures.led.added
          c.loop-taken.invariant.led.header c.loop-taken.invariant.led.lines c.in_ok-told_turn.ensures.led.lines
          (Ok _) c.loop-taken.invariant.stops c.in_ok-told_turn.ensures.stops);
    }

pub returns : goal.returns
returns g c =
    let f = form_at c.args.world.now in
    let o = law_opener c.args.who in
    let least = c.loop-taken-test.false in
    let most = c.loop-taken.auto._taken-end in
    let nine : c.loop-taken._taken ≡ 9 = omega (arith, least, most) in
    record {
      led = led_whole g.D.Disk.tells (moment c.args.world.now (g.D.Disk.history c.args.d.now) (g.D.Disk.size c.args.d.now) (g.D.Disk.faults c.args.d.now) c.args.report.now.lines)
          (moment c.loop-taken.world (g.D.Disk.history c.loop-taken.d) (g.D.Disk.size c.loop-taken.d) (g.D.Disk.faults c.loop-taken.d) c.loop-taken.report.lines) _ _ _ _ _ _ tt tt c.loop-taken.invariant.led
          (λ state lines z is S. absurd (steps_few f state z o lines (subst (λ n. Steps f n state o lines z) nine S)));
      stops = c.loop-taken.invariant.stops;
    }
