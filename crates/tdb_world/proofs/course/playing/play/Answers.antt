-- A play that drops a log is answered by a line; of another the logs are told what it added.
use Rattle.std.proofs.Common.{◌-◌, [], ◌∷◌, Ok, Err, length, refl, sym, ◌∙◌, ap, subst, inl, append-nil}
use Rattle.std.proofs.lemmas.Result.{err_from_is_err_and}
use Rattle.tdb_law.specs.Plays.{Play as LawPlay}
use Rattle.tdb_commands.specs.declared.line.Line.TheVariants as Lines
use Rattle.tdb_commands.specs.InLaw.{law_play}
use Rattle.tdb_world.specs.Courses.Hearing.{Heard}
use Rattle.tdb_world.specs.Courses.Led.{moment}
use Rattle.tdb_world.specs.Courses.Told.{PlayLed}
use Rattle.tdb_world.proofs.Courses.Answered.{answered}
use Rattle.tdb_world.proofs.Courses.Dropping.{stays_unless}
use Rattle.tdb_world.proofs.Courses.HeardPlays.{play_heard, fault_heard}
use Rattle.tdb_world.proofs.Courses.Leading.{led_whole, led_fault}
use Rattle.tdb_world.proofs.Courses.StoppedPlays.{answered_stops}
use Rattle.tdb_world.proofs.Courses.Stopping.{same_added, stops_whole, stops_fault}
use Rattle.tdb_world.proofs.course.playing.play.Goals as goal

pub returns-in_err-drop_log-clause-led : goal.returns-in_err-drop_log-clause-led
returns-in_err-drop_log-clause-led g c =
    let q = err_from_is_err_and c.from_residual.result c.from_residual.ensures.1 in
    rw (q.1, q.2)
    (led_fault g.D.Disk.tells (moment c.args.world.now (g.D.Disk.history c.args.d.now) (g.D.Disk.size c.args.d.now) (g.D.Disk.faults c.args.d.now) c.args.report.now.lines) (moment c.args.world.now (g.D.Disk.history c.args.d.now) (g.D.Disk.size c.args.d.now) (g.D.Disk.faults c.args.d.now) c.drop_log.new.report.lines) _ _ _ _ _ _ c.in_err-drop_log.field-0.0
    (subst (λ p. PlayLed {V = Unit {0}} g.D.Disk.tells (moment c.args.world.now (g.D.Disk.history c.args.d.now) (g.D.Disk.size c.args.d.now) (g.D.Disk.faults c.args.d.now) c.args.report.now.lines) (moment c.args.world.now (g.D.Disk.history c.args.d.now) (g.D.Disk.size c.args.d.now) (g.D.Disk.faults c.args.d.now) c.drop_log.new.report.lines) (Err c.in_err-drop_log.field-0.0) (law_play p)) (sym c.in-SetLog.is)
    (answered g.D.Disk.tells c.args.world.now (g.D.Disk.history c.args.d.now) (g.D.Disk.size c.args.d.now) (g.D.Disk.faults c.args.d.now) LawPlay.SetLog (Lines.LogsLeft (length (g.L.Logs.logs c.args.logs.now) - 1)) c.args.report.now.lines c.drop_log.new.report.lines c.requires.fits (λ h state is. tt) refl (Err c.in_err-drop_log.field-0.0) tt c.in_err-drop_log.ensures.kept.0 c.in_err-drop_log.ensures.memory)) (λ state lines z is B. B) (λ state lines z is L. L))

pub returns-in_err-drop_log-clause-stops : goal.returns-in_err-drop_log-clause-stops
returns-in_err-drop_log-clause-stops g c =
    let q = err_from_is_err_and c.from_residual.result c.from_residual.ensures.1 in
    rw (q.1, q.2)
    (stops_fault {V = Unit {0}} g.D.Disk.tells (moment c.args.world.now (g.D.Disk.history c.args.d.now) (g.D.Disk.size c.args.d.now) (g.D.Disk.faults c.args.d.now) c.args.report.now.lines) (moment c.args.world.now (g.D.Disk.history c.args.d.now) (g.D.Disk.size c.args.d.now) (g.D.Disk.faults c.args.d.now) c.drop_log.new.report.lines) c.in_err-drop_log.field-0.0
    (answered_stops g.D.Disk.tells c.args.world.now (g.D.Disk.history c.args.d.now) (g.D.Disk.size c.args.d.now) (g.D.Disk.faults c.args.d.now) LawPlay.SetLog (Lines.LogsLeft (length (g.L.Logs.logs c.args.logs.now) - 1)) c.args.report.now.lines c.drop_log.new.report.lines (λ h state is. tt) (Err c.in_err-drop_log.field-0.0) tt c.in_err-drop_log.ensures.kept.0))

pub returns-in_err-drop_log-clause-heard : goal.returns-in_err-drop_log-clause-heard
returns-in_err-drop_log-clause-heard g c =
    let q = err_from_is_err_and c.from_residual.result c.from_residual.ensures.1 in
    rw (q.1)
    (λ sees state added is e.
    inl (subst (λ ls. Heard (g.L.Logs.logs c.args.logs.now) ls (g.L.Logs.logs c.drop_log.new.logs))
    (same_added c.args.report.now.lines c.drop_log.new.report.lines [] added (c.in_err-drop_log.ensures.kept.0 ∙ sym (append-nil c.args.report.now.lines)) e)
    (ap g.L.Logs.logs c.in_err-drop_log.ensures.kept.1)))

pub returns-in-SetLog-clause-led : goal.returns-in-SetLog-clause-led
returns-in-SetLog-clause-led g c =
    led_whole g.D.Disk.tells (moment c.args.world.now (g.D.Disk.history c.args.d.now) (g.D.Disk.size c.args.d.now) (g.D.Disk.faults c.args.d.now) c.args.report.now.lines) (moment c.args.world.now (g.D.Disk.history c.args.d.now) (g.D.Disk.size c.args.d.now) (g.D.Disk.faults c.args.d.now) c.drop_log.new.report.lines) _ _ _ _ _ _ tt (Ok tt)
    (subst (λ p. PlayLed {V = Unit {0}} g.D.Disk.tells (moment c.args.world.now (g.D.Disk.history c.args.d.now) (g.D.Disk.size c.args.d.now) (g.D.Disk.faults c.args.d.now) c.args.report.now.lines) (moment c.args.world.now (g.D.Disk.history c.args.d.now) (g.D.Disk.size c.args.d.now) (g.D.Disk.faults c.args.d.now) c.drop_log.new.report.lines) (Ok tt) (law_play p)) (sym c.in-SetLog.is)
    (answered g.D.Disk.tells c.args.world.now (g.D.Disk.history c.args.d.now) (g.D.Disk.size c.args.d.now) (g.D.Disk.faults c.args.d.now) LawPlay.SetLog (Lines.LogsLeft (length (g.L.Logs.logs c.args.logs.now) - 1)) c.args.report.now.lines c.drop_log.new.report.lines c.requires.fits (λ h state is. tt) refl (Ok tt) c.in_ok-drop_log.ensures.dropped.0 tt tt)) (λ state lines z is G. G)

pub returns-in-SetLog-clause-stops : goal.returns-in-SetLog-clause-stops
returns-in-SetLog-clause-stops g c =
    stops_whole g.D.Disk.tells (moment c.args.world.now (g.D.Disk.history c.args.d.now) (g.D.Disk.size c.args.d.now) (g.D.Disk.faults c.args.d.now) c.args.report.now.lines) (moment c.args.world.now (g.D.Disk.history c.args.d.now) (g.D.Disk.size c.args.d.now) (g.D.Disk.faults c.args.d.now) c.drop_log.new.report.lines) tt (Ok tt)
    (answered_stops g.D.Disk.tells c.args.world.now (g.D.Disk.history c.args.d.now) (g.D.Disk.size c.args.d.now) (g.D.Disk.faults c.args.d.now) LawPlay.SetLog (Lines.LogsLeft (length (g.L.Logs.logs c.args.logs.now) - 1)) c.args.report.now.lines c.drop_log.new.report.lines (λ h state is. tt) (Ok tt) c.in_ok-drop_log.ensures.dropped.0 tt)

pub returns-in-SetLog-clause-heard : goal.returns-in-SetLog-clause-heard
returns-in-SetLog-clause-heard g c sees state added is e =
    subst (λ ls. Heard (g.L.Logs.logs c.args.logs.now) ls (g.L.Logs.logs c.drop_log.new.logs))
    (same_added c.args.report.now.lines c.drop_log.new.report.lines ((Lines.LogsLeft (length (g.L.Logs.logs c.args.logs.now) - 1)) ∷ []) added c.in_ok-drop_log.ensures.dropped.0 e)
    (refl, c.in_ok-drop_log.ensures.dropped.1)

pub returns-in_err-taken : goal.returns-in_err-taken
returns-in_err-taken g c =
    let q = err_from_is_err_and c.from_residual-in_err-taken.result c.from_residual-in_err-taken.ensures.1 in
    record {
      led = rw (q.1, q.2)
          (led_fault g.D.Disk.tells (moment c.args.world.now (g.D.Disk.history c.args.d.now) (g.D.Disk.size c.args.d.now) (g.D.Disk.faults c.args.d.now) c.args.report.now.lines) (moment c.take_play-taken.new.world (g.D.Disk.history c.take_play-taken.new.d) (g.D.Disk.size c.take_play-taken.new.d) (g.D.Disk.faults c.take_play-taken.new.d) c.take_play-taken.new.report.lines) _ _ _ _ _ _ c.in_err-taken.field-0.0 c.in_err-taken.ensures.led (λ state lines z is B. B) (λ state lines z is L. L));
      stops = rw (q.1, q.2) (stops_fault {V = Unit {0}} g.D.Disk.tells (moment c.args.world.now (g.D.Disk.history c.args.d.now) (g.D.Disk.size c.args.d.now) (g.D.Disk.faults c.args.d.now) c.args.report.now.lines) (moment c.take_play-taken.new.world (g.D.Disk.history c.take_play-taken.new.d) (g.D.Disk.size c.take_play-taken.new.d) (g.D.Disk.faults c.take_play-taken.new.d) c.take_play-taken.new.report.lines) c.in_err-taken.field-0.0 c.in_err-taken.ensures.stops);
      heard = rw (q.1)
          (fault_heard g.D.Disk.tells (moment c.args.world.now (g.D.Disk.history c.args.d.now) (g.D.Disk.size c.args.d.now) (g.D.Disk.faults c.args.d.now) c.args.report.now.lines) (moment c.take_play-taken.new.world (g.D.Disk.history c.take_play-taken.new.d) (g.D.Disk.size c.take_play-taken.new.d) (g.D.Disk.faults c.take_play-taken.new.d) c.take_play-taken.new.report.lines) _ _ c.args.play.now (stays_unless c.args.play.now c.in_default.not-SetLog) c.take_play-taken.result c.take_play-taken.ensures.led c.len-from.result c.len-from.ensures c.tell_logs-told.result c.tell_logs-told.ensures.heard c.in_err-taken.field-0.0);
    }

pub returns : goal.returns
returns g c = record {
  led = led_whole g.D.Disk.tells (moment c.args.world.now (g.D.Disk.history c.args.d.now) (g.D.Disk.size c.args.d.now) (g.D.Disk.faults c.args.d.now) c.args.report.now.lines) (moment c.take_play-taken.new.world (g.D.Disk.history c.take_play-taken.new.d) (g.D.Disk.size c.take_play-taken.new.d) (g.D.Disk.faults c.take_play-taken.new.d) c.take_play-taken.new.report.lines) _ _ _ _ _ _ tt c.tell_logs-told.result c.in_ok-taken.ensures.led (λ state lines z is G. G);
  stops = stops_whole {V = Unit {0}} g.D.Disk.tells (moment c.args.world.now (g.D.Disk.history c.args.d.now) (g.D.Disk.size c.args.d.now) (g.D.Disk.faults c.args.d.now) c.args.report.now.lines) (moment c.take_play-taken.new.world (g.D.Disk.history c.take_play-taken.new.d) (g.D.Disk.size c.take_play-taken.new.d) (g.D.Disk.faults c.take_play-taken.new.d) c.take_play-taken.new.report.lines) tt c.tell_logs-told.result c.in_ok-taken.ensures.stops;
  heard = play_heard g.D.Disk.tells (moment c.args.world.now (g.D.Disk.history c.args.d.now) (g.D.Disk.size c.args.d.now) (g.D.Disk.faults c.args.d.now) c.args.report.now.lines) (moment c.take_play-taken.new.world (g.D.Disk.history c.take_play-taken.new.d) (g.D.Disk.size c.take_play-taken.new.d) (g.D.Disk.faults c.take_play-taken.new.d) c.take_play-taken.new.report.lines) _ _ c.args.play.now (stays_unless c.args.play.now c.in_default.not-SetLog) c.take_play-taken.result c.take_play-taken.ensures.led c.len-from.result c.len-from.ensures c.tell_logs-told.result c.tell_logs-told.ensures.heard;
}
