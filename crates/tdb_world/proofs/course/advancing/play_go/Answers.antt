-- A busy opener takes turns up to the first that isn't a step; of another the report says how it stands.
use Rattle.std.proofs.Common.{refl}
use Rattle.tdb_law.specs.Plays.{Play as LawPlay}
use Rattle.tdb_commands.specs.declared.line.Line.TheVariants as Lines
use Rattle.tdb_commands.specs.InLaw.{law_opener}
use Rattle.tdb_world.specs.Courses.Led.{moment}
use Rattle.tdb_world.specs.Courses.Told.{IsAnswered}
use Rattle.tdb_world.proofs.Courses.Answered.{answered}
use Rattle.tdb_world.proofs.Courses.Going.{go_led}
use Rattle.tdb_world.proofs.Courses.Standings.{free_live, free_task}
use Rattle.tdb_world.proofs.Courses.StoppedPlays.{answered_stops}
use Rattle.tdb_world.proofs.course.advancing.play_go.Goals as goal

pub returns-in-Absent : goal.returns-in-Absent
returns-in-Absent g c =
    let w = c.args.world.now in
    let said : IsAnswered w (LawPlay.Go (law_opener c.args.who)) (Lines.Absent c.args.who) = λ h state is. (refl, c.standing.ensures.absent c.in-Absent.is h state is) in
    record {
      led = answered g.D.Disk.tells w (g.D.Disk.history c.args.d.now) (g.D.Disk.size c.args.d.now) (g.D.Disk.faults c.args.d.now)
          (LawPlay.Go (law_opener c.args.who)) (Lines.Absent c.args.who) c.args.report.now.lines c.tell.new.report.lines
          c.requires.fits said refl c.tell.result c.tell.ensures.told c.tell.ensures.err c.tell.ensures.memory;
      stops = answered_stops g.D.Disk.tells w (g.D.Disk.history c.args.d.now) (g.D.Disk.size c.args.d.now) (g.D.Disk.faults c.args.d.now)
          (LawPlay.Go (law_opener c.args.who)) (Lines.Absent c.args.who) c.args.report.now.lines c.tell.new.report.lines said c.tell.result c.tell.ensures.told c.tell.ensures.err;
    }

pub returns-in-Idle : goal.returns-in-Idle
returns-in-Idle g c =
    let w = c.args.world.now in
    let idle = c.standing.ensures.idle c.in-Idle.is in
    let said : IsAnswered w (LawPlay.Go (law_opener c.args.who)) (Lines.Idle c.args.who) =
    λ h state is. (refl, free_live w _ _ c.requires.fits c.args.who h state is idle, free_task w _ _ c.requires.fits c.args.who h state is idle) in
    record {
      led = answered g.D.Disk.tells w (g.D.Disk.history c.args.d.now) (g.D.Disk.size c.args.d.now) (g.D.Disk.faults c.args.d.now)
          (LawPlay.Go (law_opener c.args.who)) (Lines.Idle c.args.who) c.args.report.now.lines c.tell-in-Idle.new.report.lines
          c.requires.fits said refl c.tell-in-Idle.result c.tell-in-Idle.ensures.told c.tell-in-Idle.ensures.err c.tell-in-Idle.ensures.memory;
      stops = answered_stops g.D.Disk.tells w (g.D.Disk.history c.args.d.now) (g.D.Disk.size c.args.d.now) (g.D.Disk.faults c.args.d.now)
          (LawPlay.Go (law_opener c.args.who)) (Lines.Idle c.args.who) c.args.report.now.lines c.tell-in-Idle.new.report.lines
          said c.tell-in-Idle.result c.tell-in-Idle.ensures.told c.tell-in-Idle.ensures.err;
    }

pub returns-in-Busy : goal.returns-in-Busy
returns-in-Busy g c = record {
  led = go_led g.D.Disk.tells (moment c.args.world.now (g.D.Disk.history c.args.d.now) (g.D.Disk.size c.args.d.now) (g.D.Disk.faults c.args.d.now) c.args.report.now.lines)
      (moment c.go_on.new.world (g.D.Disk.history c.go_on.new.d) (g.D.Disk.size c.go_on.new.d) (g.D.Disk.faults c.go_on.new.d) c.go_on.new.report.lines) (law_opener c.args.who) c.go_on.result c.go_on.ensures.led;
  stops = c.go_on.ensures.stops;
}

pub go_on-requires-clause-busy : goal.go_on-requires-clause-busy
go_on-requires-clause-busy g c = c.standing.ensures.busy c.in-Busy.is
