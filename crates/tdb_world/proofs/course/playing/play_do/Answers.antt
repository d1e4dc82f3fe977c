-- A free opener is given the command and takes turns of it; of another the report says how it stands.
use Rattle.std.proofs.Common.{refl, sym, [], append-nil, Ok, Err}
use Rattle.tdb_disk.specs.History.{seen}
use Rattle.tdb_law.specs.Plays.{Play as LawPlay}
use Rattle.tdb_commands.specs.declared.line.Line.TheVariants as Lines
use Rattle.tdb_commands.specs.InLaw.{law_opener, law_command}
use Rattle.tdb_world.specs.Courses.Led.{moment}
use Rattle.tdb_world.specs.Courses.Told.{IsAnswered}
use Rattle.tdb_world.proofs.Courses.Answered.{answered, do_not, gift_led}
use Rattle.tdb_world.proofs.Courses.Going.{do_led}
use Rattle.tdb_world.proofs.Courses.Standings.{busy_live, busy_never_idle}
use Rattle.tdb_world.proofs.Courses.StoppedPlays.{answered_stops, gift_stops}
use Rattle.tdb_world.proofs.Courses.Stopping.{stops_join, stops_none}
use Rattle.tdb_world.proofs.course.playing.play_do.Goals as goal

pub returns-in-Absent : goal.returns-in-Absent
returns-in-Absent g c =
    let w = c.args.world.now in
    let said : IsAnswered w (LawPlay.Do (law_opener c.args.who) (law_command c.args.command.now)) (Lines.Absent c.args.who) =
    λ h state is. (refl, c.standing.ensures.absent c.in-Absent.is h state is) in
    record {
      led = answered g.D.Disk.tells w (g.D.Disk.history c.args.d.now) (g.D.Disk.size c.args.d.now) (g.D.Disk.faults c.args.d.now)
          (LawPlay.Do (law_opener c.args.who) (law_command c.args.command.now)) (Lines.Absent c.args.who) c.args.report.now.lines c.tell.new.report.lines
          c.requires.fits said refl c.tell.result c.tell.ensures.told c.tell.ensures.err c.tell.ensures.memory;
      stops = answered_stops g.D.Disk.tells w (g.D.Disk.history c.args.d.now) (g.D.Disk.size c.args.d.now) (g.D.Disk.faults c.args.d.now)
          (LawPlay.Do (law_opener c.args.who) (law_command c.args.command.now)) (Lines.Absent c.args.who) c.args.report.now.lines c.tell.new.report.lines
          said c.tell.result c.tell.ensures.told c.tell.ensures.err;
    }

pub returns-in-Busy : goal.returns-in-Busy
returns-in-Busy g c =
    let w = c.args.world.now in
    let busy = c.standing.ensures.busy c.in-Busy.is in
    let said : IsAnswered w (LawPlay.Do (law_opener c.args.who) (law_command c.args.command.now)) (Lines.Occupied c.args.who) =
    λ h state is. (refl, busy_live w _ _ c.requires.fits c.args.who h state is busy c.requires.named, busy_never_idle w _ _ c.requires.fits c.args.who h state is busy) in
    record {
      led = answered g.D.Disk.tells w (g.D.Disk.history c.args.d.now) (g.D.Disk.size c.args.d.now) (g.D.Disk.faults c.args.d.now)
          (LawPlay.Do (law_opener c.args.who) (law_command c.args.command.now)) (Lines.Occupied c.args.who) c.args.report.now.lines c.tell-in-Busy.new.report.lines
          c.requires.fits said refl c.tell-in-Busy.result c.tell-in-Busy.ensures.told c.tell-in-Busy.ensures.err c.tell-in-Busy.ensures.memory;
      stops = answered_stops g.D.Disk.tells w (g.D.Disk.history c.args.d.now) (g.D.Disk.size c.args.d.now) (g.D.Disk.faults c.args.d.now)
          (LawPlay.Do (law_opener c.args.who) (law_command c.args.command.now)) (Lines.Occupied c.args.who) c.args.report.now.lines c.tell-in-Busy.new.report.lines
          said c.tell-in-Busy.result c.tell-in-Busy.ensures.told c.tell-in-Busy.ensures.err;
    }

pub returns-in-Ok : goal.returns-in-Ok
returns-in-Ok g c =
    let w = c.args.world.now in
    let v = c.give_copy.new.world in
    let h = g.D.Disk.history c.args.d.now in
    let size = g.D.Disk.size c.args.d.now in
    let faults = g.D.Disk.faults c.args.d.now in
    let lines = c.args.report.now.lines in
    let old = moment w h size faults lines in
    let mid = moment v h size faults lines in
    let new = moment c.go_on.new.world (g.D.Disk.history c.go_on.new.d) (g.D.Disk.size c.go_on.new.d) (g.D.Disk.faults c.go_on.new.d) c.go_on.new.report.lines in
    record {
      led = do_led g.D.Disk.tells old mid new c.args.who (law_command c.args.command.now) _ _
          (gift_led g.D.Disk.tells w v h size faults c.args.who (law_command c.args.command.now) lines c.requires.fits (Ok tt) c.in-Ok.ensures.gifted tt tt) c.go_on.result c.go_on.ensures.led;
      stops = stops_join g.D.Disk.tells old mid new tt [] c.go_on.ensures.led.added c.in-Ok.ensures.gifted.header (sym (append-nil lines)) c.go_on.ensures.led.lines c.go_on.result
          (gift_stops g.D.Disk.tells w v h size faults c.args.who (law_command c.args.command.now) lines c.in-Ok.ensures.gifted) c.go_on.ensures.stops;
    }

pub returns-in-Err : goal.returns-in-Err
returns-in-Err g c = record {
  led = do_not g.D.Disk.tells c.args.world.now c.give_copy.new.world (g.D.Disk.history c.args.d.now) (g.D.Disk.size c.args.d.now) (g.D.Disk.faults c.args.d.now) c.args.who (law_command c.args.command.now) c.args.report.now.lines
      c.requires.fits c.in-Err.fault c.in-Err.ensures.err c.in-Err.ensures.memory;
  stops = stops_none g.D.Disk.tells (moment c.args.world.now (g.D.Disk.history c.args.d.now) (g.D.Disk.size c.args.d.now) (g.D.Disk.faults c.args.d.now) c.args.report.now.lines)
      (moment c.give_copy.new.world (g.D.Disk.history c.args.d.now) (g.D.Disk.size c.args.d.now) (g.D.Disk.faults c.args.d.now) c.args.report.now.lines)
      (Err c.in-Err.fault) c.in-Err.ensures.err refl refl;
}

pub give_copy-requires-clause-free : goal.give_copy-requires-clause-free
give_copy-requires-clause-free g c = c.standing.ensures.idle c.in-Idle.is

pub go_on-requires-clause-busy : goal.go_on-requires-clause-busy
go_on-requires-clause-busy g c = c.in-Ok.ensures.gifted.busy

pub go_on-requires-clause-fits : goal.go_on-requires-clause-fits
go_on-requires-clause-fits g c = c.in-Ok.ensures.gifted.fits (seen (g.D.Disk.history c.args.d.now)) (g.D.Disk.size c.args.d.now) c.requires.fits
