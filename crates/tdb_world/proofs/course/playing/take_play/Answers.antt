-- Each play is one of these.
use Rattle.std.proofs.Common.{refl, sym, subst}
use Rattle.tdb_law.specs.Plays.{Play as LawPlay}
use Rattle.tdb_commands.specs.InLaw.{law_play}
use Rattle.tdb_world.specs.Courses.Led.{moment}
use Rattle.tdb_world.specs.Courses.Told.{PlayLed}
use Rattle.tdb_world.proofs.Courses.StoppedPlays.{turnless_stops}
use Rattle.tdb_world.proofs.course.playing.take_play.Goals as goal

pub returns-in-Join : goal.returns-in-Join
returns-in-Join g c = record {
  led =
      subst (λ p. PlayLed g.D.Disk.tells (moment c.args.world.now (g.D.Disk.history c.args.d.now) (g.D.Disk.size c.args.d.now) (g.D.Disk.faults c.args.d.now) c.args.report.now.lines)
      (moment c.play_join.new.world (g.D.Disk.history c.args.d.now) (g.D.Disk.size c.args.d.now) (g.D.Disk.faults c.args.d.now) c.play_join.new.report.lines) c.play_join.result (law_play p)) (sym c.in-Join.is)
      (c.play_join.ensures.led g.D.Disk.tells (g.D.Disk.history c.args.d.now) (g.D.Disk.size c.args.d.now) (g.D.Disk.faults c.args.d.now) c.requires.fits);
  stops =
      turnless_stops g.D.Disk.tells (moment c.args.world.now (g.D.Disk.history c.args.d.now) (g.D.Disk.size c.args.d.now) (g.D.Disk.faults c.args.d.now) c.args.report.now.lines)
      (moment c.play_join.new.world (g.D.Disk.history c.args.d.now) (g.D.Disk.size c.args.d.now) (g.D.Disk.faults c.args.d.now) c.play_join.new.report.lines) LawPlay.Join tt refl c.play_join.result
      (c.play_join.ensures.led g.D.Disk.tells (g.D.Disk.history c.args.d.now) (g.D.Disk.size c.args.d.now) (g.D.Disk.faults c.args.d.now) c.requires.fits);
}

pub returns-in-Give : goal.returns-in-Give
returns-in-Give g c = record {
  led =
      subst (λ p. PlayLed g.D.Disk.tells (moment c.args.world.now (g.D.Disk.history c.args.d.now) (g.D.Disk.size c.args.d.now) (g.D.Disk.faults c.args.d.now) c.args.report.now.lines)
      (moment c.play_give.new.world (g.D.Disk.history c.args.d.now) (g.D.Disk.size c.args.d.now) (g.D.Disk.faults c.args.d.now) c.play_give.new.report.lines) c.play_give.result (law_play p)) (sym c.in-Give.is)
      (c.play_give.ensures.led g.D.Disk.tells (g.D.Disk.history c.args.d.now) (g.D.Disk.size c.args.d.now) (g.D.Disk.faults c.args.d.now) c.requires.fits);
  stops =
      turnless_stops g.D.Disk.tells (moment c.args.world.now (g.D.Disk.history c.args.d.now) (g.D.Disk.size c.args.d.now) (g.D.Disk.faults c.args.d.now) c.args.report.now.lines)
      (moment c.play_give.new.world (g.D.Disk.history c.args.d.now) (g.D.Disk.size c.args.d.now) (g.D.Disk.faults c.args.d.now) c.play_give.new.report.lines) _ tt refl c.play_give.result
      (c.play_give.ensures.led g.D.Disk.tells (g.D.Disk.history c.args.d.now) (g.D.Disk.size c.args.d.now) (g.D.Disk.faults c.args.d.now) c.requires.fits);
}

pub returns-in-Do : goal.returns-in-Do
returns-in-Do g c = record {
  led =
      subst (λ p. PlayLed g.D.Disk.tells (moment c.args.world.now (g.D.Disk.history c.args.d.now) (g.D.Disk.size c.args.d.now) (g.D.Disk.faults c.args.d.now) c.args.report.now.lines)
      (moment c.play_do.new.world (g.D.Disk.history c.play_do.new.d) (g.D.Disk.size c.play_do.new.d) (g.D.Disk.faults c.play_do.new.d) c.play_do.new.report.lines) c.play_do.result (law_play p)) (sym c.in-Do.is)
      c.play_do.ensures.led;
  stops = c.play_do.ensures.stops;
}

pub returns-in-Turn : goal.returns-in-Turn
returns-in-Turn g c = record {
  led =
      subst (λ p. PlayLed g.D.Disk.tells (moment c.args.world.now (g.D.Disk.history c.args.d.now) (g.D.Disk.size c.args.d.now) (g.D.Disk.faults c.args.d.now) c.args.report.now.lines)
      (moment c.play_turn.new.world (g.D.Disk.history c.play_turn.new.d) (g.D.Disk.size c.play_turn.new.d) (g.D.Disk.faults c.play_turn.new.d) c.play_turn.new.report.lines) c.play_turn.result (law_play p)) (sym c.in-Turn.is)
      c.play_turn.ensures.led;
  stops = c.play_turn.ensures.stops;
}

pub returns-in-Go : goal.returns-in-Go
returns-in-Go g c = record {
  led =
      subst (λ p. PlayLed g.D.Disk.tells (moment c.args.world.now (g.D.Disk.history c.args.d.now) (g.D.Disk.size c.args.d.now) (g.D.Disk.faults c.args.d.now) c.args.report.now.lines)
      (moment c.play_go.new.world (g.D.Disk.history c.play_go.new.d) (g.D.Disk.size c.play_go.new.d) (g.D.Disk.faults c.play_go.new.d) c.play_go.new.report.lines) c.play_go.result (law_play p)) (sym c.in-Go.is)
      c.play_go.ensures.led;
  stops = c.play_go.ensures.stops;
}

pub returns-in-Die : goal.returns-in-Die
returns-in-Die g c = record {
  led =
      subst (λ p. PlayLed g.D.Disk.tells (moment c.args.world.now (g.D.Disk.history c.args.d.now) (g.D.Disk.size c.args.d.now) (g.D.Disk.faults c.args.d.now) c.args.report.now.lines)
      (moment c.play_die.new.world (g.D.Disk.history c.args.d.now) (g.D.Disk.size c.args.d.now) (g.D.Disk.faults c.args.d.now) c.play_die.new.report.lines) c.play_die.result (law_play p)) (sym c.in-Die.is)
      (c.play_die.ensures.led g.D.Disk.tells (g.D.Disk.history c.args.d.now) (g.D.Disk.size c.args.d.now) (g.D.Disk.faults c.args.d.now) c.requires.fits);
  stops =
      turnless_stops g.D.Disk.tells (moment c.args.world.now (g.D.Disk.history c.args.d.now) (g.D.Disk.size c.args.d.now) (g.D.Disk.faults c.args.d.now) c.args.report.now.lines)
      (moment c.play_die.new.world (g.D.Disk.history c.args.d.now) (g.D.Disk.size c.args.d.now) (g.D.Disk.faults c.args.d.now) c.play_die.new.report.lines) _ tt refl c.play_die.result
      (c.play_die.ensures.led g.D.Disk.tells (g.D.Disk.history c.args.d.now) (g.D.Disk.size c.args.d.now) (g.D.Disk.faults c.args.d.now) c.requires.fits);
}
