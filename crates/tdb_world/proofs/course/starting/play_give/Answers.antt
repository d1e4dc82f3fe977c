-- A free opener is given the command; of another the report says how it stands.
use Rattle.std.proofs.Common.{refl}
use Rattle.tdb_law.specs.Plays.{Play as LawPlay}
use Rattle.tdb_commands.specs.declared.line.Line.TheVariants as Lines
use Rattle.tdb_commands.specs.InLaw.{law_opener, law_command}
use Rattle.tdb_world.proofs.Courses.Answered.{answered, give_led}
use Rattle.tdb_world.proofs.Courses.Standings.{busy_live, busy_never_idle}
use Rattle.tdb_world.proofs.course.starting.play_give.Goals as goal

pub returns-in-Absent : goal.returns-in-Absent
returns-in-Absent c = record {
  led = λ tells h size faults W.
      answered tells c.args.world.now h size faults (LawPlay.Give (law_opener c.args.who) (law_command c.args.command.now)) (Lines.Absent c.args.who) c.args.report.now.lines c.tell.new.report.lines W
      (λ g state is. (refl, c.standing.ensures.absent c.in-Absent.is g state is)) refl c.tell.result c.tell.ensures.told c.tell.ensures.err c.tell.ensures.memory;
}

pub returns-in-Busy : goal.returns-in-Busy
returns-in-Busy c =
    let w = c.args.world.now in
    let busy = c.standing.ensures.busy c.in-Busy.is in
    record {
      led = λ tells h size faults W.
          answered tells w h size faults (LawPlay.Give (law_opener c.args.who) (law_command c.args.command.now)) (Lines.Occupied c.args.who) c.args.report.now.lines c.tell-in-Busy.new.report.lines W
          (λ g state is. (refl, busy_live w _ _ W c.args.who g state is busy c.requires.named, busy_never_idle w _ _ W c.args.who g state is busy)) refl c.tell-in-Busy.result c.tell-in-Busy.ensures.told c.tell-in-Busy.ensures.err
          c.tell-in-Busy.ensures.memory;
    }

pub returns-in-Idle : goal.returns-in-Idle
returns-in-Idle c = record {
  led = λ tells h size faults W.
      give_led tells c.args.world.now c.give_copy.new.world h size faults c.args.who (law_command c.args.command.now) c.args.report.now.lines W c.give_copy.result c.give_copy.ensures.gifted c.give_copy.ensures.err c.give_copy.ensures.memory;
}

pub give_copy-requires-clause-free : goal.give_copy-requires-clause-free
give_copy-requires-clause-free c = c.standing.ensures.idle c.in-Idle.is
