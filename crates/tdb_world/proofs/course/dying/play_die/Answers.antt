-- An opener that may die does; of another the report says how it stands.
use Rattle.std.proofs.Common.{◌≡◌, ◌++◌, ◌∷◌, [], true, refl, ap, ◌∙◌, inl, inr}
use Rattle.std.proofs.lemmas.Result.{err_from_is_err_and}
use Rattle.tdb_disk.specs.History.{History, seen}
use Rattle.tdb_law.specs.Plays.{Play as LawPlay}
use Rattle.tdb_law.specs.Plays.Gives.{gives_death}
use Rattle.tdb_law.specs.World.{State}
use Rattle.tdb_commands.specs.declared.line.Line.TheVariants as Lines
use Rattle.tdb_commands.specs.InLaw.{law_opener}
use Rattle.tdb_openers.specs.Played.Begun.{begun_not}
use Rattle.tdb_world.specs.States.{IsStateOf}
use Rattle.tdb_world.proofs.Courses.Answered.{answered, line_led, memory_led}
use Rattle.tdb_world.proofs.Courses.Standings.{busy_live, free_live}
use Rattle.tdb_world.proofs.course.dying.play_die.Goals as goal

pub returns-in-Absent : goal.returns-in-Absent
returns-in-Absent c = record {
  led = λ tells h size faults W.
      answered tells c.args.world.now h size faults (LawPlay.Die (law_opener c.args.who)) (Lines.Absent c.args.who) c.args.report.now.lines c.tell.new.report.lines W
      (λ g state is. (refl, c.standing.ensures.absent c.in-Absent.is g state is)) refl c.tell.result c.tell.ensures.told c.tell.ensures.err c.tell.ensures.memory;
}

pub returns-in-Idle : goal.returns-in-Idle
returns-in-Idle c = record {
  led = λ tells h size faults W.
      answered tells c.args.world.now h size faults (LawPlay.Die (law_opener c.args.who)) (Lines.Occupied c.args.who) c.args.report.now.lines c.tell-in-Idle.new.report.lines W
      (λ g state is. (refl, live g state is, λ may. c.may_die.ensures.may_not c.if-may_die.false g state is (record { live = live g state is; may_die = may }))) refl c.tell-in-Idle.result c.tell-in-Idle.ensures.told
      c.tell-in-Idle.ensures.err c.tell-in-Idle.ensures.memory;
}
  where
    live : (g : History) (state : State) → IsStateOf c.args.world.now g state → (state.own (law_opener c.args.who)).live ≡ true
    live g state is = elim c.in-Idle.is [
      | inl idle ↦ free_live c.args.world.now c.requires.fits.0 c.requires.fits.1 c.requires.fits.2 c.args.who g state is (c.standing.ensures.idle idle)
      | inr busy ↦ busy_live c.args.world.now c.requires.fits.0 c.requires.fits.1 c.requires.fits.2 c.args.who g state is (c.standing.ensures.busy busy) c.requires.named
    ]

pub die-requires-clause-can : goal.die-requires-clause-can
die-requires-clause-can c = c.if-may_die.ensures.can refl

pub returns-then-may_die : goal.returns-then-may_die
returns-then-may_die c = record {
  led = λ tells h size faults W.
      line_led tells c.args.world.now c.die.new.self h size faults (LawPlay.Die (law_opener c.args.who)) (Lines.Died c.args.who) c.args.report.now.lines c.put_line.new.report.lines c.die.ensures.header c.die.ensures.options
      (c.die.ensures.fits (seen h) size W) (λ g state is. (let J = c.die.ensures.dies g state is in (J.0, J.1, gives_death (law_opener c.args.who) refl refl J.2))) (λ k state is. tt) refl
      (c.put_line.ensures.lines ∙ ap (λ ls. ls ++ Lines.Died c.args.who ∷ []) c.in_ok-reserve.ensures.lines);
}

pub returns-in_err-reserve : goal.returns-in_err-reserve
returns-in_err-reserve c =
    let q = err_from_is_err_and c.from_residual.result c.from_residual.ensures.1 in
    record {
      led = λ tells h size faults W.
          rw q.1 (memory_led tells c.args.world.now h size faults c.args.report.now.lines c.reserve.new.self.lines q.0 _ _ _ q.2 W c.reserve.ensures.lines (λ state. begun_not refl refl));
    }
