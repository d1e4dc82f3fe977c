-- The line of a join tells it.
use Rattle.std.proofs.Common.{refl, ap, ◌++◌, ◌∷◌, [], ◌∙◌}
use Rattle.std.proofs.lemmas.Result.{err_from_is_err_and}
use Rattle.tdb_disk.specs.History.{seen}
use Rattle.tdb_law.specs.Plays.{Play as LawPlay}
use Rattle.tdb_openers.specs.Played.Begun.{begun_not}
use Rattle.tdb_world.specs.Whole.{form_at}
use Rattle.tdb_world.proofs.Courses.Answered.{line_led, memory_led}
use Rattle.tdb_world.proofs.Courses.Calling.{join_quiet}
use Rattle.tdb_world.proofs.course.starting.play_join.Goals as goal

pub returns : goal.returns
returns c = record {
  led = λ tells h size faults W.
      line_led tells c.args.world.now c.join_line.new.world h size faults LawPlay.Join c.join_line.result c.args.report.now.lines c.put_line.new.report.lines c.join_line.ensures.header c.join_line.ensures.options
      (c.join_line.ensures.fits (seen h) size W) c.join_line.ensures.gives
      (λ k state is. (let J = c.join_line.ensures.gives k state is in join_quiet (form_at c.args.world.now) state J.0 c.join_line.result J.2)) (c.join_line.ensures.short size) (c.put_line.ensures.lines ∙ ap (λ ls. ls ++ c.join_line.result ∷ []) c.in_ok-reserve.ensures.lines);
}

pub returns-in_err-reserve : goal.returns-in_err-reserve
returns-in_err-reserve c =
    let q = err_from_is_err_and c.from_residual.result c.from_residual.ensures.1 in
    record {
      led = λ tells h size faults W.
          rw q.1 (memory_led tells c.args.world.now h size faults c.args.report.now.lines c.reserve.new.self.lines q.0 _ _ _ q.2 W c.reserve.ensures.lines (λ state. begun_not refl refl));
    }
