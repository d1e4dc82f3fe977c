-- The line tells how many logs are left.
use Rattle.std.proofs.Common.{◌-◌, ◌∷◌, [], ◌++◌, ◌∙◌, ap, length}
use Rattle.tdb_commands.specs.declared.line.Line.TheVariants.{LogsLeft}
use Rattle.tdb_world.proofs.Courses.HeardLines.{length_but_last}
use Rattle.tdb_world.proofs.course.hearing.drop_log.Goals as goal

pub returns-clause-dropped : goal.returns-clause-dropped
returns-clause-dropped g c =
    let left = c.drop_last-count.ensures.left ∙ (ap length c.drop_last-count.ensures.dropped ∙ length_but_last (g.L.Logs.logs c.args.logs.now)) in
    (c.put_line.ensures.lines ∙ (ap (λ n. c.reserve.new.self.lines ++ LogsLeft n ∷ []) left ∙ ap (λ ls. ls ++ LogsLeft (length (g.L.Logs.logs c.args.logs.now) - 1) ∷ []) c.in_ok-reserve.ensures.lines), c.drop_last-count.ensures.dropped)
