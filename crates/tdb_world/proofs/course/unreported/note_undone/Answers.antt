-- The last log is told of what was undone.
use Rattle.std.proofs.Common.{Ok, refl, sym, subst}
use Rattle.tdb_log.specs.declared.notice.Notice.TheVariants as Note
use Rattle.tdb_commands.specs.declared.line.Line.TheVariants as Lines
use Rattle.tdb_world.specs.Courses.Hearing.{HeardBy}
use Rattle.tdb_world.specs.Courses.Unreported.{undo_lines}
use Rattle.tdb_world.proofs.Courses.HeardLines.{heard_notice}
use Rattle.tdb_world.proofs.course.unreported.note_undone.Goals as goal

pub returns-in-Some : goal.returns-in-Some
returns-in-Some g c =
    let undone = c.in-Some.field-0 in
    record {
      heard = subst (λ u. HeardBy (g.L.Logs.logs c.args.logs.now) (undo_lines (Ok u)) (g.L.Logs.logs c.note.new.self) (Ok c.note.result)) (sym c.in-Some.is)
          (heard_notice (g.L.Logs.logs c.args.logs.now) (g.L.Logs.logs c.note.new.self) (Lines.Undone undone.bytes undone.to) (Note.Recovered undone.bytes) tt refl c.note.result c.note.ensures.taken c.note.ensures.refused);
    }
