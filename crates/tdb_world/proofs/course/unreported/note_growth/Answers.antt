-- The last log is told of the growth.
use Rattle.std.proofs.Common.{[], ◌∷◌, Ok, refl, subst, sym}
use Rattle.std.proofs.lemmas.Bool.{lt-ltb}
use Rattle.std.specs.Prelude.{if◌then◌else◌}
use Rattle.tdb_log.specs.declared.notice.Notice.TheVariants as Note
use Rattle.tdb_commands.specs.declared.line.Line.TheVariants as Lines
use Rattle.tdb_world.specs.Courses.Hearing.{HeardBy}
use Rattle.tdb_world.proofs.Courses.HeardLines.{heard_notice}
use Rattle.tdb_world.proofs.course.unreported.note_growth.Goals as goal

pub returns-then-from-to : goal.returns-then-from-to
returns-then-from-to g c =
    let old = g.L.Logs.logs c.args.logs.now in
    let new = g.L.Logs.logs c.note.new.self in
    let line = Lines.Grew c.args.from c.args.to in
    record {
      heard = subst (λ longer. HeardBy old (if longer then line ∷ [] else []) new (Ok c.note.result)) (sym (lt-ltb c.args.from c.args.to c.if-from-to.true))
          (heard_notice old new line (Note.Grew c.args.from c.args.to) tt refl c.note.result c.note.ensures.taken c.note.ensures.refused);
    }
