-- Each line's notice is told behind those of the lines in front of it.
use Rattle.std.proofs.Common.{◌+◌, [], ◌∷◌, ◌++◌, Err, drop, subst, sym, ap, ◌∙◌, append_assoc}
use Rattle.std.proofs.lemmas.Result.{err_from_is_err_and}
use Rattle.tdb_log.specs.Logs.{ToldIfAny}
use Rattle.tdb_world.specs.Courses.Hearing.{notice_of, HeardNotices}
use Rattle.tdb_world.proofs.Courses.ToldLines.{told_more, told_drops, heard_more, refused_more}
use Rattle.tdb_world.proofs.course.hearing.tell_logs.Goals as goal
use Rattle.tdb_world.proofs.course.hearing.tell_logs.Goals.{in-Some-notice_of+in_ok-note, in_default-notice_of}

pub returns-in_err-note : goal.returns-in_err-note
returns-in_err-note g c =
    let q = err_from_is_err_and c.from_residual.result c.from_residual.ensures.1 in
    let told = c.loop-i.invariant in
    let line = c.in-Some.line.now in
    let lines = c.args.report.now.lines in
    let i = c.loop-i.i in
    let at = told_drops lines (told.0 ++ line ∷ []) c.args.from (i + 1) (told_more lines told.0 c.args.from i line c.in-Some.ensures.0 c.in-Some.ensures.1 told.1) ∙ append_assoc told.0 (line ∷ []) (drop (i + 1) lines) in
    record {
      heard = rw (q.1, q.2)
          (subst (λ ls. HeardNotices ls (g.L.Logs.logs c.args.logs.now) (g.L.Logs.logs c.note.new.self) (Err c.in_err-note.field-0.0)) (sym at)
          (refused_more _ (g.L.Logs.logs c.loop-i.logs) _ told.0 line told.2 (drop (i + 1) lines) c.in_err-note.field-0.0 c.in-Some-notice_of.notice (sym c.in-Some-notice_of.ensures) c.in_err-note.ensures.refused));
    }

pub loop-i-preserved : goal.loop-i-preserved
loop-i-preserved g c =
    let told = c.loop-i.invariant in
    let line = c.in-Some.line.now in
    let old = g.L.Logs.logs c.args.logs.now in
    let mid = g.L.Logs.logs c.loop-i.logs in
    let new = g.L.Logs.logs c.match-notice_of.logs in
    let heard : ToldIfAny (notice_of line) mid new = elim c.match-notice_of.branch [
      | in-Some-notice_of+in_ok-note w ↦ subst (λ n. ToldIfAny n mid new) w.in-Some-notice_of.ensures (rw w.logs-is w.in_ok-note.ensures.taken)
      | in_default-notice_of w ↦ subst (λ n. ToldIfAny n mid new) w.in_default-notice_of.ensures (ap g.L.Logs.logs w.logs-is)
    ] in
    (told.0 ++ line ∷ [], told_more c.args.report.now.lines told.0 c.args.from c.loop-i.i line c.in-Some.ensures.0 c.in-Some.ensures.1 told.1, heard_more old mid new told.0 line told.2 heard)
