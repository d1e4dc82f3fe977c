use Rattle.std.proofs.Common.{◌∙◌, refl, subst, Ok}
use Rattle.std.proofs.lemmas.Result.{err_from_is_err_and}
use Rattle.tdb_tool.specs.Lines.{lines_left}
use Rattle.tdb_world.specs.Courses.Scene.{scene}
use Rattle.tdb_tool.specs.Serving.{ServedNext}
use Rattle.tdb_tool.proofs.Sessions.{begun, goes_on, breaks_off, unread}
use Rattle.tdb_tool.proofs.serving.serve.Goals as goal

-- there was no memory for a reader
pub returns-in_err-reader-clause-served : goal.returns-in_err-reader-clause-served
returns-in_err-reader-clause-served g c =
    let q = err_from_is_err_and c.from_residual.result c.from_residual.ensures.1 in
    rw (q.1, q.2)
    (unread g.D.Disk.tells g.I.Source.tells g.K.Sink.tells (scene c.args.world.now (g.K.Sink.written c.args.output.now) (g.L.Logs.logs c.args.logs.now)) (g.I.Source.left c.args.input.now) c.requires.unspent)

pub loop-reader-init : goal.loop-reader-init
loop-reader-init g c = record {
  serving = begun g.D.Disk.tells g.I.Source.tells g.K.Sink.tells (scene c.args.world.now (g.K.Sink.written c.args.output.now) (g.L.Logs.logs c.args.logs.now)) (g.I.Source.left c.args.input.now) c.in_ok-reader.reader c.requires.unspent c.in_ok-reader.ensures;
  heard = refl;
  out = refl;
}

-- the session breaks off
pub returns-in_err-end-clause-served : goal.returns-in_err-end-clause-served
returns-in_err-end-clause-served g c =
    let q = err_from_is_err_and c.from_residual-in_err-end.result c.from_residual-in_err-end.ensures.1 in
    let r = c.loop-reader.reader in
    let n = c.serve_next.new.reader in
    rw (q.1, q.2)
    (breaks_off g.D.Disk.tells g.I.Source.tells g.K.Sink.tells (scene c.args.world.now (g.K.Sink.written c.args.output.now) (g.L.Logs.logs c.args.logs.now)) (scene c.loop-reader.world (g.K.Sink.written c.loop-reader.output) (g.L.Logs.logs c.loop-reader.logs)) (scene c.serve_next.new.world (g.K.Sink.written c.serve_next.new.output) (g.L.Logs.logs c.serve_next.new.logs))
    (g.I.Source.left c.args.input.now) r.at n.at (lines_left r (g.I.Source.left c.loop-reader.input)) (lines_left n (g.I.Source.left c.serve_next.new.input)) c.loop-reader.invariant.serving c.in_err-end.field-0.0 c.in_err-end.ensures.next)

-- it goes on
pub loop-reader-preserved : goal.loop-reader-preserved
loop-reader-preserved g c =
    let r = c.loop-reader.reader in
    let n = c.serve_next.new.reader in
    let left = lines_left r (g.I.Source.left c.loop-reader.input) in
    let after = lines_left n (g.I.Source.left c.serve_next.new.input) in
    let mid = scene c.loop-reader.world (g.K.Sink.written c.loop-reader.output) (g.L.Logs.logs c.loop-reader.logs) in
    let late = scene c.serve_next.new.world (g.K.Sink.written c.serve_next.new.output) (g.L.Logs.logs c.serve_next.new.logs) in
    record {
      serving = goes_on g.D.Disk.tells g.I.Source.tells g.K.Sink.tells (scene c.args.world.now (g.K.Sink.written c.args.output.now) (g.L.Logs.logs c.args.logs.now)) mid late (g.I.Source.left c.args.input.now) r.at n.at left after c.loop-reader.invariant.serving
          (subst (λ o. ServedNext g.D.Disk.tells g.I.Source.tells g.K.Sink.tells mid late r.at left n.at after (Ok o)) c.in_default.is c.in_ok-end.ensures.next);
      heard = c.in_ok-end.ensures.input_cause.done ∙ c.loop-reader.invariant.heard;
      out = c.in_ok-end.ensures.cause.done ∙ c.loop-reader.invariant.out;
    }
