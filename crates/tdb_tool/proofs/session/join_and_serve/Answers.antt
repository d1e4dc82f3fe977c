use Rattle.std.proofs.Common.{[]}
use Rattle.std.proofs.lemmas.Result.{err_from_is_err_and}
use Rattle.tdb_world.specs.Courses.Scene.{scene}
use Rattle.tdb_tool.proofs.Wholes.{join_failed, join_only, join_served}
use Rattle.tdb_tool.proofs.session.join_and_serve.Goals as goal

-- the join broke off
pub returns-in_err-take_silently-clause-served : goal.returns-in_err-take_silently-clause-served
returns-in_err-take_silently-clause-served g c =
    let q = err_from_is_err_and c.from_residual.result c.from_residual.ensures.1 in
    rw (q.1, q.2)
    (join_failed g.D.Disk.tells g.I.Source.tells g.K.Sink.tells (scene c.args.world.now (g.K.Sink.written c.args.output.now) (g.L.Logs.logs c.args.logs.now)) (scene c.take_silently.new.world (g.K.Sink.written c.args.output.now) (g.L.Logs.logs c.take_silently.new.logs)) (scene c.take_silently.new.world (g.K.Sink.written c.args.output.now) (g.L.Logs.logs c.take_silently.new.logs)) (g.I.Source.left c.args.input.now) c.in_err-take_silently.field-0.0 (c.in_err-take_silently.ensures.ran g.K.Sink.tells (g.K.Sink.written c.args.output.now)))

pub is_idle-requires-clause-unspent : goal.is_idle-requires-clause-unspent
is_idle-requires-clause-unspent g c = (c.in_ok-take_silently.ensures.ran g.K.Sink.tells []).unspent

-- there was no memory for the opener
pub returns-then-not-is_idle-clause-served : goal.returns-then-not-is_idle-clause-served
returns-then-not-is_idle-clause-served g c =
    join_only g.D.Disk.tells g.I.Source.tells g.K.Sink.tells (scene c.args.world.now (g.K.Sink.written c.args.output.now) (g.L.Logs.logs c.args.logs.now)) (scene c.take_silently.new.world (g.K.Sink.written c.args.output.now) (g.L.Logs.logs c.take_silently.new.logs)) (scene c.take_silently.new.world (g.K.Sink.written c.args.output.now) (g.L.Logs.logs c.take_silently.new.logs)) (g.I.Source.left c.args.input.now) (c.in_ok-take_silently.ensures.ran g.K.Sink.tells (g.K.Sink.written c.args.output.now))

-- it joined
pub serve-requires : goal.serve-requires
serve-requires g c = record { unspent = (c.in_ok-take_silently.ensures.ran g.K.Sink.tells []).unspent }

pub returns-clause-served : goal.returns-clause-served
returns-clause-served g c =
    join_served g.D.Disk.tells g.I.Source.tells g.K.Sink.tells (scene c.args.world.now (g.K.Sink.written c.args.output.now) (g.L.Logs.logs c.args.logs.now)) (scene c.take_silently.new.world (g.K.Sink.written c.args.output.now) (g.L.Logs.logs c.take_silently.new.logs)) (scene c.serve.new.world (g.K.Sink.written c.serve.new.output) (g.L.Logs.logs c.serve.new.logs)) (g.I.Source.left c.args.input.now) c.serve.result (c.in_ok-take_silently.ensures.ran g.K.Sink.tells (g.K.Sink.written c.args.output.now)) c.serve.ensures.served
