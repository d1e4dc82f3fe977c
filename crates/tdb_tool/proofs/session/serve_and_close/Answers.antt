use Rattle.std.proofs.Common.{[]}
use Rattle.std.proofs.lemmas.Result.{err_from_is_err_and}
use Rattle.tdb_world.specs.Courses.Scene.{scene}
use Rattle.tdb_tool.proofs.Wholes.{session_broke, session_closed, session_not_closed, session_unclosed}
use Rattle.tdb_tool.proofs.session.serve_and_close.Goals as goal

-- it broke off before the close
pub returns-in_err-end-clause-led : goal.returns-in_err-end-clause-led
returns-in_err-end-clause-led g c =
    let q = err_from_is_err_and c.from_residual.result c.from_residual.ensures.1 in
    rw (q.1, q.2)
    (session_broke g.D.Disk.tells g.I.Source.tells g.K.Sink.tells (scene c.args.world.now (g.K.Sink.written c.args.output.now) (g.L.Logs.logs c.args.logs.now)) (scene c.join_and_serve.new.world (g.K.Sink.written c.join_and_serve.new.output) (g.L.Logs.logs c.join_and_serve.new.logs)) (scene c.join_and_serve.new.world (g.K.Sink.written c.join_and_serve.new.output) (g.L.Logs.logs c.join_and_serve.new.logs)) (g.I.Source.left c.args.input.now) c.in_err-end.field-0.0 c.in_err-end.ensures.served)

pub take_silently-requires-clause-unspent : goal.take_silently-requires-clause-unspent
take_silently-requires-clause-unspent g c = c.in_ok-end.ensures.served.2.unspent

-- it broke off in the close
pub returns-in_err-take_silently-clause-led : goal.returns-in_err-take_silently-clause-led
returns-in_err-take_silently-clause-led g c =
    let q = err_from_is_err_and c.from_residual-in_err-take_silently.result c.from_residual-in_err-take_silently.ensures.1 in
    rw (q.1, q.2)
    (session_unclosed g.D.Disk.tells g.I.Source.tells g.K.Sink.tells (scene c.args.world.now (g.K.Sink.written c.args.output.now) (g.L.Logs.logs c.args.logs.now)) (scene c.join_and_serve.new.world (g.K.Sink.written c.join_and_serve.new.output) (g.L.Logs.logs c.join_and_serve.new.logs)) (scene c.take_silently.new.world (g.K.Sink.written c.join_and_serve.new.output) (g.L.Logs.logs c.take_silently.new.logs)) (g.I.Source.left c.args.input.now) c.in_ok-end.end c.in_ok-end.ensures.served c.doing.result c.doing.ensures c.in_err-take_silently.field-0.0
    (c.in_err-take_silently.ensures.ran g.K.Sink.tells (g.K.Sink.written c.join_and_serve.new.output)))

pub is_live-requires-clause-unspent : goal.is_live-requires-clause-unspent
is_live-requires-clause-unspent g c = (c.in_ok-take_silently.ensures.ran g.K.Sink.tells []).unspent

-- there was no memory for its close
pub returns-then-is_live-clause-led : goal.returns-then-is_live-clause-led
returns-then-is_live-clause-led g c =
    session_not_closed g.D.Disk.tells g.I.Source.tells g.K.Sink.tells (scene c.args.world.now (g.K.Sink.written c.args.output.now) (g.L.Logs.logs c.args.logs.now)) (scene c.join_and_serve.new.world (g.K.Sink.written c.join_and_serve.new.output) (g.L.Logs.logs c.join_and_serve.new.logs)) (scene c.take_silently.new.world (g.K.Sink.written c.join_and_serve.new.output) (g.L.Logs.logs c.take_silently.new.logs)) (g.I.Source.left c.args.input.now) c.in_ok-end.end c.in_ok-end.ensures.served c.doing.result c.doing.ensures
    (c.in_ok-take_silently.ensures.ran g.K.Sink.tells (g.K.Sink.written c.join_and_serve.new.output))

-- it was taken whole
pub returns-clause-led : goal.returns-clause-led
returns-clause-led g c =
    session_closed g.D.Disk.tells g.I.Source.tells g.K.Sink.tells (scene c.args.world.now (g.K.Sink.written c.args.output.now) (g.L.Logs.logs c.args.logs.now)) (scene c.join_and_serve.new.world (g.K.Sink.written c.join_and_serve.new.output) (g.L.Logs.logs c.join_and_serve.new.logs)) (scene c.take_silently.new.world (g.K.Sink.written c.join_and_serve.new.output) (g.L.Logs.logs c.take_silently.new.logs)) (g.I.Source.left c.args.input.now) c.in_ok-end.end c.in_ok-end.ensures.served c.doing.result c.doing.ensures
    (c.in_ok-take_silently.ensures.ran g.K.Sink.tells (g.K.Sink.written c.join_and_serve.new.output))
    (λ state is. (c.is_live.ensures.no c.if-is_live.false).gone _ state is)
