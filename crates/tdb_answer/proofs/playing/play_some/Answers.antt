use Rattle.std.proofs.Common.{sym, subst}
use Rattle.tdb_world.specs.Courses.Scene.{scene}
use Rattle.tdb_answer.specs.Playing.{Ran}
use Rattle.tdb_answer.specs.Stops.{StopsTold}
use Rattle.tdb_answer.proofs.Coming.{ran_of}
use Rattle.tdb_answer.proofs.Stopping.{stops_of}
use Rattle.tdb_answer.proofs.playing.play_some.Goals as goal

-- plays were taken, and then told
pub returns-clause-ran : goal.returns-clause-ran
returns-clause-ran g c =
    let a = c.args.world.now in
    let b = c.run-played.new.self in
    let w0 = g.K.Sink.written c.args.output.now in
    let w1 = g.K.Sink.written c.tell-told.new.output in
    let logs = g.L.Logs.logs c.args.logs.now in
    let later = g.L.Logs.logs c.run-played.new.logs in
    subst (Ran g.D.Disk.tells g.K.Sink.tells (scene a w0 logs) (scene b w1 later) c.args.plays.now) (sym c.ended.ensures)
    (ran_of g.D.Disk.tells g.K.Sink.tells a b c.new-report.result.lines c.run-played.new.report.lines c.new-report.ensures
    c.args.plays.now w0 w1 logs later c.run-played.result c.tell-told.result c.run-played.ensures.taken.led c.run-played.ensures.spent c.tell-told.ensures.whole c.tell-told.ensures.front c.run-played.ensures.taken.heard)

-- what stops leave
pub returns-clause-stops : goal.returns-clause-stops
returns-clause-stops g c =
    let a = c.args.world.now in
    let b = c.run-played.new.self in
    let w0 = g.K.Sink.written c.args.output.now in
    let w1 = g.K.Sink.written c.tell-told.new.output in
    let logs = g.L.Logs.logs c.args.logs.now in
    let later = g.L.Logs.logs c.run-played.new.logs in
    subst (StopsTold g.D.Disk.tells g.K.Sink.tells (scene a w0 logs)
    (scene b w1 later) c.args.plays.now) (sym c.ended.ensures)
    (stops_of g.D.Disk.tells g.K.Sink.tells a b
    c.new-report.result.lines c.run-played.new.report.lines c.new-report.ensures
    c.args.plays.now w0 w1 logs later c.run-played.result c.tell-told.result c.run-played.ensures.taken.led c.run-played.ensures.taken.stops c.tell-told.ensures.whole c.tell-told.ensures.front c.tell-told.ensures.memory)
