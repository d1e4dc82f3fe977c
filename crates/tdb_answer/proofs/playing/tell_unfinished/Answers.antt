use Rattle.std.proofs.Common.{sym, subst}
use Rattle.tdb_answer.specs.Playing.{EndTold}
use Rattle.tdb_answer.proofs.Coming.{end_told, end_untold}
use Rattle.tdb_answer.proofs.playing.tell_unfinished.Goals as goal

-- the lines were written, or a front of them
pub returns-clause-told : goal.returns-clause-told
returns-clause-told g c =
    let before = g.K.Sink.written c.args.output.now in
    let now = g.K.Sink.written c.tell-told.new.output in
    subst (EndTold c.args.world.now.world g.K.Sink.tells before now) (sym c.ended.ensures)
    (end_told c.args.world.now.world g.K.Sink.tells before now c.new-report.result.lines c.finish_report.new.report.lines c.new-report.ensures c.in-Ok.ensures.ok c.tell-told.result c.tell-told.ensures.whole c.tell-told.ensures.front c.tell-told.ensures.memory)

-- memory was wanting for the report
pub returns-in_default-clause-told : goal.returns-in_default-clause-told
returns-in_default-clause-told g c = let made = c.in_default.ensures.err in end_untold c.args.world.now.world g.K.Sink.tells (g.K.Sink.written c.args.output.now) made.0 made.1 made.3
