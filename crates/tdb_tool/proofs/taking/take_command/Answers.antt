use Rattle.std.proofs.Common.{Ok, Err}
use Rattle.tdb_tool.proofs.Plays.{told_printed}
use Rattle.tdb_tool.proofs.taking.take_command.Goals as goal

-- the play was taken
pub returns-in-Ok-clause-ran : goal.returns-in-Ok-clause-ran
returns-in-Ok-clause-ran g c =
    let written = g.K.Sink.written c.args.output.now in
    rw (← c.doing-play.ensures)
    (told_printed g.D.Disk.tells g.K.Sink.tells c.args.world.now c.take_play.new.world written c.new-held.result.items c.take_play.new.text.items (g.K.Sink.written c.end_part.new.output) (g.L.Logs.logs c.args.logs.now) (g.L.Logs.logs c.take_play.new.logs)
    c.doing-play.result c.new-held.ensures.items (Ok c.in-Ok.field-0) (c.in-Ok.ensures.played g.K.Sink.tells written) _ c.end_part.ensures.ended)

-- it broke off
pub returns-clause-ran : goal.returns-clause-ran
returns-clause-ran g c =
    let written = g.K.Sink.written c.args.output.now in
    rw (← c.doing-play.ensures)
    (told_printed g.D.Disk.tells g.K.Sink.tells c.args.world.now c.take_play.new.world written c.new-held.result.items c.take_play.new.text.items (g.K.Sink.written c.end_part-in-Err.new.output) (g.L.Logs.logs c.args.logs.now) (g.L.Logs.logs c.take_play.new.logs)
    c.doing-play.result c.new-held.ensures.items (Err c.in-Err.fault) (c.in-Err.ensures.played g.K.Sink.tells written) _ c.end_part-in-Err.ensures.ended)
