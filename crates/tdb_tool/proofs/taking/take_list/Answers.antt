use Rattle.std.proofs.Common.{◌++◌, ◌∙◌, Ok, subst, refl}
use Rattle.std.specs.Prelude.{Bool, true, false}
use Rattle.std.proofs.lemmas.Result.{err_from_is_err_and}
use Rattle.tdb_dump.specs.declared.listing.Listing.{Listing}
use Rattle.tdb_world.specs.Courses.Scene.{scene}
use Rattle.tdb_tool.proofs.Lists.{grew_none, held_none, held_on, grew_on, held_lost, end_printed, broke_printed, full_printed}
use Rattle.tdb_tool.proofs.taking.take_list.Goals as goal

pub loop-moves-init : goal.loop-moves-init
loop-moves-init g c = record {
  led = held_none g.D.Disk.tells g.K.Sink.tells c.args.listing c.args.world.now (g.K.Sink.written c.args.output.now) c.new-held.result.items (g.L.Logs.logs c.args.logs.now) c.requires.unspent c.new-held.ensures.items;
  grew = grew_none g.K.Sink.tells (scene c.args.world.now (g.K.Sink.written c.args.output.now) (g.L.Logs.logs c.args.logs.now));
  out = refl;
}

-- a pair more is held, or written
pub loop-moves-preserved : goal.loop-moves-preserved
loop-moves-preserved g c = record {
  led = held_on g.D.Disk.tells g.K.Sink.tells c.args.listing c.loop-moves.moves (scene c.args.world.now (g.K.Sink.written c.args.output.now) (g.L.Logs.logs c.args.logs.now)) c.loop-moves.world c.take_play.new.world (g.K.Sink.written c.loop-moves.output) c.loop-moves.held.items c.take_play.new.text.items (g.K.Sink.written c.hold.new.output) (g.L.Logs.logs c.loop-moves.logs) (g.L.Logs.logs c.take_play.new.logs) c.loop-moves.invariant.led c.loop-moves.invariant.grew c.list_move-next.result c.list_move-next.ensures (rw c.in-Ok-true.field-0-test at c.in-Ok-true.ensures.played g.K.Sink.tells (g.K.Sink.written c.loop-moves.output ++ c.loop-moves.held.items)) c.hold.new.held.items c.in_ok-hold-in-Ok-true.ensures.held;
  grew = grew_on g.D.Disk.tells g.K.Sink.tells c.args.listing c.loop-moves.moves (scene c.args.world.now (g.K.Sink.written c.args.output.now) (g.L.Logs.logs c.args.logs.now)) c.loop-moves.world c.take_play.new.world (g.K.Sink.written c.loop-moves.output) c.loop-moves.held.items c.take_play.new.text.items (g.K.Sink.written c.hold.new.output) (g.L.Logs.logs c.loop-moves.logs) (g.L.Logs.logs c.take_play.new.logs) c.loop-moves.invariant.led c.loop-moves.invariant.grew c.list_move-next.result c.list_move-next.ensures c.hold.new.held.items c.in_ok-hold-in-Ok-true.ensures.held;
  out = c.in_ok-hold-in-Ok-true.ensures.cause.done ∙ c.loop-moves.invariant.out;
}

-- the output failed
pub returns-in_err-hold-in-Ok-true-clause-ran : goal.returns-in_err-hold-in-Ok-true-clause-ran
returns-in_err-hold-in-Ok-true-clause-ran g c =
    let q = err_from_is_err_and c.from_residual.result c.from_residual.ensures.1 in
    rw (q.1, q.2)
    (held_lost g.D.Disk.tells g.K.Sink.tells c.args.listing c.loop-moves.moves (scene c.args.world.now (g.K.Sink.written c.args.output.now) (g.L.Logs.logs c.args.logs.now)) c.loop-moves.world c.take_play.new.world (g.K.Sink.written c.loop-moves.output) c.loop-moves.held.items c.take_play.new.text.items (g.K.Sink.written c.hold.new.output) (g.L.Logs.logs c.loop-moves.logs) (g.L.Logs.logs c.take_play.new.logs) c.loop-moves.invariant.led c.loop-moves.invariant.grew c.list_move-next.result c.list_move-next.ensures (rw c.in-Ok-true.field-0-test at c.in-Ok-true.ensures.played g.K.Sink.tells (g.K.Sink.written c.loop-moves.output ++ c.loop-moves.held.items)) c.in_err-hold-in-Ok-true.ensures.front)

-- a move gave no pair
pub returns-in-Ok-false-clause-ran : goal.returns-in-Ok-false-clause-ran
returns-in-Ok-false-clause-ran g c = end_printed g.D.Disk.tells g.K.Sink.tells c.args.listing c.loop-moves.moves (scene c.args.world.now (g.K.Sink.written c.args.output.now) (g.L.Logs.logs c.args.logs.now)) c.loop-moves.world c.take_play.new.world (g.K.Sink.written c.loop-moves.output) c.loop-moves.held.items c.take_play.new.text.items (g.K.Sink.written c.end_part.new.output) (g.L.Logs.logs c.loop-moves.logs) (g.L.Logs.logs c.take_play.new.logs) c.loop-moves.invariant.led c.loop-moves.invariant.grew c.list_move-next.result c.list_move-next.ensures (rw c.in-Ok-false.field-0-test at c.in-Ok-false.ensures.played g.K.Sink.tells (g.K.Sink.written c.loop-moves.output ++ c.loop-moves.held.items)) _ c.end_part.ensures.ended

-- it broke off
pub returns-in-Err-clause-ran : goal.returns-in-Err-clause-ran
returns-in-Err-clause-ran g c =
    broke_printed g.D.Disk.tells g.K.Sink.tells c.args.listing c.loop-moves.moves (scene c.args.world.now (g.K.Sink.written c.args.output.now) (g.L.Logs.logs c.args.logs.now)) c.loop-moves.world c.take_play.new.world (g.K.Sink.written c.loop-moves.output) c.loop-moves.held.items c.take_play.new.text.items (g.K.Sink.written c.end_part-in-Err.new.output) (g.L.Logs.logs c.loop-moves.logs) (g.L.Logs.logs c.take_play.new.logs) c.loop-moves.invariant.led c.loop-moves.invariant.grew c.list_move-next.result c.list_move-next.ensures c.in-Err.fault c.in-Err.ensures.fault.0 (c.in-Err.ensures.played g.K.Sink.tells (g.K.Sink.written c.loop-moves.output ++ c.loop-moves.held.items)) _ c.end_part-in-Err.ensures.ended

-- so many gave pairs
pub returns-clause-ran : goal.returns-clause-ran
returns-clause-ran g c =
    full_printed g.D.Disk.tells g.K.Sink.tells c.args.listing c.loop-moves.moves (scene c.args.world.now (g.K.Sink.written c.args.output.now) (g.L.Logs.logs c.args.logs.now)) c.loop-moves.world (g.K.Sink.written c.loop-moves.output) c.loop-moves.held.items c.new.result.items
    (g.K.Sink.written c.end_part-2.new.output) (g.L.Logs.logs c.loop-moves.logs) c.loop-moves.invariant.led c.loop-moves-test.false (c.stands.ensures.fits c.requires.unspent) c.stands.ensures.sized c.loop-moves.invariant.grew c.new.ensures.items _ c.end_part-2.ensures.ended
