-- A gate is undone, the turn is taken, and the last log is told of both.
use Rattle.std.proofs.Common.{[], Ok, refl}
use Rattle.std.proofs.lemmas.Result.{err_from_is_err_and}
use Rattle.tdb_commands.specs.InLaw.{law_command}
use Rattle.tdb_world.specs.Courses.Led.{moment}
use Rattle.tdb_world.specs.Courses.Unreported.{undo_lines}
use Rattle.tdb_world.proofs.Courses.Standings.{told_command}
use Rattle.tdb_world.proofs.Courses.UnreportedTurns.{growth_refused, turn_failed, turn_heard, undo_refused, undo_unreported}
use Rattle.tdb_world.proofs.course.unreported.busy_turn.Goals as goal

pub returns-in_err-undone-clause-led : goal.returns-in_err-undone-clause-led
returns-in_err-undone-clause-led g c =
    let q = err_from_is_err_and c.from_residual.result c.from_residual.ensures.1 in
    let old = moment c.args.world.now (g.D.Disk.history c.args.d.now) (g.D.Disk.size c.args.d.now) (g.D.Disk.faults c.args.d.now) [] in
    let new = moment c.undo_gate.new.world (g.D.Disk.history c.undo_gate.new.d) (g.D.Disk.size c.undo_gate.new.d) (g.D.Disk.faults c.undo_gate.new.d) [] in
    rw (q.1, q.2) (undo_unreported g.D.Disk.tells old new c.args.who (g.L.Logs.logs c.args.logs.now) c.in_err-undone.field-0.0 refl c.in_err-undone.ensures.led c.undo_gate.ensures.stops)

pub measured_turn-requires-clause-busy : goal.measured_turn-requires-clause-busy
measured_turn-requires-clause-busy g c = c.in_ok-undone.ensures.busy c.args.who c.requires.busy

pub returns-in_err-turn-clause-led : goal.returns-in_err-turn-clause-led
returns-in_err-turn-clause-led g c =
    let q = err_from_is_err_and c.from_residual-in_err-turn.result c.from_residual-in_err-turn.ensures.1 in
    let w = c.args.world.now in
    let h = g.D.Disk.history c.args.d.now in
    let old = moment w h (g.D.Disk.size c.args.d.now) (g.D.Disk.faults c.args.d.now) [] in
    let mid = moment c.undo_gate.new.world (g.D.Disk.history c.undo_gate.new.d) (g.D.Disk.size c.undo_gate.new.d) (g.D.Disk.faults c.undo_gate.new.d) [] in
    let new = moment c.measured_turn.new.world (g.D.Disk.history c.measured_turn.new.d) (g.D.Disk.size c.measured_turn.new.d) (g.D.Disk.faults c.measured_turn.new.d) [] in
    let T = told_command w _ _ c.requires.fits c.args.who c.requires.busy in
    rw (q.1, q.2)
    (turn_failed g.D.Disk.tells old mid new c.args.who T.0 (T.1 h) refl c.in_ok-undone.undone c.in_ok-undone.ensures.led c.undo_gate.ensures.stops c.in_ok-undone.ensures.safe c.measured_turn.ensures.stops (g.L.Logs.logs c.args.logs.now) (g.L.Logs.logs c.note_undone-told.new.logs)
    c.note_undone-told.result c.note_undone-told.ensures.heard c.in_err-turn.field-0.0 (c.in_err-turn.ensures.led T.0 (undo_lines (Ok c.in_ok-undone.undone)) (c.in_ok-undone.ensures.has c.args.who (law_command T.0) T.2)))

pub returns-in-Err-clause-led : goal.returns-in-Err-clause-led
returns-in-Err-clause-led g c =
    let w = c.args.world.now in
    let h = g.D.Disk.history c.args.d.now in
    let old = moment w h (g.D.Disk.size c.args.d.now) (g.D.Disk.faults c.args.d.now) [] in
    let mid = moment c.undo_gate.new.world (g.D.Disk.history c.undo_gate.new.d) (g.D.Disk.size c.undo_gate.new.d) (g.D.Disk.faults c.undo_gate.new.d) [] in
    let new = moment c.measured_turn.new.world (g.D.Disk.history c.measured_turn.new.d) (g.D.Disk.size c.measured_turn.new.d) (g.D.Disk.faults c.measured_turn.new.d) [] in
    let T = told_command w _ _ c.requires.fits c.args.who c.requires.busy in
    undo_refused g.D.Disk.tells old mid new c.args.who T.0 (T.1 h) refl c.in_ok-undone.undone c.in_ok-undone.ensures.led c.undo_gate.ensures.stops c.in_ok-undone.ensures.safe c.measured_turn.ensures.stops (g.L.Logs.logs c.args.logs.now) (g.L.Logs.logs c.note_undone-told.new.logs)
    c.in-Err.refusal c.in-Err.ensures.heard c.in_ok-turn.field-0 (c.in_ok-turn.ensures.led T.0 (undo_lines (Ok c.in_ok-undone.undone)) (c.in_ok-undone.ensures.has c.args.who (law_command T.0) T.2)) c.in_ok-turn.ensures.safe

pub returns-in-Ok-clause-led : goal.returns-in-Ok-clause-led
returns-in-Ok-clause-led g c =
    let w = c.args.world.now in
    let h = g.D.Disk.history c.args.d.now in
    let old = moment w h (g.D.Disk.size c.args.d.now) (g.D.Disk.faults c.args.d.now) [] in
    let mid = moment c.undo_gate.new.world (g.D.Disk.history c.undo_gate.new.d) (g.D.Disk.size c.undo_gate.new.d) (g.D.Disk.faults c.undo_gate.new.d) [] in
    let new = moment c.measured_turn.new.world (g.D.Disk.history c.measured_turn.new.d) (g.D.Disk.size c.measured_turn.new.d) (g.D.Disk.faults c.measured_turn.new.d) [] in
    let T = told_command w _ _ c.requires.fits c.args.who c.requires.busy in
    turn_heard g.D.Disk.tells old mid new c.args.who T.0 (T.1 h) refl c.in_ok-undone.undone c.in_ok-undone.ensures.led c.undo_gate.ensures.stops c.in_ok-undone.ensures.safe c.measured_turn.ensures.stops (g.L.Logs.logs c.args.logs.now) (g.L.Logs.logs c.note_undone-told.new.logs)
    c.in_default.ensures.heard c.in_ok-turn.field-0 (c.in_ok-turn.ensures.led T.0 (undo_lines (Ok c.in_ok-undone.undone)) (c.in_ok-undone.ensures.has c.args.who (law_command T.0) T.2)) c.in_ok-turn.ensures.safe (g.L.Logs.logs c.note_growth.new.logs) c.in-Ok.ensures.heard

pub returns-in-Err-note_growth-clause-led : goal.returns-in-Err-note_growth-clause-led
returns-in-Err-note_growth-clause-led g c =
    let w = c.args.world.now in
    let h = g.D.Disk.history c.args.d.now in
    let old = moment w h (g.D.Disk.size c.args.d.now) (g.D.Disk.faults c.args.d.now) [] in
    let mid = moment c.undo_gate.new.world (g.D.Disk.history c.undo_gate.new.d) (g.D.Disk.size c.undo_gate.new.d) (g.D.Disk.faults c.undo_gate.new.d) [] in
    let new = moment c.measured_turn.new.world (g.D.Disk.history c.measured_turn.new.d) (g.D.Disk.size c.measured_turn.new.d) (g.D.Disk.faults c.measured_turn.new.d) [] in
    let T = told_command w _ _ c.requires.fits c.args.who c.requires.busy in
    growth_refused g.D.Disk.tells old mid new c.args.who T.0 (T.1 h) refl c.in_ok-undone.undone c.in_ok-undone.ensures.led c.undo_gate.ensures.stops c.in_ok-undone.ensures.safe c.measured_turn.ensures.stops (g.L.Logs.logs c.args.logs.now) (g.L.Logs.logs c.note_undone-told.new.logs)
    c.in_default.ensures.heard c.in_ok-turn.field-0 (c.in_ok-turn.ensures.led T.0 (undo_lines (Ok c.in_ok-undone.undone)) (c.in_ok-undone.ensures.has c.args.who (law_command T.0) T.2)) c.in_ok-turn.ensures.safe (g.L.Logs.logs c.note_growth.new.logs) c.in-Err-note_growth.refusal c.in-Err-note_growth.ensures.heard
