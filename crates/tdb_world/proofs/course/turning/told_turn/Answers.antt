-- A gate is undone, and then the turn is taken, of the command that was told before.
use Rattle.std.proofs.Common.{ℕ, Ok, Err, refl, subst, inl}
use Rattle.std.proofs.lemmas.Result.{err_from_is_err_and}
use Rattle.tdb_law.specs.Plays.{Clears}
use Rattle.tdb_commands.specs.InLaw.{law_opener, law_command}
use Rattle.tdb_openers.specs.Played.{Nothing}
use Rattle.tdb_world.specs.Whole.{form_at}
use Rattle.tdb_world.specs.Courses.Led.{moment, Led}
use Rattle.tdb_world.specs.Courses.Turns.{Never}
use Rattle.tdb_world.proofs.Courses.Leading.{same_moment}
use Rattle.tdb_world.proofs.Courses.OneTurn.{nothing_led, turn_after, undo_failed}
use Rattle.tdb_world.proofs.Courses.StoppedTurns.{turn_stops, undo_stops, UndoKeeps, UndoStops}
use Rattle.tdb_world.proofs.Courses.Stopping.{stops_none}
use Rattle.tdb_world.proofs.course.turning.told_turn.Goals as goal

pub returns-in_err-command-clause-led : goal.returns-in_err-command-clause-led
returns-in_err-command-clause-led g c =
    let q = err_from_is_err_and c.from_residual.result c.from_residual.ensures.1 in
    rw (q.1, q.2)
    (nothing_led g.D.Disk.tells c.args.world.now (g.D.Disk.history c.args.d.now) (g.D.Disk.history c.before_turn.new.d) (g.D.Disk.size c.args.d.now) (g.D.Disk.size c.before_turn.new.d)
    (g.D.Disk.faults c.args.d.now) (g.D.Disk.faults c.before_turn.new.d) c.args.report.now.lines c.before_turn.new.report.lines c.in_err-command.field-0.0 _ _ c.before_turn.ensures.history c.before_turn.ensures.size c.before_turn.ensures.lines
    c.requires.fits c.in_err-command.ensures.cause (λ state. inl (inl (refl, refl))))

pub returns-in_err-from-clause-led : goal.returns-in_err-from-clause-led
returns-in_err-from-clause-led g c =
    let q = err_from_is_err_and c.from_residual-in_err-from.result c.from_residual-in_err-from.ensures.1 in
    let new = moment c.clear_gate.new.world (g.D.Disk.history c.clear_gate.new.d) (g.D.Disk.size c.clear_gate.new.d) (g.D.Disk.faults c.clear_gate.new.d) c.clear_gate.new.report.lines in
    rw (q.1, q.2)
    (undo_failed g.D.Disk.tells (moment c.args.world.now (g.D.Disk.history c.args.d.now) (g.D.Disk.size c.args.d.now) (g.D.Disk.faults c.args.d.now) c.args.report.now.lines) new (law_opener c.args.who) c.in_err-from.field-0.0
    (subst (λ m. Led {V = ℕ} g.D.Disk.tells m new (Err c.in_err-from.field-0.0) (λ state _. Clears (form_at m.world) state) Never Nothing)
    (same_moment c.args.world.now (g.D.Disk.history c.args.d.now) (g.D.Disk.history c.before_turn.new.d) (g.D.Disk.size c.args.d.now) (g.D.Disk.size c.before_turn.new.d) (g.D.Disk.faults c.args.d.now) (g.D.Disk.faults c.before_turn.new.d)
    c.args.report.now.lines c.before_turn.new.report.lines c.before_turn.ensures.history c.before_turn.ensures.size c.in_ok-command.ensures.cause.done c.before_turn.ensures.lines) c.in_err-from.ensures.led))

pub take_turn-requires-clause-busy : goal.take_turn-requires-clause-busy
take_turn-requires-clause-busy g c = c.in_ok-from.ensures.busy c.args.who c.requires.busy

pub take_turn-requires-clause-has : goal.take_turn-requires-clause-has
take_turn-requires-clause-has g c = c.in_ok-from.ensures.has c.args.who (law_command c.in_ok-command.command) c.in_ok-command.ensures.has

pub returns-clause-led : goal.returns-clause-led
returns-clause-led g c =
    let w = c.args.world.now in
    let h = g.D.Disk.history c.args.d.now in
    let old = moment w h (g.D.Disk.size c.args.d.now) (g.D.Disk.faults c.args.d.now) c.args.report.now.lines in
    let mid = moment c.clear_gate.new.world (g.D.Disk.history c.clear_gate.new.d) (g.D.Disk.size c.clear_gate.new.d) (g.D.Disk.faults c.clear_gate.new.d) c.clear_gate.new.report.lines in
    let new = moment c.take_turn.new.world (g.D.Disk.history c.take_turn.new.d) (g.D.Disk.size c.take_turn.new.d) (g.D.Disk.faults c.take_turn.new.d) c.take_turn.new.report.lines in
    turn_after g.D.Disk.tells old mid new (law_opener c.args.who) (law_command c.in_ok-command.command) (λ state is t e. c.in_ok-command.ensures.command h state t is e) c.in_ok-from.from
    (subst (λ m. Led g.D.Disk.tells m mid (Ok c.in_ok-from.from) (λ state _. Clears (form_at m.world) state) Never Nothing)
    (same_moment w h (g.D.Disk.history c.before_turn.new.d) (g.D.Disk.size c.args.d.now) (g.D.Disk.size c.before_turn.new.d) (g.D.Disk.faults c.args.d.now) (g.D.Disk.faults c.before_turn.new.d)
    c.args.report.now.lines c.before_turn.new.report.lines c.before_turn.ensures.history c.before_turn.ensures.size c.in_ok-command.ensures.cause.done c.before_turn.ensures.lines) c.in_ok-from.ensures.led)
    c.take_turn.result c.take_turn.ensures.led

pub returns-in_err-command-clause-stops : goal.returns-in_err-command-clause-stops
returns-in_err-command-clause-stops g c =
    let q = err_from_is_err_and c.from_residual.result c.from_residual.ensures.1 in
    rw (q.1, q.2)
    (stops_none g.D.Disk.tells (moment c.args.world.now (g.D.Disk.history c.args.d.now) (g.D.Disk.size c.args.d.now) (g.D.Disk.faults c.args.d.now) c.args.report.now.lines)
    (moment c.args.world.now (g.D.Disk.history c.before_turn.new.d) (g.D.Disk.size c.before_turn.new.d) (g.D.Disk.faults c.before_turn.new.d) c.before_turn.new.report.lines)
    (Err c.in_err-command.field-0.0) refl c.before_turn.ensures.history c.before_turn.ensures.lines)

pub returns-in_err-from-clause-stops : goal.returns-in_err-from-clause-stops
returns-in_err-from-clause-stops g c =
    let q = err_from_is_err_and c.from_residual-in_err-from.result c.from_residual-in_err-from.ensures.1 in
    let w = c.args.world.now in
    let h = g.D.Disk.history c.args.d.now in
    let new = moment c.clear_gate.new.world (g.D.Disk.history c.clear_gate.new.d) (g.D.Disk.size c.clear_gate.new.d) (g.D.Disk.faults c.clear_gate.new.d) c.clear_gate.new.report.lines in
    rw (q.1, q.2)
    (undo_stops g.D.Disk.tells (moment w h (g.D.Disk.size c.args.d.now) (g.D.Disk.faults c.args.d.now) c.args.report.now.lines) new (law_opener c.args.who) c.in_err-from.field-0.0
    (subst (λ m. Led {V = ℕ} g.D.Disk.tells m new (Err c.in_err-from.field-0.0) (λ state _. Clears (form_at m.world) state) Never Nothing)
    (same_moment w h (g.D.Disk.history c.before_turn.new.d) (g.D.Disk.size c.args.d.now) (g.D.Disk.size c.before_turn.new.d) (g.D.Disk.faults c.args.d.now) (g.D.Disk.faults c.before_turn.new.d)
    c.args.report.now.lines c.before_turn.new.report.lines c.before_turn.ensures.history c.before_turn.ensures.size c.in_ok-command.ensures.cause.done c.before_turn.ensures.lines)
    c.in_err-from.ensures.led)
    (subst (λ u. UndoStops g.D.Disk.tells w u (g.D.Disk.history c.clear_gate.new.d)) c.before_turn.ensures.history c.clear_gate.ensures.stops))

pub returns-clause-stops : goal.returns-clause-stops
returns-clause-stops g c =
    let w = c.args.world.now in
    let h = g.D.Disk.history c.args.d.now in
    let old = moment w h (g.D.Disk.size c.args.d.now) (g.D.Disk.faults c.args.d.now) c.args.report.now.lines in
    let mid = moment c.clear_gate.new.world (g.D.Disk.history c.clear_gate.new.d) (g.D.Disk.size c.clear_gate.new.d) (g.D.Disk.faults c.clear_gate.new.d) c.clear_gate.new.report.lines in
    let new = moment c.take_turn.new.world (g.D.Disk.history c.take_turn.new.d) (g.D.Disk.size c.take_turn.new.d) (g.D.Disk.faults c.take_turn.new.d) c.take_turn.new.report.lines in
    turn_stops g.D.Disk.tells old mid new (law_opener c.args.who) (law_command c.in_ok-command.command) (λ state is t e. c.in_ok-command.ensures.command h state t is e) c.in_ok-from.from
    (subst (λ m. Led g.D.Disk.tells m mid (Ok c.in_ok-from.from) (λ state _. Clears (form_at m.world) state) Never Nothing)
    (same_moment w h (g.D.Disk.history c.before_turn.new.d) (g.D.Disk.size c.args.d.now) (g.D.Disk.size c.before_turn.new.d) (g.D.Disk.faults c.args.d.now) (g.D.Disk.faults c.before_turn.new.d)
    c.args.report.now.lines c.before_turn.new.report.lines c.before_turn.ensures.history c.before_turn.ensures.size c.in_ok-command.ensures.cause.done c.before_turn.ensures.lines) c.in_ok-from.ensures.led)
    c.take_turn.result c.take_turn.ensures.led
    (subst (λ u. UndoStops g.D.Disk.tells w u (g.D.Disk.history c.clear_gate.new.d)) c.before_turn.ensures.history c.clear_gate.ensures.stops)
    (subst (λ u. UndoKeeps g.D.Disk.tells w u (g.D.Disk.history c.clear_gate.new.d)) c.before_turn.ensures.history c.in_ok-from.ensures.safe)
    c.take_turn.ensures.stops c.take_turn.ensures.safe c.take_turn.ensures.told
