-- An open gate is undone; where none stands open nothing happens.
use Rattle.std.proofs.Common.{[], None, Some, Ok, refl, sym, ◌∙◌, subst}
use Rattle.std.proofs.lemmas.Result.{err_from_is_err_and}
use Rattle.tdb_law.specs.Plays.Clears.{clears_nothing}
use Rattle.tdb_world.specs.Steps.{HasCommand, HasThis}
use Rattle.tdb_world.specs.Courses.Stopped.StoppedCall.{stopped_undo}
use Rattle.tdb_world.specs.Courses.Led.{moment}
use Rattle.tdb_world.specs.Courses.Unreported.{undo_lines}
use Rattle.tdb_world.proofs.Courses.Leading.{led_none}
use Rattle.tdb_world.proofs.Courses.OneTurn.{cleared_busy, cleared_this, failed_led, stale_in, undone_led}
use Rattle.tdb_world.proofs.Courses.Stopping.{safe_opens}
use Rattle.tdb_world.proofs.course.unreported.undo_gate.Goals as goal

pub returns-then-not-is_stale-clause-led : goal.returns-then-not-is_stale-clause-led
returns-then-not-is_stale-clause-led g c =
    let fresh = sym c.is_stale.ensures ∙ c.if-not-is_stale.true in
    led_none g.D.Disk.tells (moment c.args.world.now (g.D.Disk.history c.args.d.now) (g.D.Disk.size c.args.d.now) (g.D.Disk.faults c.args.d.now) []) None _ _ _ c.requires.fits
    (λ state is. clears_nothing (stale_in c.args.world.now (g.D.Disk.history c.args.d.now) state is ∙ fresh) refl refl)

pub returns-in_err-undone-clause-led : goal.returns-in_err-undone-clause-led
returns-in_err-undone-clause-led g c =
    let q = err_from_is_err_and c.from_residual.result c.from_residual.ensures.1 in
    rw (q.1, q.2)
    (failed_led g.D.Disk.tells c.args.world.now c.undo_stale.new.self (g.D.Disk.history c.args.d.now) (g.D.Disk.history c.undo_stale.new.d) (g.D.Disk.size c.args.d.now) (g.D.Disk.size c.undo_stale.new.d)
    (g.D.Disk.faults c.args.d.now) (g.D.Disk.faults c.undo_stale.new.d) [] [] _ _ _ c.undo_stale.ensures.cause.never_falls refl
    (λ told state is. stopped_undo (g.met.D.Disk.told_size c.args.d.now told) (sym c.is_stale.ensures ∙ c.if-not-is_stale.false) (c.undo_stale.ensures.stops told)) (λ told state is. c.in_err-undone.ensures.cause.failed) (λ state. (refl, refl)))

pub returns-clause-led : goal.returns-clause-led
returns-clause-led g c =
    let undone = c.in_ok-undone.undone in
    undone_led (Some undone) g.D.Disk.tells c.args.world.now c.undo_stale.new.self (g.D.Disk.history c.args.d.now) (g.D.Disk.history c.undo_stale.new.d) (g.D.Disk.size c.args.d.now) (g.D.Disk.size c.undo_stale.new.d)
    (g.D.Disk.faults c.args.d.now) (g.D.Disk.faults c.undo_stale.new.d) undone.bytes undone.to [] (undo_lines (Ok (Some undone))) c.in_ok-undone.ensures.world
    c.in_ok-undone.ensures.shorter c.in_ok-undone.ensures.length c.in_ok-undone.ensures.cause.done c.in_ok-undone.ensures.fits
    (λ told state is. (record {
      before = g.met.D.Disk.told_size c.args.d.now told;
      after = g.met.D.Disk.told_size c.undo_stale.new.d told ∙ sym c.in_ok-undone.ensures.length;
      bytes_back = c.in_ok-undone.ensures.bytes told state is;
      leads = c.in_ok-undone.ensures.undoes told;
    }))
    refl

pub returns-clause-busy : goal.returns-clause-busy
returns-clause-busy g c who busy = subst (λ w. HasCommand w who) (sym c.in_ok-undone.ensures.world) (cleared_busy c.args.world.now who busy)

pub returns-clause-has : goal.returns-clause-has
returns-clause-has g c who command has = subst (λ w. HasThis w who command) (sym c.in_ok-undone.ensures.world) (cleared_this c.args.world.now who command has)

pub returns-then-not-is_stale-clause-stops : goal.returns-then-not-is_stale-clause-stops
returns-then-not-is_stale-clause-stops g c told state is safe = safe_opens c.args.world.now (g.D.Disk.history c.args.d.now) state is safe

pub returns-then-not-is_stale-clause-safe : goal.returns-then-not-is_stale-clause-safe
returns-then-not-is_stale-clause-safe g c told state is safe = safe

pub returns-in_err-undone-clause-stops : goal.returns-in_err-undone-clause-stops
returns-in_err-undone-clause-stops g c = c.undo_stale.ensures.stops

pub returns-clause-stops : goal.returns-clause-stops
returns-clause-stops g c = c.undo_stale.ensures.stops

pub returns-clause-safe : goal.returns-clause-safe
returns-clause-safe g c told state is safe = c.in_ok-undone.ensures.safe told state is
