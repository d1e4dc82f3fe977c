-- A turn with its lines is one of the law.
use Rattle.std.proofs.Common.{◌≡◌, ◌++◌, true, refl, sym, ◌∙◌, ap, subst, inl, arith}
use Rattle.std.proofs.lemmas.Result.{err_from_is_err_and}
use Rattle.tdb_disk.specs.Count.{Rose}
use Rattle.tdb_disk.specs.History.{seen}
use Rattle.tdb_locks.specs.declared.turn.Turn.{Turn}
use Rattle.tdb_locks.specs.declared.turn.Turn.TheVariants as Turns
use Rattle.tdb_commands.specs.InLaw.{law_opener, law_turn}
use Rattle.tdb_openers.specs.Played.{growth, is_step}
use Rattle.tdb_world.specs.Looks.{StaysUnwritten}
use Rattle.tdb_world.specs.Steps.{TurnLeads}
use Rattle.tdb_world.specs.Stops.{IsSafe}
use Rattle.tdb_world.specs.Whole.{form_at, WorldFits}
use Rattle.tdb_world.specs.Courses.Stopped.StoppedCall.{stopped_turn}
use Rattle.tdb_world.proofs.Courses.OneTurn.{failed_led, took_io, took_led, took_told}
use Rattle.tdb_world.proofs.Courses.StoppedTurns.{TurnStops}
use Rattle.tdb_world.proofs.course.turning.take_turn.Goals as goal

pub returns-in_err-turn-clause-led : goal.returns-in_err-turn-clause-led
returns-in_err-turn-clause-led g c =
    let q = err_from_is_err_and c.from_residual.result c.from_residual.ensures.1 in
    rw (q.1, q.2)
    (failed_led g.D.Disk.tells c.args.world.now c.turn.new.self (g.D.Disk.history c.args.d.now) (g.D.Disk.history c.turn.new.d) (g.D.Disk.size c.args.d.now) (g.D.Disk.size c.turn.new.d)
    (g.D.Disk.faults c.args.d.now) (g.D.Disk.faults c.turn.new.d) c.args.report.now.lines c.args.report.now.lines _ _ _ c.turn.ensures.rises refl
    (λ told state is. stopped_turn c.args.who (g.met.D.Disk.told_size c.args.d.now told) (c.in_err-turn.ensures.stopped told state is) c.turn.ensures.still) (λ told state is. (c.in_err-turn.ensures.cause told state is).failed) (λ state mine. inl (refl, refl)))

pub returns-in_err-to-clause-led : goal.returns-in_err-to-clause-led
returns-in_err-to-clause-led g c =
    let q = err_from_is_err_and c.from_residual-in_err-to.result c.from_residual-in_err-to.ensures.1 in
    let rises = c.turn.ensures.rises in
    let more = c.length_of.ensures.cause.never_falls in
    rw (q.1, q.2)
    (took_io g.D.Disk.tells c.args.world.now c.turn.new.self (g.D.Disk.history c.args.d.now) (g.D.Disk.history c.turn.new.d) (g.D.Disk.size c.args.d.now) (g.D.Disk.faults c.args.d.now) c.args.who c.args.command c.in_ok-turn.turn
    c.args.report.now.lines c.put_line.new.report.lines (λ told. (record { has = c.requires.has; before = g.met.D.Disk.told_size c.args.d.now told; leads = c.in_ok-turn.ensures.turned told; full = c.in_ok-turn.ensures.full told; still = c.turn.ensures.still }))
    c.in_ok-turn.ensures.header c.in_ok-turn.ensures.options (g.D.Disk.faults c.length_of.new.d) (g.D.Disk.size c.length_of.new.d) (g.D.Disk.history c.length_of.new.d) c.length_of.ensures.history _ (omega (arith, rises, more)) c.put_line.ensures.lines
    (λ told state is. subst (λ n. Rose n (g.D.Disk.faults c.length_of.new.d)) c.in_ok-turn.ensures.done c.in_err-to.ensures.cause.failed))

pub returns-clause-led : goal.returns-clause-led
returns-clause-led g c =
    let w = c.args.world.now in
    let v = c.turn.new.self in
    let h = g.D.Disk.history c.args.d.now in
    let z = g.D.Disk.history c.length_of.new.d in
    let from = g.D.Disk.size c.args.d.now in
    let to = g.D.Disk.size c.length_of.new.d in
    let before = g.D.Disk.faults c.args.d.now in
    let now = g.D.Disk.faults c.length_of.new.d in
    let turn = c.in_ok-turn.turn in
    let lines = c.put_line.new.report.lines in
    let longer = c.in_ok-turn.ensures.longer in
    let kept = c.length_of.ensures.size in
    let told_growth = c.tell_growth.ensures ∙ (ap (λ n. lines ++ growth n c.in_ok-to.to) c.requires.length ∙ (ap (λ n. lines ++ growth from n) (c.in_ok-to.ensures.length ∙ sym c.length_of.ensures.size) ∙ ap (λ ls. ls ++ growth from to) c.put_line.ensures.lines)) in
    rw c.was_step-more.ensures
    (took_led g.D.Disk.tells w v h z from before c.args.who c.args.command turn c.args.report.now.lines c.tell_growth.new.report.lines
    (λ told. (record {
      has = c.requires.has;
      before = g.met.D.Disk.told_size c.args.d.now told;
      leads = subst (λ u. TurnLeads w v h u c.args.who (law_turn turn)) (sym c.length_of.ensures.history) (c.in_ok-turn.ensures.turned told);
      full = c.in_ok-turn.ensures.full told;
      still = subst (StaysUnwritten w c.args.who h) (sym c.length_of.ensures.history) c.turn.ensures.still;
    }))
    c.in_ok-turn.ensures.header c.in_ok-turn.ensures.options to now _ _ (omega (arith, longer, kept)) (c.in_ok-to.ensures.cause.done ∙ c.in_ok-turn.ensures.done)
    (subst (λ u. WorldFits v (seen u) to) (sym c.length_of.ensures.history) (subst (WorldFits v (seen (g.D.Disk.history c.turn.new.d))) (sym c.length_of.ensures.size) c.in_ok-turn.ensures.fits)) (g.met.D.Disk.told_size c.length_of.new.d) told_growth)

-- after a step the opener has its command still
step_is : (turn : Turn) → is_step turn ≡ true → turn ≡ Turns.Step
step_is Turns.Step e = refl
step_is (Turns.Blocked owner byte) e = absurd (cc e)
step_is (Turns.Done reply) e = absurd (cc e)

pub returns-clause-busy : goal.returns-clause-busy
returns-clause-busy g c more = c.in_ok-turn.ensures.busy (step_is c.in_ok-turn.turn (sym c.was_step-more.ensures ∙ more))

pub returns-in_err-turn-clause-stops : goal.returns-in_err-turn-clause-stops
returns-in_err-turn-clause-stops g c = c.turn.ensures.stops

pub returns-in_err-to-clause-stops : goal.returns-in_err-to-clause-stops
returns-in_err-to-clause-stops g c =
    subst (TurnStops g.D.Disk.tells (form_at c.args.world.now) c.args.world.now (law_opener c.args.who) (g.D.Disk.history c.args.d.now)) (sym c.length_of.ensures.history) c.turn.ensures.stops

pub returns-clause-stops : goal.returns-clause-stops
returns-clause-stops g c =
    subst (TurnStops g.D.Disk.tells (form_at c.args.world.now) c.args.world.now (law_opener c.args.who) (g.D.Disk.history c.args.d.now)) (sym c.length_of.ensures.history) c.turn.ensures.stops

-- nothing was told of the turn; or it was, and only the length couldn't be had behind it
pub returns-in_err-turn-clause-told : goal.returns-in_err-turn-clause-told
returns-in_err-turn-clause-told g c =
    let q = err_from_is_err_and c.from_residual.result c.from_residual.ensures.1 in
    rw (q.1) (λ tells state is safe never. inl refl)

pub returns-in_err-to-clause-told : goal.returns-in_err-to-clause-told
returns-in_err-to-clause-told g c =
    let q = err_from_is_err_and c.from_residual-in_err-to.result c.from_residual-in_err-to.ensures.1 in
    rw (q.1)
    (λ tells state is safe never.
    took_told g.D.Disk.tells c.args.world.now c.turn.new.self (g.D.Disk.history c.args.d.now) (g.D.Disk.history c.turn.new.d) (g.D.Disk.size c.args.d.now) (g.D.Disk.faults c.args.d.now) c.args.who c.args.command c.in_ok-turn.turn
    c.args.report.now.lines c.put_line.new.report.lines (λ told. (record { has = c.requires.has; before = g.met.D.Disk.told_size c.args.d.now told; leads = c.in_ok-turn.ensures.turned told; full = c.in_ok-turn.ensures.full told; still = c.turn.ensures.still }))
    c.in_ok-turn.ensures.header c.in_ok-turn.ensures.options
    (g.D.Disk.history c.length_of.new.d) c.length_of.ensures.history c.put_line.ensures.lines
    tells state is (c.in_ok-turn.ensures.safe tells state is safe never))

pub returns-clause-safe : goal.returns-clause-safe
returns-clause-safe g c told state is safe never = subst (IsSafe (form_at c.args.world.now)) (sym c.length_of.ensures.history) (c.in_ok-turn.ensures.safe told state is safe never)
