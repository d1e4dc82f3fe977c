-- A turn between two looks at the file's length is one of the law.
use Rattle.std.proofs.Common.{◌≡◌, ◌++◌, [], ◌∷◌, Ok, Err, refl, sym, ◌∙◌, ap, subst, inl, arith, append_assoc, append-nil}
use Rattle.std.proofs.lemmas.Result.{err_from_is_err_and}
use Rattle.tdb_disk.specs.Count.{Rose}
use Rattle.tdb_disk.specs.History.{seen}
use Rattle.tdb_commands.specs.InLaw.{law_command, law_opener, law_turn}
use Rattle.tdb_commands.specs.declared.line.Line.TheVariants as Lines
use Rattle.tdb_openers.specs.Played.{growth, is_step, TakesLast, TakesOne}
use Rattle.tdb_openers.specs.declared.fault.RunFault.TheVariants.{Io}
use Rattle.tdb_world.specs.Looks.{StaysUnwritten}
use Rattle.tdb_world.specs.Steps.{TurnLeads}
use Rattle.tdb_world.specs.Whole.{form_at, WorldFits}
use Rattle.tdb_world.specs.Courses.Stopped.StoppedCall.{stopped_still, stopped_turn, stopped_untold}
use Rattle.tdb_world.specs.Courses.Led.{moment, Led}
use Rattle.tdb_world.specs.Courses.Turns.{IsToldOf, Never}
use Rattle.tdb_world.specs.declared.course.unreported.MeasuredTurn.{MeasuredTurn}
use Rattle.tdb_world.proofs.Courses.Leading.{led_whole, same_moment}
use Rattle.tdb_world.proofs.Courses.OneTurn.{failed_led, took_led}
use Rattle.tdb_world.proofs.Courses.StoppedTurns.{no_turn_stops, same_keeps, same_stops}
use Rattle.tdb_world.proofs.course.unreported.measured_turn.Goals as goal

pub returns-in_err-from-clause-led : goal.returns-in_err-from-clause-led
returns-in_err-from-clause-led g c command front has =
    let q = err_from_is_err_and c.from_residual.result c.from_residual.ensures.1 in
    rw (q.1, q.2)
    (failed_led g.D.Disk.tells c.args.world.now c.args.world.now (g.D.Disk.history c.args.d.now) (g.D.Disk.history c.length_of.new.d) (g.D.Disk.size c.args.d.now) (g.D.Disk.size c.length_of.new.d)
    (g.D.Disk.faults c.args.d.now) (g.D.Disk.faults c.length_of.new.d) front (front ++ []) _ _ _ c.length_of.ensures.cause.never_falls (append-nil front)
    (λ told state is. stopped_still c.length_of.ensures.history) (λ told state is. c.in_err-from.ensures.cause.failed) (λ state mine. inl (refl, refl)))

pub returns-in_err-turn-clause-led : goal.returns-in_err-turn-clause-led
returns-in_err-turn-clause-led g c command front has =
    let q = err_from_is_err_and c.from_residual-in_err-turn.result c.from_residual-in_err-turn.ensures.1 in
    let w = c.args.world.now in
    let h = g.D.Disk.history c.length_of.new.d in
    let size = g.D.Disk.size c.length_of.new.d in
    let before = g.D.Disk.faults c.length_of.new.d in
    let now = g.D.Disk.faults c.turn.new.d in
    rw (q.1, q.2)
    (subst (λ m. Led {V = MeasuredTurn} g.D.Disk.tells m (moment c.turn.new.self (g.D.Disk.history c.turn.new.d) (g.D.Disk.size c.turn.new.d) now (front ++ [])) (Err Io)
    (λ state measured lines new. IsToldOf state (law_opener c.args.who) (law_command command) → TakesOne (form_at w) state (law_opener c.args.who) (is_step measured.turn) lines new) Never
    (λ state lines new. IsToldOf state (law_opener c.args.who) (law_command command) → TakesLast (form_at w) state (law_opener c.args.who) lines new))
    (same_moment w (g.D.Disk.history c.args.d.now) h (g.D.Disk.size c.args.d.now) size (g.D.Disk.faults c.args.d.now) before front front c.length_of.ensures.history c.length_of.ensures.size c.in_ok-from.ensures.cause.done refl)
    (failed_led g.D.Disk.tells w c.turn.new.self h (g.D.Disk.history c.turn.new.d) size (g.D.Disk.size c.turn.new.d) before now front (front ++ []) _ _ _ c.turn.ensures.rises (append-nil front)
    (λ told state is. stopped_turn c.args.who (g.met.D.Disk.told_size c.length_of.new.d told) (c.in_err-turn.ensures.stopped told state is) c.turn.ensures.still)
    (λ told state is. (c.in_err-turn.ensures.cause told state is).failed) (λ state mine. inl (refl, refl))))

pub returns-in_err-to-clause-led : goal.returns-in_err-to-clause-led
returns-in_err-to-clause-led g c command front has =
    let q = err_from_is_err_and c.from_residual-in_err-to.result c.from_residual-in_err-to.ensures.1 in
    let w = c.args.world.now in
    let h = g.D.Disk.history c.length_of.new.d in
    let size = g.D.Disk.size c.length_of.new.d in
    let before = g.D.Disk.faults c.length_of.new.d in
    let now = g.D.Disk.faults c.length_of-2.new.d in
    let rises = c.turn.ensures.rises in
    let more = c.length_of-2.ensures.cause.never_falls in
    rw (q.1, q.2)
    (subst (λ m. Led {V = MeasuredTurn} g.D.Disk.tells m (moment c.turn.new.self (g.D.Disk.history c.length_of-2.new.d) (g.D.Disk.size c.length_of-2.new.d) now (front ++ [])) (Err Io)
    (λ state measured lines new. IsToldOf state (law_opener c.args.who) (law_command command) → TakesOne (form_at w) state (law_opener c.args.who) (is_step measured.turn) lines new) Never
    (λ state lines new. IsToldOf state (law_opener c.args.who) (law_command command) → TakesLast (form_at w) state (law_opener c.args.who) lines new))
    (same_moment w (g.D.Disk.history c.args.d.now) h (g.D.Disk.size c.args.d.now) size (g.D.Disk.faults c.args.d.now) before front front c.length_of.ensures.history c.length_of.ensures.size c.in_ok-from.ensures.cause.done refl)
    (failed_led g.D.Disk.tells w c.turn.new.self h (g.D.Disk.history c.length_of-2.new.d) size (g.D.Disk.size c.length_of-2.new.d) before now front (front ++ []) _ _ _ (omega (arith, rises, more)) (append-nil front)
    (λ told state is. stopped_untold c.args.who (law_turn c.in_ok-turn.turn) c.turn.new.self (g.met.D.Disk.told_size c.length_of.new.d told)
    (subst (λ u. TurnLeads w c.turn.new.self h u c.args.who (law_turn c.in_ok-turn.turn)) (sym c.length_of-2.ensures.history) (c.in_ok-turn.ensures.turned told)) (c.in_ok-turn.ensures.full told)
    (subst (StaysUnwritten w c.args.who h) (sym c.length_of-2.ensures.history) c.turn.ensures.still))
    (λ told state is. subst (λ n. Rose n now) c.in_ok-turn.ensures.done c.in_err-to.ensures.cause.failed) (λ state mine. inl (refl, refl))))

pub returns-clause-led : goal.returns-clause-led
returns-clause-led g c command front has =
    let w = c.args.world.now in
    let v = c.turn.new.self in
    let h = g.D.Disk.history c.length_of.new.d in
    let z = g.D.Disk.history c.length_of-2.new.d in
    let from = g.D.Disk.size c.length_of.new.d in
    let to = g.D.Disk.size c.length_of-2.new.d in
    let before = g.D.Disk.faults c.length_of.new.d in
    let now = g.D.Disk.faults c.length_of-2.new.d in
    let turn = c.in_ok-turn.turn in
    let measured : MeasuredTurn = record { turn = turn; from = c.in_ok-from.from; to = c.in_ok-to.to } in
    let longer = c.in_ok-turn.ensures.longer in
    let kept = c.length_of-2.ensures.size in
    let begins : c.in_ok-from.from ≡ from = c.in_ok-from.ensures.length ∙ sym c.length_of.ensures.size in
    let ends : c.in_ok-to.to ≡ to = c.in_ok-to.ensures.length ∙ sym kept in
    let all = front ++ Lines.Took c.args.who command turn ∷ growth c.in_ok-from.from c.in_ok-to.to in
    let lines : all ≡ (front ++ Lines.Took c.args.who command turn ∷ []) ++ growth from to =
    ap (λ n. front ++ Lines.Took c.args.who command turn ∷ growth n c.in_ok-to.to) begins ∙ (ap (λ n. front ++ Lines.Took c.args.who command turn ∷ growth from n) ends
    ∙ sym (append_assoc front (Lines.Took c.args.who command turn ∷ []) (growth from to))) in
    let old = moment w h from before front in
    let new = moment v z to now all in
    subst (λ m. Led g.D.Disk.tells m new (Ok measured)
    (λ state measured lines new. IsToldOf state (law_opener c.args.who) (law_command command) → TakesOne (form_at w) state (law_opener c.args.who) (is_step measured.turn) lines new) Never
    (λ state lines new. IsToldOf state (law_opener c.args.who) (law_command command) → TakesLast (form_at w) state (law_opener c.args.who) lines new))
    (same_moment w (g.D.Disk.history c.args.d.now) h (g.D.Disk.size c.args.d.now) from (g.D.Disk.faults c.args.d.now) before front front c.length_of.ensures.history c.length_of.ensures.size c.in_ok-from.ensures.cause.done refl)
    (led_whole g.D.Disk.tells old new _ Never Never _ _ _ (is_step turn) measured
    (took_led g.D.Disk.tells w v h z from before c.args.who command turn front all
    (λ told. (record {
      has = has;
      before = g.met.D.Disk.told_size c.length_of.new.d told;
      leads = subst (λ u. TurnLeads w v h u c.args.who (law_turn turn)) (sym c.length_of-2.ensures.history) (c.in_ok-turn.ensures.turned told);
      full = c.in_ok-turn.ensures.full told;
      still = subst (StaysUnwritten w c.args.who h) (sym c.length_of-2.ensures.history) c.turn.ensures.still;
    }))
    c.in_ok-turn.ensures.header c.in_ok-turn.ensures.options to now _ _ (omega (arith, longer, kept)) (c.in_ok-to.ensures.cause.done ∙ c.in_ok-turn.ensures.done)
    (subst (λ u. WorldFits v (seen u) to) (sym c.length_of-2.ensures.history) (subst (WorldFits v (seen (g.D.Disk.history c.turn.new.d))) (sym kept) c.in_ok-turn.ensures.fits)) (g.met.D.Disk.told_size c.length_of-2.new.d) lines) (λ state lines z is T. T))

pub returns-in_err-from-clause-stops : goal.returns-in_err-from-clause-stops
returns-in_err-from-clause-stops g c = no_turn_stops g.D.Disk.tells c.args.world.now (law_opener c.args.who) (g.D.Disk.history c.args.d.now) (g.D.Disk.history c.length_of.new.d) c.length_of.ensures.history

pub returns-in_err-turn-clause-stops : goal.returns-in_err-turn-clause-stops
returns-in_err-turn-clause-stops g c =
    same_stops g.D.Disk.tells (form_at c.args.world.now) c.args.world.now (law_opener c.args.who) (g.D.Disk.history c.args.d.now) (g.D.Disk.history c.length_of.new.d) (g.D.Disk.history c.turn.new.d) (g.D.Disk.history c.turn.new.d)
    c.length_of.ensures.history refl c.turn.ensures.stops

pub returns-in_err-to-clause-stops : goal.returns-in_err-to-clause-stops
returns-in_err-to-clause-stops g c =
    same_stops g.D.Disk.tells (form_at c.args.world.now) c.args.world.now (law_opener c.args.who) (g.D.Disk.history c.args.d.now) (g.D.Disk.history c.length_of.new.d) (g.D.Disk.history c.turn.new.d) (g.D.Disk.history c.length_of-2.new.d)
    c.length_of.ensures.history c.length_of-2.ensures.history c.turn.ensures.stops

pub returns-clause-stops : goal.returns-clause-stops
returns-clause-stops g c =
    same_stops g.D.Disk.tells (form_at c.args.world.now) c.args.world.now (law_opener c.args.who) (g.D.Disk.history c.args.d.now) (g.D.Disk.history c.length_of.new.d) (g.D.Disk.history c.turn.new.d) (g.D.Disk.history c.length_of-2.new.d)
    c.length_of.ensures.history c.length_of-2.ensures.history c.turn.ensures.stops

pub returns-clause-safe : goal.returns-clause-safe
returns-clause-safe g c =
    same_keeps g.D.Disk.tells (form_at c.args.world.now) c.args.world.now (law_opener c.args.who) (g.D.Disk.history c.args.d.now) (g.D.Disk.history c.length_of.new.d) (g.D.Disk.history c.turn.new.d) (g.D.Disk.history c.length_of-2.new.d)
    c.length_of.ensures.history c.length_of-2.ensures.history c.in_ok-turn.ensures.safe
