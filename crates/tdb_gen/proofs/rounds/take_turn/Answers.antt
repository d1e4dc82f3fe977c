-- The turn was taken and counted, or there was none, or it broke off.
use Rattle.std.proofs.Common.{◌≡◌, ◌∷◌, [], ◌∙◌, Option, None, Some, Result, Ok, Err, IfOk, refl, ap, subst}
use Rattle.std.proofs.lemmas.Result.{err_from_is_err_and}
use Rattle.tdb_locks.specs.declared.turn.Turn.{Turn}
use Rattle.tdb_log.specs.declared.log.LogRefusal.{LogRefusal}
use Rattle.tdb_commands.specs.declared.play.Play.TheVariants as Plays
use Rattle.tdb_openers.specs.declared.fault.RunFault.{RunFault}
use Rattle.tdb_world.specs.OverFile.{moment_of}
use Rattle.tdb_world.specs.OverFiles.Plays.{is_io}
use Rattle.tdb_world.specs.Courses.Unreported.{Unreported}
use Rattle.tdb_gen.specs.declared.counts.Counts.{Counts}
use Rattle.tdb_gen.specs.Taking.{end_of, end_only, Place, place, Taken}
use Rattle.tdb_gen.proofs.Turning.{CountsTurn, turn_taken, turn_rests}
use Rattle.tdb_gen.proofs.rounds.take_turn.Goals as goal
use Rattle.tdb_gen.proofs.rounds.take_turn.Goals.{After-turn_unreported}

abbrev Told : (g : _) → After-turn_unreported g → Result (Result (Option Turn) LogRefusal) RunFault → Type 0
Told g c answer =
    Unreported g.D.Disk.tells (moment_of c.args.world.now []) (moment_of c.turn_unreported.new.self [])
    (g.L.Logs.logs c.args.logs.now) (g.L.Logs.logs c.turn_unreported.new.logs) c.args.who answer

-- before the turn, and behind it with these counts
abbrev first : (g : _) (c : After-turn_unreported g) → Place
first g c = place c.args.world.now c.args.counts.now (g.L.Logs.logs c.args.logs.now)

abbrev last : (g : _) (c : After-turn_unreported g) → Counts → Place
last g c counts = place c.turn_unreported.new.self counts (g.L.Logs.logs c.turn_unreported.new.logs)

taken : (g : _) (c : After-turn_unreported g) (counts : Counts) (answer : Result (Result (Option Turn) LogRefusal) RunFault) → Told g c answer → IfOk (end_of answer) (λ turn. CountsTurn c.args.who turn c.args.counts.now counts)
    → c.turn_unreported.new.self.spent ≡ is_io answer → Taken g.D.Disk.tells (first g c) (last g c counts) (Plays.Turn c.args.who ∷ []) (end_only (end_of answer))
taken g c counts answer U C spent =
    turn_taken g.D.Disk.tells c.args.world.now c.turn_unreported.new.self
    c.args.counts.now counts (g.L.Logs.logs c.args.logs.now) (g.L.Logs.logs c.turn_unreported.new.logs) c.args.who answer U C spent

pub returns-in_err-turn_unreported-clause-taken : goal.returns-in_err-turn_unreported-clause-taken
returns-in_err-turn_unreported-clause-taken g c =
    let a = (goal.at.returns-in_err-turn_unreported-clause-taken g c).After-turn_unreported in
    let q = err_from_is_err_and c.from_residual.result c.from_residual.ensures.1 in
    rw (q.1, q.2) (taken g a c.args.counts.now (Err c.in_err-turn_unreported.field-0.0) c.in_err-turn_unreported.ensures.led tt c.in_err-turn_unreported.ensures.spent)

pub returns-in_err-turn-clause-taken : goal.returns-in_err-turn-clause-taken
returns-in_err-turn-clause-taken g c =
    let a = (goal.at.returns-in_err-turn-clause-taken g c).After-turn_unreported in
    let q = err_from_is_err_and c.from_residual-in_err-turn.result c.from_residual-in_err-turn.ensures.1 in
    rw (q.1, q.2) (taken g a c.args.counts.now (Ok (Err c.in_err-turn.field-0.0)) (subst (λ r. Told g a (Ok r)) c.in_err-turn.was c.in_ok-turn_unreported.ensures.led) tt c.in_ok-turn_unreported.ensures.spent)

-- it answered so
answered : (g : _) (c : After-turn_unreported g) (r : Result (Option Turn) LogRefusal) (turn found : Option Turn) → r ≡ Ok turn → turn ≡ found → Told g c (Ok r) → Told g c (Ok (Ok found))
answered g c r turn found was is U = subst (λ o. Told g c (Ok o)) (was ∙ ap (λ o. Ok o) is) U

pub returns-in_default-clause-taken : goal.returns-in_default-clause-taken
returns-in_default-clause-taken g c =
    let a = (goal.at.returns-in_default-clause-taken g c).After-turn_unreported in
    taken g a c.args.counts.now (Ok (Ok None)) (answered g a _ _ None c.in_ok-turn.was c.in_default.is c.in_ok-turn_unreported.ensures.led) refl c.in_ok-turn_unreported.ensures.spent

pub returns-in_default-clause-rests : goal.returns-in_default-clause-rests
returns-in_default-clause-rests g c none =
    let a = (goal.at.returns-in_default-clause-rests g c).After-turn_unreported in
    turn_rests g.D.Disk.tells c.args.world.now c.turn_unreported.new.self
    c.args.counts.now c.args.counts.now (g.L.Logs.logs c.args.logs.now) (g.L.Logs.logs c.turn_unreported.new.logs) c.args.who (answered g a _ _ None c.in_ok-turn.was c.in_default.is c.in_ok-turn_unreported.ensures.led) refl

pub returns-clause-taken : goal.returns-clause-taken
returns-clause-taken g c =
    let a = (goal.at.returns-clause-taken g c).After-turn_unreported in
    taken g a c.count_turn.new.self (Ok (Ok (Some c.in-Some.turn))) (answered g a _ _ (Some c.in-Some.turn) c.in_ok-turn.was c.in-Some.is c.in_ok-turn_unreported.ensures.led) (λ command. c.count_turn.ensures c.args.who command) c.in_ok-turn_unreported.ensures.spent
