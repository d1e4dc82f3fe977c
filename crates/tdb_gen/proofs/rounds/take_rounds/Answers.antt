-- One round more was taken, or those that are left would change nothing, or one broke off.
use Rattle.std.proofs.Common.{◌≡◌, ◌+◌, ◌-◌, ◌<◌, ◌∙◌, Result, Ok, Err, ap, subst, arith}
use Rattle.std.proofs.lemmas.Result.{err_from_is_err_and}
use Rattle.tdb_gen.specs.declared.fault.GenFault.{GenFault}
use Rattle.tdb_gen.specs.Plays.{round, rounds}
use Rattle.tdb_gen.specs.Taking.{Place, place, Taken}
use Rattle.tdb_gen.proofs.Grouping.{rounds_more, rounds_join}
use Rattle.tdb_gen.proofs.Resting.{taken_rest}
use Rattle.tdb_gen.proofs.Takings.{taken_none, taken_join, taken_more}
use Rattle.tdb_gen.proofs.rounds.take_rounds.Goals as goal
use Rattle.tdb_gen.proofs.rounds.take_rounds.Goals.{After-take_round}

-- before all rounds, before the next one, and behind it
abbrev first : (g : _) (c : After-take_round g) → Place
first g c = place c.args.world.now c.args.counts.now (g.L.Logs.logs c.args.logs.now)

abbrev mid : (g : _) (c : After-take_round g) → Place
mid g c = place c.loop.world c.loop.counts (g.L.Logs.logs c.loop.logs)

abbrev last : (g : _) (c : After-take_round g) → Place
last g c = place c.take_round.new.world c.take_round.new.counts (g.L.Logs.logs c.take_round.new.logs)

-- the rounds with it
more : (g : _) (c : After-take_round g) (answer : Result (Unit {0}) GenFault) → Taken g.D.Disk.tells (mid g c) (last g c) round answer → Taken g.D.Disk.tells (first g c) (last g c) (rounds (c.loop.counter + 1)) answer
more g c answer T =
    subst (λ ps. Taken g.D.Disk.tells (first g c) (last g c) ps answer) (rounds_more c.loop.counter)
    (taken_join g.D.Disk.tells (first g c) (mid g c) (last g c) (rounds c.loop.counter) c.loop.invariant answer round T)

pub loop-init : goal.loop-init
loop-init g c = taken_none g.D.Disk.tells (place c.args.world.now c.args.counts.now (g.L.Logs.logs c.args.logs.now)) c.requires.unspent

pub returns-in_err-take_round : goal.returns-in_err-take_round
returns-in_err-take_round g c =
    let a = (goal.at.returns-in_err-take_round g c).After-take_round in
    let q = err_from_is_err_and c.from_residual.result c.from_residual.ensures.1 in
    let e = c.in_err-take_round.field-0.0 in
    let i = c.loop.counter in
    let low : i < 24 = c.loop-test.true in
    record {
      taken =
          rw (q.1, q.2)
          (subst (λ ps. Taken g.D.Disk.tells (first g a) (last g a) ps (Err e)) (rounds_join (i + 1) (24 - (i + 1)) ∙ ap rounds (let all : i + 1 + (24 - (i + 1)) ≡ 24 = omega (arith, low) in all))
          (taken_more g.D.Disk.tells (first g a) (last g a) (rounds (i + 1)) (rounds (24 - (i + 1))) e (more g a (Err e) c.in_err-take_round.ensures.taken)));
    }

pub returns-then-not-branch : goal.returns-then-not-branch
returns-then-not-branch g c =
    let a = (goal.at.returns-then-not-branch g c).After-take_round in
    record { taken = taken_rest g.D.Disk.tells (first g a) (mid g a) (last g a) c.loop.counter 24 c.loop-test.true c.loop.invariant c.in_ok-take_round.ensures.taken (c.in_ok-take_round.ensures.rests c.if-not-branch.true) }

pub loop-preserved : goal.loop-preserved
loop-preserved g c = more g ((goal.at.loop-preserved g c).After-take_round) (Ok tt) c.in_ok-take_round.ensures.taken

pub returns : goal.returns
returns g c =
    let least = c.loop-test.false in
    let most = c.loop.auto.counter-end in
    let all : c.loop.counter ≡ 24 = omega (arith, least, most) in
    record {
      taken =
          subst (λ n. Taken g.D.Disk.tells (place c.args.world.now c.args.counts.now (g.L.Logs.logs c.args.logs.now))
          (place c.loop.world c.loop.counts (g.L.Logs.logs c.loop.logs)) (rounds n) (Ok tt))
          all c.loop.invariant;
    }
