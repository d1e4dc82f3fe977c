-- The turns so far, and one more.
use Rattle.std.proofs.Common.{◌≡◌, subst, arith}
use Rattle.std.proofs.lemmas.Result.{err_from_is_err_and}
use Rattle.tdb_world.specs.OverFiles.Turns.{TookTurn}
use Rattle.tdb_group.proofs.Loops.{SoFar, did_blocked, did_ended, did_failed, did_over, so_far_none, so_far_step}
use Rattle.tdb_group.proofs.turns.take_turns.Goals as goal

pub loop-taken-init : goal.loop-taken-init
loop-taken-init g c = so_far_none g.D.Disk.tells c.args.world.now c.requires.busy c.requires.fresh c.requires.unspent

pub turn-requires-clause-busy : goal.turn-requires-clause-busy
turn-requires-clause-busy g c = c.loop-taken.invariant.busy

pub turn-requires-clause-fresh : goal.turn-requires-clause-fresh
turn-requires-clause-fresh g c = c.loop-taken.invariant.fresh

pub turn-requires-clause-unspent : goal.turn-requires-clause-unspent
turn-requires-clause-unspent g c = c.loop-taken.invariant.unspent

pub returns-in_err-turn-clause-did : goal.returns-in_err-turn-clause-did
returns-in_err-turn-clause-did g c command =
    let q = err_from_is_err_and c.from_residual.result c.from_residual.ensures.1 in
    rw (q.1, q.2)
    (did_failed g.D.Disk.tells c.args.world.now c.loop-taken.world c.turn.new.self c.loop-taken._taken c.loop-taken.invariant c.in_err-turn.field-0.0 c.in_err-turn.ensures.faults c.in_err-turn.ensures.stops command)

pub returns-in-Blocked-clause-did : goal.returns-in-Blocked-clause-did
returns-in-Blocked-clause-did g c command =
    did_blocked g.D.Disk.tells c.args.world.now c.loop-taken.world c.turn.new.self c.loop-taken._taken c.loop-taken.invariant c.in-Blocked.owner c.in-Blocked.byte
    (subst (TookTurn g.D.Disk.tells c.loop-taken.world c.turn.new.self 1) c.in-Blocked.is c.in_ok-turn.ensures.turned) c.in_ok-turn.ensures.stops command

pub returns-in-Done-clause-did : goal.returns-in-Done-clause-did
returns-in-Done-clause-did g c command =
    did_ended g.D.Disk.tells c.args.world.now c.loop-taken.world c.turn.new.self c.loop-taken._taken c.loop-taken.invariant c.in-Done.reply
    (subst (TookTurn g.D.Disk.tells c.loop-taken.world c.turn.new.self 1) c.in-Done.is c.in_ok-turn.ensures.turned) c.in_ok-turn.ensures.stops command

pub loop-taken-preserved : goal.loop-taken-preserved
loop-taken-preserved g c =
    so_far_step g.D.Disk.tells c.args.world.now c.loop-taken.world c.turn.new.self c.loop-taken._taken c.loop-taken.invariant
    (subst (TookTurn g.D.Disk.tells c.loop-taken.world c.turn.new.self 1) c.in-Step.is c.in_ok-turn.ensures.turned) c.in_ok-turn.ensures.stops c.in_ok-turn.ensures.faults.done
    c.in_ok-turn.ensures.spent

pub returns-clause-did : goal.returns-clause-did
returns-clause-did g c command =
    let past = c.loop-taken-test.false in
    let most = c.loop-taken.auto._taken-end in
    let nine : c.loop-taken._taken ≡ 9 = omega (arith, past, most) in
    did_over g.D.Disk.tells c.args.world.now c.loop-taken.world (subst (SoFar g.D.Disk.tells c.args.world.now c.loop-taken.world) nine c.loop-taken.invariant) command
