-- The commands up to the end of the group were given.
use Rattle.std.proofs.Common.{◌≡◌, ◌+◌, ◌-◌, min, subst, arith}
use Rattle.tdb_gen.specs.Plays.{gifts}
use Rattle.tdb_gen.specs.Taking.{TakenUncounted}
use Rattle.tdb_gen.proofs.group.give_group.Goals as goal

pub returns-clause-taken : goal.returns-clause-taken
returns-clause-taken g c seed from =
    let start = c.args.generator.now.index in
    let first = c.index.ensures in
    let again = c.index-2.ensures in
    let least = c.min.ensures in
    let all : c.index-2.result + c.min.result - start ≡ min 3 (c.args.commands - start) = omega (arith, first, again, least) in
    subst (λ n. TakenUncounted g.D.Disk.tells c.args.world.now c.give_up_to.new.world (gifts seed start n) c.give_up_to.result) all (c.give_up_to.ensures.taken seed from)
