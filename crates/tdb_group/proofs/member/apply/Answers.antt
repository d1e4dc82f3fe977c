-- The command is done, and then memory is given back.
use Rattle.tdb_commands.specs.InLaw.{law_command}
use Rattle.tdb_group.proofs.ButRoom.{applied_still, ran_still}
use Rattle.tdb_group.proofs.member.apply.Goals as goal

pub returns-clause-ran : goal.returns-clause-ran
returns-clause-ran g c = ran_still c.do_on_key-answer.new.world c.shrink_to_fit.new.self c.shrink_to_fit.ensures.memory c.args.world.now c.do_on_key-answer.result c.do_on_key-answer.ensures.ran

pub returns-clause-applied : goal.returns-clause-applied
returns-clause-applied g c =
    applied_still c.do_on_key-answer.new.world c.shrink_to_fit.new.self c.shrink_to_fit.ensures.memory c.shrink_to_fit.ensures.states g.D.Disk.tells (law_command c.args.command) c.args.world.now c.do_on_key-answer.result
    c.do_on_key-answer.ensures.applied
