-- The command isn't given, or it is and its turns are taken.
use Rattle.std.proofs.Common.{None}
use Rattle.tdb_commands.specs.InLaw.{law_command}
use Rattle.tdb_group.proofs.Loops.{did_given, did_not, ran_given, ran_not}
use Rattle.tdb_group.proofs.turns.do_command.Goals as goal

pub returns-then-not-give-clause-ran : goal.returns-then-not-give-clause-ran
returns-then-not-give-clause-ran g c = ran_not g.D.Disk.tells (law_command c.args.command) c.args.world.now c.give.new.world None c.requires.unspent (c.give.ensures.not_given c.if-not-give.true)

pub returns-then-not-give-clause-did : goal.returns-then-not-give-clause-did
returns-then-not-give-clause-did g c = did_not g.D.Disk.tells (law_command c.args.command) c.args.world.now c.give.new.world (c.give.ensures.not_given c.if-not-give.true)

pub returns-clause-ran : goal.returns-clause-ran
returns-clause-ran g c =
    ran_given g.D.Disk.tells (law_command c.args.command) c.args.world.now c.give.new.world c.take_turns.new.world c.take_turns.result (c.give.ensures.given c.if-not-give.false) c.take_turns.ensures.ran

pub returns-clause-did : goal.returns-clause-did
returns-clause-did g c =
    did_given g.D.Disk.tells (law_command c.args.command) c.args.world.now c.give.new.world c.take_turns.new.world c.take_turns.result (c.give.ensures.given c.if-not-give.false)
    (c.take_turns.ensures.did (law_command c.args.command))

pub take_turns-requires-clause-busy : goal.take_turns-requires-clause-busy
take_turns-requires-clause-busy g c = (c.give.ensures.given c.if-not-give.false).busy
