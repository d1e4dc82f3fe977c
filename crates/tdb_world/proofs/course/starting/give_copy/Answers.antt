-- The opener is given the copy, which is the same command.
use Rattle.std.proofs.Common.{OnOk, subst}
use Rattle.tdb_commands.specs.InLaw.{law_command}
use Rattle.tdb_world.specs.Courses.Told.{Gifted}
use Rattle.tdb_world.proofs.course.starting.give_copy.Goals as goal

pub returns-clause-gifted : goal.returns-clause-gifted
returns-clause-gifted c = subst (λ k. OnOk c.give.result (Gifted c.args.world.now c.args.who (law_command k) c.give.new.world)) c.in_ok-given.ensures c.give.ensures.gifted
