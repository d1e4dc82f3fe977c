-- The play does this command.
use Rattle.std.proofs.Common.{sym, subst, arith}
use Rattle.tdb_world.specs.Courses.Playable.{IsPlayable}
use Rattle.tdb_merge.proofs.playing.do_command.Goals as goal

pub take_play-requires-clause-playable : goal.take_play-requires-clause-playable
take_play-requires-clause-playable g c = subst IsPlayable (sym c.doing.ensures) (omega arith, c.requires.short)

pub returns-clause-led : goal.returns-clause-led
returns-clause-led g c m n from end to does = c.take_play.ensures.led c.args.command c.doing.ensures m n from end to does
