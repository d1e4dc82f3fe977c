-- The plays so far may be taken.
use Rattle.std.proofs.Common.{take}
use Rattle.tdb_world.specs.Courses.Playable.{ArePlayable}
use Rattle.world_tests.proofs.world.worlds.are_playable.Given as goal

abbrev pub invariant-loop-play : goal.invariant-loop-play
invariant-loop-play l = ArePlayable (take l.play-index l.plays)
