-- An opener that isn't live has no command, and one without a command has none.
use Rattle.std.proofs.Common.{inl, inr}
use Rattle.tdb_world.proofs.Courses.Standings.{free_never_busy}
use Rattle.tdb_world.proofs.course.ending.is_busy.Goals as goal

pub returns-in-Busy-clause-yes : goal.returns-in-Busy-clause-yes
returns-in-Busy-clause-yes c = λ e. c.standing.ensures.busy c.in-Busy.is

pub returns-in-Absent-clause-no : goal.returns-in-Absent-clause-no
returns-in-Absent-clause-no c = λ e. elim c.in-Absent.is [
  | inl absent ↦ c.standing.ensures.nobody absent
  | inr idle ↦ free_never_busy c.args.world.now c.args.who (c.standing.ensures.idle idle)
]
