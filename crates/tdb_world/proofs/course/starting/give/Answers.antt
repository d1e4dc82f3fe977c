-- The opener is given the command.
use Rattle.tdb_world.proofs.course.starting.give.Goals as goal

pub returns-clause-gifted : goal.returns-clause-gifted
returns-clause-gifted c = record {
  header = c.assign.ensures.header;
  options = c.assign.ensures.options;
  fits = c.assign.ensures.fits;
  given = c.in_ok-assign.ensures.given;
  busy = c.in_ok-assign.ensures.busy;
}
