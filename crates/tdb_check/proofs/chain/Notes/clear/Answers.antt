-- Nothing is noted.
use Rattle.std.proofs.Common.{[], sym, subst}
use Rattle.tdb_check.specs.Notes.{DeadEnd}
use Rattle.tdb_check.proofs.OneChain.{dead_none}
use Rattle.tdb_check.proofs.chain.Notes.clear.Goals as goal

pub returns-clause-none : goal.returns-clause-none
returns-clause-none c f img = record {
  offsets = c.clear.ensures;
  keys = c.clear-2.ensures f img;
  dead = subst (DeadEnd f img []) (sym c.clear-3.ensures.items) (dead_none f img);
}
