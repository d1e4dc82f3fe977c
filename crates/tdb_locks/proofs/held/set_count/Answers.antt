use Rattle.tdb_locks.proofs.Counting.{AreCounts-inserted, AreCounts-removed, SetsCount-inserted, SetsCount-removed}
use Rattle.tdb_locks.proofs.held.set_count.Goals as goal

pub returns-then-count-eq0-clause-ok : goal.returns-then-count-eq0-clause-ok
returns-then-count-eq0-clause-ok c = SetsCount-removed _ _ _ c.remove.ensures.updates.2 _ c.if-count-eq0.true c.remove.ensures.entries c.remove.ensures.updates.1

pub returns-then-count-eq0-clause-counts : goal.returns-then-count-eq0-clause-counts
returns-then-count-eq0-clause-counts c = AreCounts-removed _ _ _ c.requires c.remove.ensures.entries c.remove.ensures.ordered

pub returns-in_ok-insert-clause-ok : goal.returns-in_ok-insert-clause-ok
returns-in_ok-insert-clause-ok c = SetsCount-inserted _ _ _ c.in_ok-insert.ensures.updates.2 _ c.requires c.in_ok-insert.ensures.entries c.in_ok-insert.ensures.updates.1

pub returns-in_ok-insert-clause-counts : goal.returns-in_ok-insert-clause-counts
returns-in_ok-insert-clause-counts c = AreCounts-inserted _ _ _ _ c.ranges.chain.fits c.ranges.count.fits c.requires c.in_ok-insert.ensures.entries c.insert.ensures.ordered
