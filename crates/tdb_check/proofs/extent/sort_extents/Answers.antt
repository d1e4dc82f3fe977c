-- A sort changes the order alone.
use Rattle.std.proofs.Common.{rules}
use Rattle.std.proofs.lemmas.List.Sorted.{IsNonDecreasingBy-from_sort_by_key}
use Rattle.tdb_check.specs.Extent.{off_of}
use Rattle.tdb_check.proofs.Swept.{times_sorted}
use Rattle.tdb_check.proofs.extent.sort_extents.Goals as goal

pub returns-clause-ordered : goal.returns-clause-ordered
returns-clause-ordered c = IsNonDecreasingBy-from_sort_by_key off_of _ c.sort_unstable_by_key.ensures.sorted (λ a r q k. search rules)

pub returns-clause-same : goal.returns-clause-same
returns-clause-same c i = times_sorted c.args.extents.now.items c.sort_unstable_by_key.new.self.items i c.sort_unstable_by_key.ensures.permutation
