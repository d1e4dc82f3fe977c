-- A sort puts them into the order.
use Rattle.std.proofs.Common.{rules}
use Rattle.std.proofs.lemmas.List.Sorted.{IsNonDecreasingBy-from_sort_by_key}
use Rattle.tdb_check.specs.Keys.{mark_of}
use Rattle.tdb_check.proofs.keys.sort_by_mark.Goals as goal

pub returns-clause-ordered : goal.returns-clause-ordered
returns-clause-ordered c = IsNonDecreasingBy-from_sort_by_key mark_of _ c.sort_unstable_by_key.ensures.sorted (λ a r q k. search rules)
