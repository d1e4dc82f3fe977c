use Rattle.std.proofs.Common.{rules}
use Rattle.std.proofs.lemmas.List.Sorted.{IsPartitionPoint-from_clause}
use Rattle.tdb_locks.proofs.Splitting.{IsPartitionedBy-table, IsSplitBy-point, ends_by-splits}
use Rattle.tdb_locks.specs.Search.{ends_by}
use Rattle.tdb_locks.proofs.search.first_past.Goals as goal

pub returns : goal.returns
returns c =
    let test = ends_by c.args.owner c.args.byte in
    let parted = IsPartitionedBy-table test (ends_by-splits c.args.owner c.args.byte) c.args.pieces.now c.requires in
    IsSplitBy-point test c.args.pieces.now c.partition_point.result c.partition_point.ensures.bound
    (IsPartitionPoint-from_clause test _ _ c.partition_point.ensures.partitioned parted (λ a r q k. search rules))
