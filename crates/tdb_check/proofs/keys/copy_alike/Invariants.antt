-- Those of the records so far make the list.
use Rattle.std.proofs.Common.{◌≡◌, take}
use Rattle.std.specs.List.{filter}
use Rattle.tdb_check.specs.Keys.{is_alike}
use Rattle.tdb_check.proofs.keys.copy_alike.Given as goal

abbrev pub invariant-loop-record : goal.invariant-loop-record
invariant-loop-record l = l.alike.items ≡ filter (is_alike l.counts) (take l.record-index l.noted)
