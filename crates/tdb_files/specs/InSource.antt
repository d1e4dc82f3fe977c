-- What a contract sees of a source over a reader: the count of faults.
use Rattle.std.specs.Prelude.{ℕ}
use Rattle.tdb_files.specs.Faults.{fault_count}
use Rattle.tdb_files.specs.declared.in_source.InSource.{InSource}

-- how many reads have failed
abbrev pub in_faults : {R : Type 0} → InSource R → ℕ
in_faults source = fault_count source.faults
