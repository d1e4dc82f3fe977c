-- What a contract sees of a sink over a writer: the count of faults.
use Rattle.std.specs.Prelude.{ℕ}
use Rattle.tdb_files.specs.Faults.{fault_count}
use Rattle.tdb_files.specs.declared.out_sink.OutSink.{OutSink}

-- how many writes have failed
abbrev pub out_faults : {W : Type 0} → OutSink W → ℕ
out_faults sink = fault_count sink.faults
