-- What a contract sees of a sink that is a file: the count of faults.
use Rattle.std.specs.Prelude.{ℕ}
use Rattle.tdb_files.specs.declared.file_sink.FileSink.{FileSink}
use Rattle.tdb_files.specs.OutSink.{out_faults}

-- how many writes have failed
abbrev pub file_sink_faults : FileSink → ℕ
file_sink_faults sink = out_faults sink.out
