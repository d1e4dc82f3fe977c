-- What a contract sees of a sink in memory.
use Rattle.std.specs.Prelude.{ℕ, List}
use Rattle.tdb_disk.specs.declared.mem_sink.MemSink.{MemSink}
use Rattle.tdb_disk.specs.declared.script.Script.{Script}

-- the bytes that were written
abbrev pub sink_written : MemSink → List ℕ
sink_written sink = sink.bytes.items

-- the writes that are to fail, and the number of writes so far
abbrev pub sink_script : MemSink → Script
sink_script sink = sink.script

-- how many writes failed
abbrev pub sink_faults : MemSink → ℕ
sink_faults sink = sink.faults

-- how many writes found no memory
abbrev pub sink_starved : MemSink → ℕ
sink_starved sink = sink.starved
