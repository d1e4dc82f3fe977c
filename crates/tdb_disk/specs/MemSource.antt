-- What a contract sees of a source in memory.
use Rattle.std.specs.Prelude.{ℕ, List, drop}
use Rattle.tdb_disk.specs.declared.mem_source.MemSource.{MemSource}
use Rattle.tdb_disk.specs.declared.script.Script.{Script}

-- the bytes that are left
abbrev pub source_left : MemSource → List ℕ
source_left source = drop source.next source.bytes.items

-- the reads that are to fail, and the number of reads so far
abbrev pub source_script : MemSource → Script
source_script source = source.script

-- how many reads failed
abbrev pub source_faults : MemSource → ℕ
source_faults source = source.faults
