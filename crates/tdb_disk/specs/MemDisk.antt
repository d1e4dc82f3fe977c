-- What a contract sees of a disk in memory.
use Rattle.std.specs.Prelude.{ℕ, length}
use Rattle.tdb_disk.specs.History.{History}
use Rattle.tdb_disk.specs.Tape.{history_of}
use Rattle.tdb_disk.specs.declared.mem_disk.MemDisk.{MemDisk}
use Rattle.tdb_disk.specs.declared.script.Script.{Script}
use Rattle.tdb_disk.specs.declared.tape.Tape.{Tape}

-- the bytes at first and the changes since
abbrev pub tape_history : Tape → History
tape_history tape = history_of tape.start.items tape.changes.items

abbrev pub memory_history : MemDisk → History
memory_history disk = tape_history disk.tape

-- the length in bytes
abbrev pub memory_size : MemDisk → ℕ
memory_size disk = length disk.tape.bytes.items

-- the calls that are to fail, and the number of calls so far
abbrev pub memory_script : MemDisk → Script
memory_script disk = disk.script

-- how many calls failed
abbrev pub memory_faults : MemDisk → ℕ
memory_faults disk = disk.faults

-- how many calls found no memory
abbrev pub memory_starved : MemDisk → ℕ
memory_starved disk = disk.starved

-- how many syncs answered Ok
abbrev pub memory_syncs : MemDisk → ℕ
memory_syncs disk = disk.syncs

-- how many bytes were read
abbrev pub memory_bytes_read : MemDisk → ℕ
memory_bytes_read disk = disk.bytes_read
