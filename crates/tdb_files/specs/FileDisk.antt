-- What a contract sees of an open file: its length and the counts.
use Rattle.std.specs.Prelude.{ℕ}
use Rattle.tdb_files.specs.Faults.{fault_count}
use Rattle.tdb_files.specs.Guard.{IsBarred}
use Rattle.tdb_files.specs.declared.file_disk.FileDisk.{FileDisk}

-- the length in bytes
abbrev pub file_len : FileDisk → ℕ
file_len disk = disk.len

-- how many calls have failed
abbrev pub file_faults : FileDisk → ℕ
file_faults disk = fault_count disk.faults

-- how many syncs have answered Ok
abbrev pub file_syncs : FileDisk → ℕ
file_syncs disk = disk.syncs

-- how many bytes were read
abbrev pub file_bytes_read : FileDisk → ℕ
file_bytes_read disk = disk.bytes_read

-- the file may be read and not changed
abbrev pub MayNotBeWritten : FileDisk → Type 0
MayNotBeWritten disk = IsBarred disk.guard
