-- What is read of a file, by its database: that stands at the front, or behind mutexes.
use Rattle.std.specs.Prelude.{ℕ, Option, List}
use Rattle.tdb_space.specs.FirstFault.{Fault, front_fault}
use Rattle.tdb_mend.specs.Mutexes.{database_in, without_mutexes}
use Rattle.tdb_mend.specs.Mended.{mended, bytes_mended, CanBeMended, IsMendFault}

-- The image with which a file is looked at, by its header: its database, whose header doesn't count as one that tells
-- of mutexes
abbrev pub looked_at : List ℕ → List ℕ
looked_at file = without_mutexes (database_in file)

-- what is wrong with the front of a file, but that it may have mutexes. Places count from where the database begins
abbrev pub file_front_fault : List ℕ → Option Fault
file_front_fault file = front_fault (looked_at file)

-- the image that a file is read as
abbrev pub file_mended : List ℕ → List ℕ
file_mended file = mended (database_in file)

-- how many bytes of its database are changed for that
abbrev pub file_bytes_mended : List ℕ → ℕ
file_bytes_mended file = bytes_mended (database_in file)

-- a file can be mended, where its front has no fault
abbrev pub FileCanBeMended : List ℕ → Type 0
FileCanBeMended file = CanBeMended (database_in file)

-- or a fault keeps it from that
abbrev pub IsFileMendFault : List ℕ → Fault → Type 0
IsFileMendFault file e = IsMendFault (database_in file) e
