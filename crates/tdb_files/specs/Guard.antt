-- What a contract sees of the right to change a file.
use Rattle.std.specs.Prelude.{IsSome}
use Rattle.tdb_files.specs.declared.guard.Guard.{Guard}

-- the file may not be changed
abbrev pub IsBarred : Guard → Type 0
IsBarred guard = IsSome guard.unwritable
