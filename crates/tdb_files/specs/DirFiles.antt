-- What a contract sees of the files of the operating system: which names are taken, and the count of faults.
use Rattle.std.specs.Prelude.{ℕ, List, Bool}
use Rattle.std.specs.HashSet.{contains_text}
use Rattle.tdb_files.specs.Faults.{fault_count}
use Rattle.tdb_files.specs.declared.dir_files.DirFiles.{DirFiles}

-- whether a name is taken
abbrev pub name_is_taken : DirFiles → List ℕ → Bool
name_is_taken files name = contains_text files.taken name

-- how many calls have failed, and how many disks with faults were given back
abbrev pub dir_faults : DirFiles → ℕ
dir_faults files = fault_count files.faults
