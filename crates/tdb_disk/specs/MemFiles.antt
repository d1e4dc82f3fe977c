-- What a contract sees of a set of files in memory.
use Rattle.std.specs.Prelude.{ℕ, List, [], Bool, true, false, Option, Some, None, ◌≡◌, refl}
use Rattle.std.proofs.lemmas.Bool.{false≢true}
use Rattle.std.specs.Option.{option_map_or}
use Rattle.std.specs.HashMap.{get_by_text}
use Rattle.tdb_disk.specs.History.{History}
use Rattle.tdb_disk.specs.MemDisk.{tape_history}
use Rattle.tdb_disk.specs.declared.mem_files.MemFiles.{MemFiles}
use Rattle.tdb_disk.specs.declared.script.Call.{Call}
use Rattle.tdb_disk.specs.declared.script.Script.{Script}
use Rattle.tdb_disk.specs.declared.tape.Tape.{Tape}

-- whether this place is that of a name that is taken: there, and empty
abbrev pub is_empty_place : Option (Option Tape) → Bool
is_empty_place None = false
is_empty_place (Some None) = true
is_empty_place (Some (Some tape)) = false

-- the history of the tape in a place
abbrev pub history_at : Option (Option Tape) → Option History
history_at None = None
history_at (Some None) = None
history_at (Some (Some tape)) = Some (tape_history tape)

-- an empty place holds no tape
pub empty_place_holds_nothing : (place : Option (Option Tape)) → is_empty_place place ≡ true → history_at place ≡ None
empty_place_holds_nothing None empty = refl
empty_place_holds_nothing (Some None) empty = refl
empty_place_holds_nothing (Some (Some tape)) empty = absurd (false≢true empty)

-- whether a name is taken
abbrev pub name_is_taken : MemFiles → List ℕ → Bool
name_is_taken files name = is_empty_place (get_by_text files.places name)

-- what is held at a name
abbrev pub held_at : MemFiles → List ℕ → Option History
held_at files name = history_at (get_by_text files.places name)

-- the calls of the disk of a name that are to fail, counted from its taking on
abbrev pub disk_failing : MemFiles → List ℕ → List (Call × ℕ)
disk_failing files name = option_map_or (λ calls. calls.items) (get_by_text files.failing name) []

-- the calls of the set of files that are to fail, and the number of calls so far
abbrev pub files_script : MemFiles → Script
files_script files = files.script

-- how many calls failed, and how many disks with faults were given back
abbrev pub files_faults : MemFiles → ℕ
files_faults files = files.faults

-- how many calls found no memory
abbrev pub files_starved : MemFiles → ℕ
files_starved files = files.starved
