-- What a contract sees of counted faults: how many there are, and what is known of the last.
use Rattle.std.specs.Prelude.{ℕ, Option}
use Rattle.tdb_files.specs.declared.faults.Faults.{Faults}

-- how many calls have failed
abbrev pub fault_count : {T : Type 0} → Faults T → ℕ
fault_count faults = faults.count

-- why the last call that failed did
abbrev pub last_fault : {T : Type 0} → Faults T → Option T
last_fault faults = faults.last
