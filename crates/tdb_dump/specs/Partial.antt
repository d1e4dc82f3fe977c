-- The record at hand, as a state.
use Rattle.tdb_dump.specs.declared.partial.Partial.{Partial}
use Rattle.tdb_dump.specs.Expected.{State}

-- what a reader has of a record
abbrev pub state_of : Partial → State
state_of p = record { fixed = p.fixed.now; step = p.step; field = p.field; key = p.key.items; value = p.value.items }
