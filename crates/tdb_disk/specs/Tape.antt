-- What a disk in memory keeps: the bytes at first and the list of what was done to them.
use Rattle.std.specs.Prelude.{ℕ, List, [], ◌∷◌, map, reverse}
use Rattle.tdb_disk.specs.History.{Event, wrote, wrote_word, grew, cut, synced, History, began, called}
use Rattle.tdb_disk.specs.declared.tape.Change.{Change}
use Rattle.tdb_disk.specs.declared.tape.Change.TheVariants.{Write, WriteWord, Grow, Cut, Sync}

-- one change of the list, as an event of the history
abbrev pub event_of : Change → Event
event_of (Write off bytes) = wrote off bytes.items
event_of (WriteWord off w) = wrote_word off w
event_of (Grow to) = grew to
event_of (Cut to) = cut to
event_of Sync = synced

-- the history of these events, the last of them first
abbrev pub history_from : List ℕ → List Event → History
history_from start [] = began start
history_from start (event ∷ earlier) = called (history_from start earlier) event

-- the history of these changes, in their order
abbrev pub history_of : List ℕ → List Change → History
history_of start changes = history_from start (reverse (map event_of changes))
