-- The commands on a map: what each replies, what map it leaves, and which keys it reads and changes.
use Rattle.std.specs.Prelude.{ℕ, List, [], ◌++◌, Bool, true, false, Option, Some, None, unwrap_or, if◌then◌else◌}
use Rattle.std.specs.FinMap.{get, insert, remove, empty, len}
use Rattle.tdb_law.specs.Commands.{MapCommand, Reply}
use Rattle.tdb_law.specs.Commands.MapCommand.{Fetch, Has, Delete, Store, Insert, Modify, Append, Wipe, Check}
use Rattle.tdb_law.specs.Commands.Reply.{Done, Value, KeyMissing, KeyThere, Yes, No, Number}
use Rattle.tdb_law.specs.Openers.{Map, has, is_key}

-- what a fetch replies to what the map gives
abbrev pub fetched : Option (List ℕ) → Reply
fetched None = KeyMissing
fetched (Some v) = Value v

-- The reply on a map. Only a key that is there can be fetched, modified or deleted, and only one that isn't can be
-- inserted.
abbrev pub reply : MapCommand → Map → Reply
reply (Fetch k) m = fetched (get m k)
reply (Has k) m = if has m k then Yes else No
reply (Delete k) m = if has m k then Done else KeyMissing
reply (Store k v) m = Done
reply (Insert k v) m = if has m k then KeyThere else Done
reply (Modify k v) m = if has m k then Done else KeyMissing
reply (Append k v) m = Done
reply Wipe m = Done
reply Check m = Number (len m)

-- The map afterwards. An Append puts the value behind the old one, or stores it where there is none.
abbrev pub after : MapCommand → Map → Map
after (Fetch k) m = m
after (Has k) m = m
after (Delete k) m = remove m k
after (Store k v) m = insert m k v
after (Insert k v) m = if has m k then m else insert m k v
after (Modify k v) m = if has m k then insert m k v else m
after (Append k v) m = insert m k (unwrap_or (get m k) [] ++ v)
after Wipe m = empty
after Check m = m

-- the keys on which its reply and its change depend: its own, or all
abbrev pub map_reads : MapCommand → List ℕ → Bool
map_reads (Fetch k) q = is_key k q
map_reads (Has k) q = is_key k q
map_reads (Delete k) q = is_key k q
map_reads (Store k v) q = is_key k q
map_reads (Insert k v) q = is_key k q
map_reads (Modify k v) q = is_key k q
map_reads (Append k v) q = is_key k q
map_reads Wipe q = true
map_reads Check q = true

-- it may change the map
abbrev pub map_changes : MapCommand → Bool
map_changes (Fetch k) = false
map_changes (Has k) = false
map_changes Check = false
map_changes _ = true

-- the keys that it may change
abbrev pub map_touches : MapCommand → List ℕ → Bool
map_touches c q = if map_changes c then map_reads c q else false

-- it takes keys out of the map
abbrev pub map_removes : MapCommand → Bool
map_removes (Delete k) = true
map_removes Wipe = true
map_removes _ = false

-- it stores a value, and so may find no space
abbrev pub map_fills : MapCommand → Bool
map_fills (Store k v) = true
map_fills (Insert k v) = true
map_fills (Modify k v) = true
map_fills (Append k v) = true
map_fills _ = false
