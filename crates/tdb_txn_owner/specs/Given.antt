-- The commands by kinds.
use Rattle.std.specs.Prelude.{ℕ, ◌<◌, ◌-◌, ◌^◌}
use Rattle.tdb_commands.specs.declared.command.Command.{Command}
use Rattle.tdb_commands.specs.declared.command.Command.TheVariants as Given

-- a command on explicit locks
abbrev pub IsLocking : Command → Type 0
IsLocking (Given.ChainLock key) = Unit {0}
IsLocking (Given.ChainLockNb key) = Unit {0}
IsLocking (Given.ChainUnlock key) = Unit {0}
IsLocking Given.LockAll = Unit {0}
IsLocking Given.LockAllRead = Unit {0}
IsLocking Given.UnlockAll = Unit {0}
IsLocking _ = ⊥

-- a command on the map, but a check
abbrev pub IsMapped : Command → Type 0
IsMapped (Given.Fetch key) = Unit {0}
IsMapped (Given.Has key) = Unit {0}
IsMapped (Given.Store key value flag) = Unit {0}
IsMapped (Given.Append key value) = Unit {0}
IsMapped (Given.Delete key) = Unit {0}
IsMapped Given.Wipe = Unit {0}
IsMapped _ = ⊥

-- A command that may leave the transaction open, where so many are open within it, but a Commit and a Prepare. The
-- count of those within it has room for a Start, and a Cancel ends one of them.
abbrev pub IsPlainInside : Command → ℕ → Type 0
IsPlainInside Given.Start depth = depth < 2 ^ 32 - 1
IsPlainInside Given.Cancel depth = 0 < depth
IsPlainInside Given.Commit depth = ⊥
IsPlainInside Given.Prepare depth = ⊥
IsPlainInside Given.Close depth = ⊥
IsPlainInside command depth = Unit {0}

-- so may a Commit and a Prepare of one within it
abbrev pub IsInside : Command → ℕ → Type 0
IsInside Given.Commit depth = 0 < depth
IsInside Given.Prepare depth = 0 < depth
IsInside command depth = IsPlainInside command depth
