-- The commands whose keys and values are short.
use Rattle.std.specs.Prelude.{◌<◌, ◌^◌, length}
use Rattle.tdb_commands.specs.declared.command.Command.{Command}
use Rattle.tdb_commands.specs.declared.command.Command.TheVariants as Given

-- the key and the value of a command are short enough for the words of a file
abbrev pub IsShortCommand : Command → Type 0
IsShortCommand (Given.Fetch key) = length key < 2 ^ 32
IsShortCommand (Given.Has key) = length key < 2 ^ 32
IsShortCommand (Given.Store key value flag) = (length key < 2 ^ 32) × (length value < 2 ^ 32)
IsShortCommand (Given.Append key value) = (length key < 2 ^ 32) × (length value < 2 ^ 32)
IsShortCommand (Given.Delete key) = length key < 2 ^ 32
IsShortCommand (Given.ChainLock key) = length key < 2 ^ 32
IsShortCommand (Given.ChainLockNb key) = length key < 2 ^ 32
IsShortCommand (Given.ChainUnlock key) = length key < 2 ^ 32
IsShortCommand _ = Unit {0}
