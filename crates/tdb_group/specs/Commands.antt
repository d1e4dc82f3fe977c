-- The commands that are done in a transaction of a group, and what they reply.
use Rattle.std.specs.Prelude.{ℕ, ◌≡◌, true}
use Rattle.tdb_law.specs.Commands.{Command as LawCommand, MapCommand, Reply}
use Rattle.tdb_law.specs.Commands.Command.{OnMap}
use Rattle.tdb_law.specs.Commands.Reply.{Done, Full, Memory}
use Rattle.tdb_law.specs.MapCommands.{after, map_fills, reply}
use Rattle.tdb_law.specs.Openers.{Map}
use Rattle.tdb_commands.specs.declared.command.Command.{Command}
use Rattle.tdb_commands.specs.declared.command.Command.TheVariants.{Fetch, Has, Store, Append, Delete}

-- a command on one key
abbrev pub IsOnKey : Command → Type 0
IsOnKey (Fetch key) = Unit {0}
IsOnKey (Has key) = Unit {0}
IsOnKey (Store key value flag) = Unit {0}
IsOnKey (Append key value) = Unit {0}
IsOnKey (Delete key) = Unit {0}
IsOnKey c = ⊥

-- What a command on the map replies where its image has the map n, and the map afterwards: those of a plain map; or
-- for want of memory, or of space where it stores, this reply and the same map.
pub data Replies (c : LawCommand) (n : Map) (r : Reply) (end : Map) : Type 0 where
  replies_plain : (on : MapCommand) → c ≡ OnMap on → r ≡ reply on n → end ≡ after on n → Replies c n r end
  replies_memory : r ≡ Memory → end ≡ n → Replies c n r end
  replies_full : (on : MapCommand) (len need : ℕ) → c ≡ OnMap on → map_fills on ≡ true → reply on n ≡ Done → r ≡ Full len need → end ≡ n → Replies c n r end
