-- At which turns memory may be wanting in a view whose room has no bound, as over a disk.
use Rattle.std.specs.Prelude.{ℕ, ◌≡◌, Bool, true, false, ◌||◌, ◌==◌}
use Rattle.std.specs.List.{list_any}
use Rattle.tdb_space.specs.Form.{Form}
use Rattle.tdb_space.specs.Spare.{Spare}
use Rattle.tdb_space.specs.Spare.Spare.{without_bound}
use Rattle.tdb_locks.specs.declared.turn.Reply.{Reply}
use Rattle.tdb_law.specs.Commands.{MapCommand, Turn}
use Rattle.tdb_law.specs.Commands.Command.{OnMap}
use Rattle.tdb_law.specs.Commands.Reply.{Memory}
use Rattle.tdb_law.specs.Commands.Turn.{Ends}
use Rattle.tdb_law.specs.Openers.{Task}
use Rattle.tdb_law.specs.Rows.{Lock, map_locks}
use Rattle.tdb_steps.specs.declared.plain.Plain.{Plain}
use Rattle.tdb_steps.specs.declared.plain.Plain.TheVariants.{Fetch, Append}
use Rattle.tdb_steps.specs.declared.stage.Stage.{Stage}
use Rattle.tdb_steps.specs.declared.stage.Stage.TheVariants.{Chained}
use Rattle.tdb_steps.specs.declared.stage.Next.{Next}
use Rattle.tdb_steps.specs.declared.stage.Next.TheVariants.{Done}

-- a turn ends for want of memory only where the room of the view has a bound
abbrev pub StarvesBounded : Spare → Next → Type 0
StarvesBounded spare next = next ≡ Done Reply.Memory → spare ≡ without_bound → ⊥

-- the turn of a command from this stage takes a value into memory: the look of a fetch does, and that of an append
abbrev pub TakesValue : Plain → Stage → Type 0
TakesValue (Fetch key) Chained = Unit {0}
TakesValue (Append key value) Chained = Unit {0}
TakesValue command stage = ⊥

-- a turn that takes no lock ends so only there, or where it takes such a value
abbrev pub StarvesRightly : Spare → Plain → Stage → Next → Type 0
StarvesRightly spare command stage next = next ≡ Done Reply.Memory → spare ≡ without_bound → TakesValue command stage

-- After so many steps the next turn of a command on the map, outside a transaction, takes memory besides that of its
-- room: for the value that a fetch tells, or for that with which an append joins its bytes, or for the count of a
-- check.
abbrev pub takes_value : MapCommand → ℕ → Bool
takes_value (MapCommand.Fetch k) n = n == 1
takes_value (MapCommand.Append k v) n = n == 1
takes_value MapCommand.Check n = n == 2
takes_value c n = false

-- it does so, or for a lock of its row
abbrev pub may_starve : Form → MapCommand → ℕ → Bool
may_starve f c n = list_any (λ (l : Lock). l.turn == n) (map_locks f c) || takes_value c n

-- Outside a transaction a turn of a command on the map ends for want of memory at no other turn.
abbrev pub StarvesOutside : Form → Task → Turn → Type 0
StarvesOutside f t turn = (c : MapCommand) → t.command ≡ OnMap c → turn ≡ Ends Memory → may_starve f c t.steps ≡ true
