-- The plain commands, as the commands and replies of a world of several openers.
use Rattle.std.specs.Prelude.{ℕ, ◌≡◌, List, []}
use Rattle.std.specs.FinMap.{get}
use Rattle.tdb_space.specs.Form.{Form}
use Rattle.tdb_space.specs.Pairs.{map_of}
use Rattle.tdb_locks.specs.declared.turn.Reply.{Reply}
use Rattle.tdb_locks.specs.declared.turn.Turn.{Turn}
use Rattle.tdb_locks.specs.declared.turn.Turn.TheVariants.{Step, Blocked, Done}
use Rattle.tdb_law.specs.Commands as Law
use Rattle.tdb_law.specs.Openers.{Map}
use Rattle.tdb_steps.specs.declared.flag.Flag.{Flag}
use Rattle.tdb_steps.specs.declared.flag.Flag.TheVariants as Flags
use Rattle.tdb_steps.specs.declared.plain.Plain.{Plain}
use Rattle.tdb_steps.specs.declared.plain.Plain.TheVariants.{Fetch, Has, Store, Append, Delete, Wipe}
use Rattle.tdb_steps.specs.Asked.{Asked, fetches, asks, stores, appends, deletes, wipes}

-- the key that a command is on; a wipe is on none, and this is empty
abbrev pub key_of : Plain → List ℕ
key_of (Fetch key) = key
key_of (Has key) = key
key_of (Store key value flag) = key
key_of (Append key value) = key
key_of (Delete key) = key
key_of Wipe = []

-- a command that is on a key
abbrev pub IsKeyed : Plain → Type 0
IsKeyed Wipe = ⊥
IsKeyed _ = Unit {0}

-- what it asks for of its key, and a wipe of each
abbrev pub asked_of : Plain → Asked
asked_of (Fetch key) = fetches
asked_of (Has key) = asks
asked_of (Store key value flag) = stores flag value
asked_of (Append key value) = appends value
asked_of (Delete key) = deletes
asked_of Wipe = wipes

-- the command of a world
abbrev pub store_of : Flag → List ℕ → List ℕ → Law.MapCommand
store_of Flags.Replace key value = Law.MapCommand.Store key value
store_of Flags.Insert key value = Law.MapCommand.Insert key value
store_of Flags.Modify key value = Law.MapCommand.Modify key value

abbrev pub command_of : Plain → Law.MapCommand
command_of (Fetch key) = Law.MapCommand.Fetch key
command_of (Has key) = Law.MapCommand.Has key
command_of (Store key value flag) = store_of flag key value
command_of (Append key value) = Law.MapCommand.Append key value
command_of (Delete key) = Law.MapCommand.Delete key
command_of Wipe = Law.MapCommand.Wipe

-- the reply of a world: that a command did what it says is `Done` there
abbrev pub reply_of : Reply → Law.Reply
reply_of Reply.Ok = Law.Reply.Done
reply_of (Reply.Value v) = Law.Reply.Value v
reply_of (Reply.Pair k v) = Law.Reply.Pair k v
reply_of Reply.End = Law.Reply.End
reply_of Reply.KeyMissing = Law.Reply.KeyMissing
reply_of Reply.KeyThere = Law.Reply.KeyThere
reply_of (Reply.Busy owner byte) = Law.Reply.Busy owner byte
reply_of Reply.ReadOnly = Law.Reply.ReadOnly
reply_of Reply.NoTransaction = Law.Reply.NoTransaction
reply_of Reply.InTransaction = Law.Reply.InTransaction
reply_of Reply.Nesting = Law.Reply.Nesting
reply_of Reply.Doomed = Law.Reply.Doomed
reply_of (Reply.HeldLocks count) = Law.Reply.HeldLocks count
reply_of Reply.NotLocked = Law.Reply.NotLocked
reply_of (Reply.Full len need) = Law.Reply.Full len need
reply_of Reply.Memory = Law.Reply.Memory
reply_of Reply.Yes = Law.Reply.Yes
reply_of Reply.No = Law.Reply.No
reply_of (Reply.Number n) = Law.Reply.Number n

abbrev pub turn_of : Turn → Law.Turn
turn_of Step = Law.Turn.Step
turn_of (Blocked owner byte) = Law.Turn.Blocked owner byte
turn_of (Done reply) = Law.Turn.Ends (reply_of reply)

-- the map of an image is this finite map
abbrev pub IsMapOf : Form → List ℕ → Map → Type 0
IsMapOf f img m = (k : List ℕ) → get m k ≡ map_of f img k
