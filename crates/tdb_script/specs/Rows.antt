-- The words of a script, by tables: one row for each word.
use Rattle.std.specs.Prelude.{ℕ, List, [], ◌∷◌, codes, Option, Some, None, if◌then◌else◌}
use Rattle.std.specs.Str.{bytes_eq}
use Rattle.tdb_steps.specs.declared.flag.Flag.{Flag}
use Rattle.tdb_commands.specs.declared.command.Command.{Command}
use Rattle.tdb_commands.specs.declared.play.Play.{Play}

-- what a table has for a word
abbrev pub row_of : {A : Type 0} → List (List ℕ × A) → List ℕ → Option A
row_of [] word = None
row_of (row ∷ rows) word = if bytes_eq row.0 word then Some row.1 else row_of rows word

-- commands of one word on the opener's cursor
abbrev pub walking_commands : List (List ℕ × Command)
walking_commands =
    (codes "first", Command.First)
    ∷ (codes "next", Command.Next)
    ∷ (codes "endwalk", Command.EndWalk)
    ∷ []

-- and those on all records, which an opener holds
abbrev pub holding_commands : List (List ℕ × Command)
holding_commands =
    (codes "lockall", Command.LockAll)
    ∷ (codes "lockallread", Command.LockAllRead)
    ∷ (codes "unlockall", Command.UnlockAll)
    ∷ walking_commands

-- and those of transactions
abbrev pub group_commands : List (List ℕ × Command)
group_commands =
    (codes "start", Command.Start)
    ∷ (codes "commit", Command.Commit)
    ∷ (codes "prepare", Command.Prepare)
    ∷ (codes "cancel", Command.Cancel)
    ∷ holding_commands

-- all commands of one word
abbrev pub bare_commands : List (List ℕ × Command)
bare_commands =
    (codes "wipe", Command.Wipe)
    ∷ (codes "check", Command.Check)
    ∷ (codes "seqnum", Command.Seqnum)
    ∷ (codes "close", Command.Close)
    ∷ group_commands

-- commands on a key
abbrev pub key_commands : List ℕ → List (List ℕ × Command)
key_commands key =
    (codes "fetch", Command.Fetch key)
    ∷ (codes "has", Command.Has key)
    ∷ (codes "delete", Command.Delete key)
    ∷ (codes "lock", Command.ChainLock key)
    ∷ (codes "locknb", Command.ChainLockNb key)
    ∷ (codes "unlock", Command.ChainUnlock key)
    ∷ []

-- commands on a key and a value
abbrev pub value_commands : List ℕ → List ℕ → List (List ℕ × Command)
value_commands key value =
    (codes "store", Command.Store key value Flag.Replace)
    ∷ (codes "insert", Command.Store key value Flag.Insert)
    ∷ (codes "modify", Command.Store key value Flag.Modify)
    ∷ (codes "append", Command.Append key value)
    ∷ []

-- plays that are one word
abbrev pub bare_plays : List (List ℕ × Play)
bare_plays = (codes "open", Play.Join) ∷ (codes "setlog", Play.SetLog) ∷ []

-- plays of an opener
abbrev pub opener_plays : ℕ → List (List ℕ × Play)
opener_plays who = (codes "turn", Play.Turn who) ∷ (codes "go", Play.Go who) ∷ (codes "die", Play.Die who) ∷ []

-- plays of an opener with a command
abbrev pub command_plays : ℕ → Command → List (List ℕ × Play)
command_plays who command = (codes "give", Play.Give who command) ∷ (codes "do", Play.Do who command) ∷ []
