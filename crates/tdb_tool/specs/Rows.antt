-- The words of a session, by tables: one row for each word.
use Rattle.std.specs.Prelude.{ℕ, List, [], ◌∷◌, codes}
use Rattle.tdb_dump.specs.declared.listing.Listing.{Listing}
use Rattle.tdb_steps.specs.declared.flag.Flag.{Flag}
use Rattle.tdb_commands.specs.declared.command.Command.{Command}
use Rattle.tdb_tool.specs.declared.order.Order.{Order}

-- orders of one word
abbrev pub bare_orders : List (List ℕ × Order)
bare_orders =
    (codes "erase", Order.Take Command.Wipe)
    ∷ (codes "check", Order.Take Command.Check)
    ∷ (codes "first", Order.Take Command.First)
    ∷ (codes "next", Order.Take Command.Next)
    ∷ (codes "dump", Order.List Listing.Pairs)
    ∷ (codes "keys", Order.List Listing.Keys)
    ∷ (codes "hexkeys", Order.List Listing.HexKeys)
    ∷ (codes "transaction_start", Order.Take Command.Start)
    ∷ (codes "transaction_commit", Order.Take Command.Commit)
    ∷ (codes "transaction_cancel", Order.Take Command.Cancel)
    ∷ (codes "quit", Order.Quit)
    ∷ []

-- orders on a key
abbrev pub key_orders : List ℕ → List (List ℕ × Order)
key_orders key =
    (codes "show", Order.Take (Command.Fetch key))
    ∷ (codes "delete", Order.Take (Command.Delete key))
    ∷ []

-- orders on a key and a value
abbrev pub value_orders : List ℕ → List ℕ → List (List ℕ × Order)
value_orders key value =
    (codes "store", Order.Take (Command.Store key value Flag.Replace))
    ∷ (codes "storehex", Order.Take (Command.Store key value Flag.Replace))
    ∷ (codes "insert", Order.Take (Command.Store key value Flag.Insert))
    ∷ []
