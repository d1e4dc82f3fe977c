-- What a dump prints of its file.
use Rattle.std.specs.Prelude.{ℕ, Bool, true, false, Option, None, Some, List}
use Rattle.std.specs.Option.{option_map}
use Rattle.tdb_cmdline.specs.declared.ask.Task.{Task}
use Rattle.tdb_cmdline.specs.declared.ask.Task.TheVariants.{Read, Rescue}
use Rattle.tdb_cmdline.specs.declared.look.Look.{Look}
use Rattle.tdb_cmdline.specs.declared.look.Look.TheVariants.{Dump, Value}
use Rattle.tdb_cmdline.specs.Words.{value_of}

-- what is asked of the file: all its pairs, or the value of the key that `-k` tells
abbrev pub look_of : Option (List ℕ) → Option Look
look_of None = Some Dump
look_of (Some word) = option_map Value (value_of word)

-- what is to be done with it: where `-e` is given what can still be read of it is printed, and no key is told; else it
-- is looked into
abbrev pub task_of : Bool → Option (List ℕ) → Option Task
task_of true None = Some Rescue
task_of true (Some word) = None
task_of false key = option_map Read (look_of key)
