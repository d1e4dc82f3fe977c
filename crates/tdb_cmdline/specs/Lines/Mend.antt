-- What is mended: the new file has another name.
use Rattle.std.specs.Prelude.{ℕ, if◌then◌else◌, Option, None, Some, List, [], ◌∷◌}
use Rattle.std.specs.Option.{option_map}
use Rattle.tdb_space.specs.Pairs.{same_key}
use Rattle.tdb_cmdline.specs.declared.ask.Task.{Task}
use Rattle.tdb_cmdline.specs.declared.ask.Task.TheVariants.{Mend}
use Rattle.tdb_cmdline.specs.declared.options.Line.{Line}

abbrev pub task_for : List ℕ → List ℕ → Option Task
task_for file new = if same_key new file then None else Some (Mend new)

-- FILE NEW: the file, and what is done with it
abbrev pub mends : List (List ℕ) → Option (List ℕ × Task)
mends [] = None
mends (file ∷ []) = None
mends (file ∷ new ∷ []) = option_map (λ task. (file, task)) (task_for file new)
mends (file ∷ new ∷ word ∷ rest) = None

abbrev pub mend_of : Line → Option (List ℕ × Task)
mend_of line = mends line.positions
