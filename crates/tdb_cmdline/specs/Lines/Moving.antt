-- What is moved into another file, which has another name.
use Rattle.std.specs.Prelude.{ℕ, if◌then◌else◌, Option, None, Some, List}
use Rattle.std.specs.Option.{option_and_then}
use Rattle.tdb_space.specs.Pairs.{same_key}
use Rattle.tdb_cmdline.specs.declared.ask.Task.{Task}
use Rattle.tdb_cmdline.specs.declared.ask.Task.TheVariants.{Move}
use Rattle.tdb_cmdline.specs.Words.{of_two, value_of}

abbrev pub task_for : List ℕ → ℕ → List ℕ → List ℕ → Option Task
task_for file limit key into = if same_key into file then None else Some (Move key into limit)

-- KEY FILE2: the key that is moved, and the file into which it is moved
abbrev pub move_of : List ℕ → ℕ → List (List ℕ) → Option Task
move_of file limit arguments = of_two (λ word into. option_and_then (λ key. task_for file limit key into) (value_of word)) arguments
