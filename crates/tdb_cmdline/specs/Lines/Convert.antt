-- What a conversion makes of its file, or stores of it into another one.
use Rattle.std.specs.Prelude.{ℕ, if◌then◌else◌, Option, None, Some, List, [], ◌∷◌, codes}
use Rattle.std.specs.Option.{option_map, option_and_then}
use Rattle.tdb_space.specs.Pairs.{same_key}
use Rattle.tdb_cmdline.specs.declared.ask.Task.{Task}
use Rattle.tdb_cmdline.specs.declared.ask.Task.TheVariants.{Convert, Merge}
use Rattle.tdb_cmdline.specs.declared.lines.create.NewFile.{NewFile}
use Rattle.tdb_cmdline.specs.declared.options.Line.{Line}
use Rattle.tdb_cmdline.specs.Lines.Create.{create_of}
use Rattle.tdb_cmdline.specs.Options.{is_given, told, limit_in}
use Rattle.tdb_cmdline.specs.Words.{value_of}

-- with what the keys begin of the pairs that are taken: any key begins with no bytes
abbrev pub prefix_of : Option (List ℕ) → Option (List ℕ)
prefix_of None = Some []
prefix_of (Some word) = value_of word

-- the new file has another name
abbrev pub task_for : List ℕ → List ℕ → NewFile → List ℕ → Option Task
task_for file new made prefix = if same_key new file then None else Some (Convert new made prefix)

-- FILE NEW [SIZE [HASH [ORDER]]], with a limit and a prefix: the file, and what is done with it
abbrev pub converts : Option ℕ → Option (List ℕ) → List (List ℕ) → Option (List ℕ × Task)
converts limit prefix [] = None
converts limit prefix (file ∷ []) = None
converts limit prefix (file ∷ new ∷ arguments) =
    option_and_then (λ most.
    option_and_then (λ made. option_and_then (λ front. option_map (λ task. (file, task)) (task_for file new made front)) prefix) (create_of most arguments)) limit

-- The file has another name into which the pairs are stored.
abbrev pub merge_for : List ℕ → List ℕ → List ℕ → ℕ → Option Task
merge_for file into prefix limit = if same_key into file then None else Some (Merge into prefix limit)

-- FILE NEW, with `--into`: NEW is there, so nothing is told of how it is made
abbrev pub merges : Option ℕ → Option (List ℕ) → List (List ℕ) → Option (List ℕ × Task)
merges limit prefix (file ∷ into ∷ []) = option_and_then (λ most. option_and_then (λ front. option_map (λ task. (file, task)) (merge_for file into front most)) prefix) limit
merges limit prefix positions = None

abbrev pub merge_of : Line → Option (List ℕ × Task)
merge_of line = merges (limit_in line) (prefix_of (told (codes "--prefix") line.options)) line.positions

abbrev pub new_of : Line → Option (List ℕ × Task)
new_of line = converts (limit_in line) (prefix_of (told (codes "--prefix") line.options)) line.positions

abbrev pub convert_of : Line → Option (List ℕ × Task)
convert_of line = if is_given (codes "--into") line.options then merge_of line else new_of line
