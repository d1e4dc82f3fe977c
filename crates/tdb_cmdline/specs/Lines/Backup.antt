-- What a backup copies, or verifies: the names of its files and of their copies.
use Rattle.std.specs.Prelude.{◌≡◌, ◌&&◌, ◌||◌, ℕ, Bool, true, false, not, if◌then◌else◌, Option, None, Some, unwrap_or, List, [], ◌∷◌, ◌++◌, codes}
use Rattle.std.specs.BTreeSet.{BTreeSet, contains}
use Rattle.std.specs.Cmp.Lexicographic.{slice_cmp}
use Rattle.std.specs.Ordering.{nat_cmp}
use Rattle.tdb_space.specs.Pairs.{same_key}
use Rattle.tdb_cmdline.specs.declared.options.Line.{Line}
use Rattle.tdb_cmdline.specs.declared.ask.Task.{Task}
use Rattle.tdb_cmdline.specs.declared.ask.Task.TheVariants.{Backup, Verify}
use Rattle.tdb_cmdline.specs.CopyNames.{copy_name, made_name}
use Rattle.tdb_cmdline.specs.Options.{is_given, told}

-- a name is one of these
abbrev pub is_one_of : List ℕ → List (List ℕ) → Bool
is_one_of name [] = false
is_one_of name (other ∷ others) = same_key other name || is_one_of name others

-- no name stands twice among these
abbrev pub all_differ : List (List ℕ) → Bool
all_differ [] = true
all_differ (name ∷ names) = not (is_one_of name names) && all_differ names

-- the names of a file and of its copy, and the one at which a file is made; and those of all files
abbrev pub names_of : Bool → List ℕ → List ℕ → List (List ℕ)
names_of verify suffix file = file ∷ copy_name suffix file ∷ made_name verify suffix file ∷ []

abbrev pub all_names : Bool → List ℕ → List (List ℕ) → List (List ℕ)
all_names verify suffix [] = []
all_names verify suffix (file ∷ files) = names_of verify suffix file ++ all_names verify suffix files

-- these are the names that were seen
abbrev pub HasNames : BTreeSet (List ℕ) → List (List ℕ) → Type 0
HasNames seen names = (q : List ℕ) → contains (slice_cmp nat_cmp) seen q ≡ is_one_of q names

-- What the words ask for: to copy, or with `-v` to verify, the first file and the others, with the suffix, which is
-- `.bak` where none is told. There is a file, and the names are all different.
abbrev pub suffix_in : Line → List ℕ
suffix_in line = unwrap_or (told (codes "-s") line.options) (codes ".bak")

abbrev pub task_for : Bool → List (List ℕ) → List ℕ → Task
task_for true more suffix = Verify more suffix
task_for false more suffix = Backup more suffix

abbrev pub asks_for : Bool → List ℕ → List (List ℕ) → Option (List ℕ × Task)
asks_for verify suffix [] = None
asks_for verify suffix (file ∷ more) =
    if all_differ (all_names verify suffix (file ∷ more)) then Some (file, task_for verify more suffix) else None

abbrev pub asks_of : Line → Option (List ℕ × Task)
asks_of line = asks_for (is_given (codes "-v") line.options) (suffix_in line) line.positions
