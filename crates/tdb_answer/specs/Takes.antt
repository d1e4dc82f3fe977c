-- How a command takes its files.
use Rattle.std.specs.Prelude.{ℕ, List, [], ◌∷◌, Option, None, Some, if◌then◌else◌}
use Rattle.std.specs.List.{All, AllByRecursion}
use Rattle.tdb_disk.specs.declared.files.Take.{Take}
use Rattle.tdb_disk.specs.declared.files.Take.TheVariants.{Existing, ReadOnly, New}
use Rattle.tdb_cmdline.specs.Ask.{Ask}
use Rattle.tdb_cmdline.specs.CopyNames.{copy_name, new_name, temporary_name}
use Rattle.tdb_cmdline.specs.declared.ask.Task.{Task}
use Rattle.tdb_cmdline.specs.declared.ask.Task.TheVariants.{Create, On, Read, Rescue, Print, Repack, Restore, Backup, Verify, Convert, Mend, Merge, Move, Turns, Session, Generate}

-- a name, and a way in which it is taken: to be read alone, to be changed, or to be made
abbrev pub Taking : Type 0
Taking = List ℕ × Take

-- Of each of these files, where they are copied: the file, which is undone where its gate is open, and the one that
-- becomes its copy.
abbrev pub copies_take : List ℕ → List (List ℕ) → List Taking
copies_take suffix [] = []
copies_take suffix (file ∷ files) = (file, Existing) ∷ (new_name suffix file, New) ∷ copies_take suffix files

-- where they are verified: the file, its copy, and the one that takes its place where it is restored
abbrev pub verified_take : List ℕ → List (List ℕ) → List Taking
verified_take suffix [] = []
verified_take suffix (file ∷ files) = (file, Existing) ∷ (copy_name suffix file, Existing) ∷ (temporary_name file, New) ∷ verified_take suffix files

-- The names that a task on the file of this name takes, and how. It takes no other, and none in another way.
abbrev pub takes : Task → List ℕ → List Taking
takes (On act) file = (file, Existing) ∷ []
takes (Read look) file = (file, ReadOnly) ∷ []
takes Rescue file = (file, ReadOnly) ∷ []
takes (Print printout limit) file = (file, Existing) ∷ []
takes (Repack limit) file = (file, Existing) ∷ (temporary_name file, New) ∷ []
takes (Create made) file = (file, New) ∷ []
takes (Restore limit) file = (file, New) ∷ []
takes (Backup more suffix) file = copies_take suffix (file ∷ more)
takes (Verify more suffix) file = verified_take suffix (file ∷ more)
takes (Convert new made prefix) file = (file, ReadOnly) ∷ (new, New) ∷ []
takes (Mend new) file = (file, ReadOnly) ∷ (new, New) ∷ []
takes (Merge into prefix limit) file = (file, ReadOnly) ∷ (into, Existing) ∷ []
takes (Move key into limit) file = (file, Existing) ∷ (into, Existing) ∷ []
takes (Turns options) file = (file, if options.read_only then ReadOnly else Existing) ∷ []
takes (Session limit) file = (file, Existing) ∷ []
takes (Generate commands seed) file = (file, New) ∷ []

-- those of what is asked for
abbrev pub ask_takes : Option Ask → List Taking
ask_takes None = []
ask_takes (Some ask) = takes ask.task ask.file

-- each of those names may be taken in its way
abbrev pub MayTake : (List ℕ → Take → Type 0) → List Taking → Type 0
MayTake may takings = All (λ (taking : Taking). may taking.0 taking.1) takings

-- the same, one name after the other
abbrev pub MayTakeEach : (List ℕ → Take → Type 0) → List Taking → Type 0
MayTakeEach may takings = AllByRecursion (λ (taking : Taking). may taking.0 taking.1) takings
