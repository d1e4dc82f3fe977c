-- The tasks that read the input, and why tasks end.
use Rattle.std.specs.Prelude.{◌≡◌, ◌⊎◌, ℕ, Bool, true, false, Option, None, Some, List, ◌∷◌}
use Rattle.tdb_disk.specs.History.{History, seen}
use Rattle.tdb_cmdline.specs.declared.ask.Task.{Task}
use Rattle.tdb_cmdline.specs.declared.ask.Task.TheVariants.{Create, On, Read, Rescue, Print, Repack, Restore, Backup, Verify, Convert, Merge, Mend, Move, Turns, Session, Generate}
use Rattle.tdb_answer.specs.declared.ending.Ending.{Ending}
use Rattle.tdb_cmdline.specs.Ask.{Ask}
use Rattle.tdb_answer.specs.Commands.Backup.{BackupEnds}
use Rattle.tdb_answer.specs.Commands.Repack.{RepackEnds}
use Rattle.tdb_answer.specs.Commands.Convert.{ConvertEnds}
use Rattle.tdb_answer.specs.Commands.Mend.{MendEnds}
use Rattle.tdb_answer.specs.Commands.Merge.{MergeEnds}
use Rattle.tdb_answer.specs.Commands.Moving.{MoveSo}
use Rattle.tdb_cmdline.specs.declared.lines.create.NewFile.{NewFile}
use Rattle.tdb_answer.specs.Commands.Restore.{ReadSo}
use Rattle.tdb_answer.specs.Commands.Session.{ServesSo}
use Rattle.tdb_answer.specs.Commands.Turns.{PlaysSo}
use Rattle.tdb_answer.specs.Commands.Generate.{GenSo}
use Rattle.tdb_answer.specs.Commands.Verify.{VerifyEnds}
use Rattle.tdb_commands.specs.declared.options.Options.{Options}
use Rattle.tdb_answer.specs.Ending.{TaskCause}
use Rattle.tdb_answer.specs.Input.{Input}

-- whether a task reads the input: a restore, turns and a session do
abbrev pub reads_input : Task → Bool
reads_input (On act) = false
reads_input (Read look) = false
reads_input Rescue = false
reads_input (Print printout limit) = false
reads_input (Repack limit) = false
reads_input (Create form) = false
reads_input (Restore limit) = true
reads_input (Backup more suffix) = false
reads_input (Verify more suffix) = false
reads_input (Convert new made prefix) = false
reads_input (Mend new) = false
reads_input (Merge into prefix limit) = false
reads_input (Move key into limit) = false
reads_input (Turns options) = true
reads_input (Session limit) = true
reads_input (Generate commands seed) = false

abbrev pub ask_reads : Option Ask → Bool
ask_reads None = false
ask_reads (Some ask) = reads_input ask.task

-- the task is a restore, no file is at its name, and it ends so by what it read
pub record EndsByInput (input : Input) (task : Task) (held : Option History) (e : Ending) : Type 0 where
  pub limit : ℕ
  pub restores : task ≡ Restore limit
  pub none : held ≡ None
  pub read : ReadSo input limit e

-- the task is turns, and it ends so by its script and its file
pub record EndsByPlays (input : Input) (task : Task) (name : List ℕ) (held : Option History) (e : Ending) : Type 0 where
  pub options : Options
  pub turns : task ≡ Turns options
  pub why : PlaysSo input options name held e

-- the task is a session, and it ends so by its lines and its file
pub record EndsByLines (input : Input) (task : Task) (name : List ℕ) (held : Option History) (e : Ending) : Type 0 where
  pub limit : ℕ
  pub serves : task ≡ Session limit
  pub why : ServesSo input limit name held e

-- why a task ends so, by what is held at its name, by the input, and by how often the files had failed before and after
abbrev pub AskCause : Input → Task → List ℕ → Option History → ℕ → ℕ → Ending → Type 0
AskCause input task name held before after e =
    TaskCause task name held before after e ⊎ EndsByInput input task held e ⊎ EndsByPlays input task name held e ⊎ EndsByLines input task name held e

-- the task is a backup, and ends so by what is held at the names of its files
pub record EndsByFiles (task : Task) (name : List ℕ) (held : List ℕ → Option History) (e : Ending) : Type 0 where
  pub more : List (List ℕ)
  pub suffix : List ℕ
  pub backs_up : task ≡ Backup more suffix
  pub ends : BackupEnds (name ∷ more) held e

-- the task is a verification, and ends so by what is held at the names of its files and of their copies
pub record EndsByCounts (task : Task) (name : List ℕ) (held : List ℕ → Option History) (e : Ending) : Type 0 where
  pub more : List (List ℕ)
  pub suffix : List ℕ
  pub text : List ℕ
  pub verifies : task ≡ Verify more suffix
  pub ends : VerifyEnds suffix (name ∷ more) held e text

-- why generated commands end so, by what is held at the name of their file
abbrev pub GenCause : ℕ → ℕ → List ℕ → Option History → ℕ → ℕ → Ending → Type 0
GenCause commands seed name held before after e = TaskCause (Generate commands seed) name held before after e ⊎ ((held ≡ None) × GenSo commands seed e)

-- the task is gen, no file is at its name, and it ends so by how its commands were done
pub record EndsByCommands (task : Task) (held : Option History) (e : Ending) : Type 0 where
  pub commands : ℕ
  pub seed : ℕ
  pub generates : task ≡ Generate commands seed
  pub none : held ≡ None
  pub ends : GenSo commands seed e

-- the task writes the file anew that is at its name, and ends so by what becomes of its pairs
pub record EndsByPairs (task : Task) (held : Option History) (e : Ending) : Type 0 where
  pub limit : ℕ
  pub was : History
  pub repacks : task ≡ Repack limit
  pub there : held ≡ Some was
  pub ends : RepackEnds limit (seen was) e

-- the task makes another file of the pairs of the one that is at its name, and ends so by what becomes of them, and by
-- what is held at the name of the other
pub record EndsByConversion (task : Task) (name : List ℕ) (held : List ℕ → Option History) (e : Ending) : Type 0 where
  pub new : List ℕ
  pub made : NewFile
  pub prefix : List ℕ
  pub was : History
  pub converts : task ≡ Convert new made prefix
  pub there : held name ≡ Some was
  pub ends : ConvertEnds made prefix (seen was) new (held new) e

-- the task makes another file of what can be read of the one that is at its name, and ends so by what becomes of that,
-- and by what is held at the name of the other
pub record EndsByMending (task : Task) (name : List ℕ) (held : List ℕ → Option History) (e : Ending) : Type 0 where
  pub new : List ℕ
  pub was : History
  pub mends : task ≡ Mend new
  pub there : held name ≡ Some was
  pub ends : MendEnds (seen was) new (held new) e

-- the task stores the pairs of the file that is at its name into another one, and ends so by what is held at the name
-- of that
pub record EndsByMerge (task : Task) (name : List ℕ) (held : List ℕ → Option History) (e : Ending) : Type 0 where
  pub into : List ℕ
  pub prefix : List ℕ
  pub limit : ℕ
  pub was : History
  pub merges : task ≡ Merge into prefix limit
  pub there : held name ≡ Some was
  pub ends : MergeEnds limit (seen was) into (held into) e

-- the task moves a key of the file that is at its name into another one, and ends so by what is held at both names
pub record EndsByMove (task : Task) (name : List ℕ) (held : List ℕ → Option History) (e : Ending) : Type 0 where
  pub key : List ℕ
  pub into : List ℕ
  pub limit : ℕ
  pub moves : task ≡ Move key into limit
  pub ends : MoveSo limit key name into held e

-- why a task on the file of a name ends so, by what is held at all names
abbrev pub AskEnds : Input → Task → List ℕ → (List ℕ → Option History) → ℕ → ℕ → Ending → Type 0
AskEnds input task name held before after e = AskCause input task name (held name) before after e ⊎ EndsByFiles task name held e ⊎ EndsByCounts task name held e ⊎ EndsByCommands task (held name) e ⊎ EndsByPairs task (held name) e ⊎ EndsByConversion task name held e ⊎ EndsByMending task name held e ⊎ EndsByMerge task name held e ⊎ EndsByMove task name held e
