-- Command lines: what words ask for.
use Rattle.std.specs.Prelude.{◌≢◌, ℕ, ◌+◌, ◌<◌, ◌≤◌, ◌^◌, Option, None, Some, List, [], ◌∷◌, length, codes, string_bytes}
use Rattle.std.specs.Map.{lookup}
use Rattle.std.specs.Option.{option_map, option_and_then}
use Rattle.tdb_dump.specs.declared.listing.Listing.TheVariants as Listing
use Rattle.tdb_space.specs.Pairs.{same_key}
use Rattle.tdb_open.specs.declared.limits.TheConstants.{LONGEST_FILE}
use Rattle.tdb_cmdline.specs.declared.look.Look.{Look}
use Rattle.tdb_cmdline.specs.declared.look.Look.TheVariants.{Dump, Value}
use Rattle.tdb_cmdline.specs.declared.act.Act.{Act}
use Rattle.tdb_cmdline.specs.declared.act.Verb.{Verb}
use Rattle.tdb_cmdline.specs.declared.act.Verb.TheVariants.{Show, Insert, Store, Delete, Erase, Check, First, Next, TransactionStart, TransactionCommit, TransactionCancel, Quit}
use Rattle.tdb_cmdline.specs.declared.ask.Task.{Task}
use Rattle.tdb_cmdline.specs.declared.ask.Task.TheVariants.{Create, On, Read, Rescue, Print, Repack, Restore, Backup, Verify, Convert, Merge, Mend, Move, Turns, Session, Generate}
use Rattle.tdb_cmdline.specs.declared.ask.Ask as C
use Rattle.tdb_cmdline.specs.declared.options.Command.{Command}
use Rattle.tdb_cmdline.specs.declared.options.Command.TheVariants as command
use Rattle.tdb_cmdline.specs.declared.options.Line.{Line}
use Rattle.tdb_cmdline.specs.declared.printout.Printout.{Printout}
use Rattle.tdb_cmdline.specs.declared.printout.Printout.TheVariants.{Pairs, Summary, Chains, FreeList}
use Rattle.tdb_cmdline.specs.Words.{of_one, of_three}
use Rattle.tdb_cmdline.specs.Options.{commands, is_given, told, line_of, limit_in}
use Rattle.tdb_cmdline.specs.Acts.{show_of, insert_of, store_of, storehex_of, delete_of, alone_of, print_of}
use Rattle.tdb_cmdline.specs.Lines.Create.{create_of}
use Rattle.tdb_cmdline.specs.CopyNames.{BackupFits, VerifyFits}
use Rattle.tdb_cmdline.specs.Lines.Backup.{asks_of}
use Rattle.tdb_cmdline.specs.Lines.Convert.{convert_of}
use Rattle.tdb_cmdline.specs.Lines.Mend.{mend_of}
use Rattle.tdb_cmdline.specs.Lines.Moving.{move_of}
use Rattle.tdb_cmdline.specs.Lines.Dump.{task_of as dump_task}
use Rattle.tdb_cmdline.specs.Lines.Turns.{options_in}
use Rattle.tdb_cmdline.specs.Lines.Generate.{generate_of}

-- what is asked for: a file by its name, and what is to be done with it
pub record Ask : Type 0 where
  pub file : List ℕ
  pub task : Task

-- what an ask of the code asks for
abbrev pub asked : C.Ask → Ask
asked ask = record { file = string_bytes ask.file; task = ask.task }

-- this is done with a file that is there and may have so many bytes
abbrev pub on_file : ℕ → Verb → Task
on_file limit verb = On (record { verb = verb; limit = limit })

-- this is printed of such a file
abbrev pub print_file : ℕ → Printout → Task
print_file limit printout = Print printout limit

-- such a file is written anew, where the command has no arguments
abbrev pub repack_of : ℕ → List (List ℕ) → Option Task
repack_of limit [] = Some (Repack limit)
repack_of limit (word ∷ rest) = None

-- the commands of `tool` on a file, each by its name with what its arguments ask for, where the file may have so many
-- bytes
abbrev pub tools : List ℕ → ℕ → List (List ℕ × (List (List ℕ) → Option Task))
tools file limit =
    (codes "show", λ arguments. option_map (on_file limit) (show_of arguments))
    ∷ (codes "insert", λ arguments. option_map (on_file limit) (insert_of arguments))
    ∷ (codes "store", λ arguments. option_map (on_file limit) (store_of arguments))
    ∷ (codes "storehex", λ arguments. option_map (on_file limit) (storehex_of arguments))
    ∷ (codes "delete", λ arguments. option_map (on_file limit) (delete_of arguments))
    ∷ (codes "erase", λ arguments. option_map (on_file limit) (alone_of Erase arguments))
    ∷ (codes "check", λ arguments. option_map (on_file limit) (alone_of Check arguments))
    ∷ (codes "first", λ arguments. option_map (on_file limit) (alone_of First arguments))
    ∷ (codes "next", λ arguments. option_map (on_file limit) (alone_of Next arguments))
    ∷ (codes "transaction_start", λ arguments. option_map (on_file limit) (alone_of TransactionStart arguments))
    ∷ (codes "transaction_commit", λ arguments. option_map (on_file limit) (alone_of TransactionCommit arguments))
    ∷ (codes "transaction_cancel", λ arguments. option_map (on_file limit) (alone_of TransactionCancel arguments))
    ∷ (codes "quit", λ arguments. option_map (on_file limit) (alone_of Quit arguments))
    ∷ (codes "dump", λ arguments. option_map (print_file limit) (print_of (Pairs Listing.Pairs) arguments))
    ∷ (codes "keys", λ arguments. option_map (print_file limit) (print_of (Pairs Listing.Keys) arguments))
    ∷ (codes "hexkeys", λ arguments. option_map (print_file limit) (print_of (Pairs Listing.HexKeys) arguments))
    ∷ (codes "info", λ arguments. option_map (print_file limit) (print_of Summary arguments))
    ∷ (codes "list", λ arguments. option_map (print_file limit) (print_of Chains arguments))
    ∷ (codes "free", λ arguments. option_map (print_file limit) (print_of FreeList arguments))
    ∷ (codes "repack", λ arguments. repack_of limit arguments)
    ∷ (codes "move", λ arguments. move_of file limit arguments)
    ∷ (codes "create", λ arguments. option_map Create (create_of limit arguments))
    ∷ []

-- what the command of this name asks for with these arguments, and nothing where there is no such command
abbrev pub task_of : List ℕ → ℕ → List ℕ → List (List ℕ) → Option Task
task_of file limit command arguments = option_and_then (λ read. read arguments) (lookup (same_key command) (tools file limit))

-- this is to be done with this file
abbrev pub asks : List ℕ → Task → Ask
asks file task = record { file = file; task = task }

-- `tool [--limit N] FILE [COMMAND [ARGUMENTS..]]`: a command on the file, or a session
abbrev pub tool_task : List ℕ → ℕ → List (List ℕ) → Option Task
tool_task file limit [] = Some (Session limit)
tool_task file limit (name ∷ arguments) = task_of file limit name arguments

abbrev pub tool_asks_for : Option ℕ → List (List ℕ) → Option Ask
tool_asks_for None positions = None
tool_asks_for (Some limit) [] = None
tool_asks_for (Some limit) (file ∷ words) = option_map (asks file) (tool_task file limit words)

abbrev pub tool_asks : Line → Option Ask
tool_asks line = tool_asks_for (limit_in line) line.positions

-- `dump [-e] [-k KEY] FILE`
abbrev pub dump_asks : Line → Option Ask
dump_asks line =
    of_one (λ file. option_map (asks file) (dump_task (is_given (codes "-e") line.options) (told (codes "-k") line.options))) line.positions

-- `restore [--limit N] FILE`
abbrev pub restore_asks : Line → Option Ask
restore_asks line = of_one (λ file. option_map (λ limit. asks file (Restore limit)) (limit_in line)) line.positions

-- `backup [-s SUFFIX] [-v] FILE..`
abbrev pub backup_asks : Line → Option Ask
backup_asks line = option_map (λ found. asks found.0 found.1) (asks_of line)

-- `convert [--limit N] [--prefix KEY] FILE NEW [SIZE [default|jenkins [little|big]]]`, or with `--into` and no SIZE
abbrev pub convert_asks : Line → Option Ask
convert_asks line = option_map (λ found. asks found.0 found.1) (convert_of line)

-- `mend FILE NEW`
abbrev pub mend_asks : Line → Option Ask
mend_asks line = option_map (λ found. asks found.0 found.1) (mend_of line)

-- `turns [--limit N] [--no-nesting] [--read-only] [--seqnum] FILE`
abbrev pub turns_asks : Line → Option Ask
turns_asks line = of_one (λ file. option_map (λ options. asks file (Turns options)) (options_in line)) line.positions

-- `gen N SEED FILE`
abbrev pub gen_asks : Line → Option Ask
gen_asks line = of_three (λ n seed file. option_map (asks file) (generate_of n seed)) line.positions

-- what the words behind the name of a command ask for
abbrev pub command_asks : Command → Line → Option Ask
command_asks command.Tool line = tool_asks line
command_asks command.Dump line = dump_asks line
command_asks command.Restore line = restore_asks line
command_asks command.Backup line = backup_asks line
command_asks command.Convert line = convert_asks line
command_asks command.Mend line = mend_asks line
command_asks command.Turns line = turns_asks line
command_asks command.Generate line = gen_asks line

abbrev pub words_ask : Command → List (List ℕ) → Option Ask
words_ask command words = option_and_then (command_asks command) (line_of command words)

-- what the words of a command line ask for, those behind the program's name
abbrev pub ask_of : List (List ℕ) → Option Ask
ask_of [] = None
ask_of (program ∷ words) = option_and_then (λ command. words_ask command words) (lookup (same_key program) commands)

-- the keys of a look are short enough for a record
abbrev pub LookFits : Look → Type 0
LookFits Dump = Unit {0}
LookFits (Value key) = length key < 2 ^ 32

-- the key and the value of an act are short enough for a record
abbrev pub VerbFits : Verb → Type 0
VerbFits (Show key) = length key < 2 ^ 32
VerbFits (Insert key value) = length key + length value < 2 ^ 32
VerbFits (Store key value) = length key + length value < 2 ^ 32
VerbFits (Delete key) = length key < 2 ^ 32
VerbFits Erase = Unit {0}
VerbFits Check = Unit {0}
VerbFits First = Unit {0}
VerbFits Next = Unit {0}
VerbFits TransactionStart = Unit {0}
VerbFits TransactionCommit = Unit {0}
VerbFits TransactionCancel = Unit {0}
VerbFits Quit = Unit {0}

-- those of this act are, and its file may be no longer than the longest one
abbrev pub ActFits : Act → Type 0
ActFits act = VerbFits act.verb × (act.limit ≤ LONGEST_FILE)

-- the keys and the values are short enough for a record, a file is made with some chain, no file may be longer than the
-- longest one; the names of a backup and of a verification are all different
abbrev pub TaskFits : List ℕ → Task → Type 0
TaskFits file (On act) = ActFits act
TaskFits file (Read look) = LookFits look
TaskFits file Rescue = Unit {0}
TaskFits file (Print printout limit) = limit ≤ LONGEST_FILE
TaskFits file (Repack limit) = limit ≤ LONGEST_FILE
TaskFits file (Create new) = (0 < new.form.size) × (new.limit ≤ LONGEST_FILE)
TaskFits file (Restore limit) = limit ≤ LONGEST_FILE
TaskFits file (Backup more suffix) = BackupFits suffix (file ∷ more)
TaskFits file (Verify more suffix) = VerifyFits suffix (file ∷ more)
TaskFits file (Convert new made prefix) = (new ≢ file) × (0 < made.form.size) × (made.limit ≤ LONGEST_FILE)
TaskFits file (Mend new) = new ≢ file
TaskFits file (Merge into prefix limit) = (into ≢ file) × (limit ≤ LONGEST_FILE)
TaskFits file (Move key into limit) = (into ≢ file) × (length key < 2 ^ 32) × (limit ≤ LONGEST_FILE)
TaskFits file (Turns options) = options.limit ≤ LONGEST_FILE
TaskFits file (Session limit) = limit ≤ LONGEST_FILE
TaskFits file (Generate n seed) = Unit {0}
