-- The command that makes a new file, has generated commands done on it, and tells their summary.
use Rattle.std.specs.Prelude.{◌≡◌, ◌⊎◌, ℕ, IsSome, Option, None, Some, Result, Ok, Err, List, []}
use Rattle.std.specs.FinMap.{empty}
use Rattle.tdb_words.specs.declared.word.Order.TheVariants.{Little}
use Rattle.tdb_words.specs.declared.hash.HashKind.TheVariants.{Old}
use Rattle.tdb_disk.specs.History.{History, seen}
use Rattle.tdb_disk.specs.Stop.{Quiet}
use Rattle.tdb_law.specs.Beginning.{beginning}
use Rattle.tdb_law.specs.Lines.{IsLawful}
use Rattle.tdb_law.specs.World.{State}
use Rattle.tdb_log.specs.Logs.{Logged}
use Rattle.tdb_commands.specs.InLaw.{law_lines, options_of}
use Rattle.tdb_commands.specs.declared.options.Options.{Options}
use Rattle.tdb_world.specs.Courses.Hearing.{Heard}
use Rattle.tdb_gen.specs.Generated.{Generated as IsLoad, CameSo}
use Rattle.tdb_gen.specs.Summary.{summary_text}
use Rattle.tdb_gen.specs.declared.fault.GenFault.{GenFault}
use Rattle.tdb_gen.specs.declared.fault.GenFault.TheVariants as F
use Rattle.tdb_gen.specs.declared.summary.Summary.{Summary}
use Rattle.tdb_answer.specs.declared.ending.Ending.{Ending}
use Rattle.tdb_answer.specs.declared.ending.Ending.TheVariants.{Replied, Refused, Missing, There, Usage, DeviceFault, InputFault, Malformed, NoMemory, LogFault}
use Rattle.tdb_answer.specs.declared.ending.Reply.TheVariants.{Generated}
use Rattle.tdb_cmdline.specs.declared.limits.TheConstants.{DEFAULT_SIZE}
use Rattle.tdb_open.specs.declared.limits.TheConstants.{LONGEST_FILE}
use Rattle.tdb_open.specs.Creating.{new_image}
use Rattle.tdb_answer.specs.Commands.Restore.{new_form}
use Rattle.tdb_cmdline.specs.Lines.Turns.{options_with}

-- the openers of the commands open the file as turns do where no option says otherwise
abbrev pub gen_options : Options
gen_options = options_with [] LONGEST_FILE

-- the bytes of the file before the commands: those of a new one where nothing else is asked for
abbrev pub new_file : List ℕ
new_file = new_image DEFAULT_SIZE Little Old

-- All commands were done on a new file, which has these bytes then: the summary counts the lines of a report that is
-- lawful from the empty map on, and the file's keys and bytes. All of it is on the medium.
pub record IsGenerated (commands seed : ℕ) (s : Summary) (now : History) : Type 0 where
  pub generated : IsLoad new_form gen_options new_file commands seed (seen now) s
  pub lawful : IsLawful new_form (beginning (options_of gen_options) empty 0) (law_lines generated.lines)
  pub quiet : Quiet now

-- They broke off so on a new file, and logs heard of the lines of their plays as far as these came.
abbrev pub HeardBroken : ℕ → ℕ → GenFault → List Logged → List Logged → Type 0
HeardBroken commands seed fault logs later = (last : State) × CameSo new_form gen_options new_file commands seed fault last logs later

-- How the filling of a new file with them ends, and what logs hear: with the text of their summary, where they heard of
-- all lines; or it breaks off. Before the plays a call may fail of which they hear nothing.
abbrev pub FilledSo : ℕ → ℕ → History → List Logged → List Logged → Result (List ℕ) GenFault → Type 0
FilledSo commands seed now logs later (Ok text) = (s : Summary) × (text ≡ summary_text s) × (g : IsGenerated commands seed s now) × Heard logs g.generated.lines later
FilledSo commands seed now logs later (Err F.Io) = (later ≡ logs) ⊎ HeardBroken commands seed F.Io logs later
FilledSo commands seed now logs later (Err F.Memory) = HeardBroken commands seed F.Memory logs later
FilledSo commands seed now logs later (Err F.Log) = HeardBroken commands seed F.Log logs later

-- the ending where they weren't all done
abbrev pub of_gen : GenFault → Ending
of_gen F.Io = DeviceFault
of_gen F.Memory = NoMemory
of_gen F.Log = LogFault

-- How generated commands on a new file end, but for a failed call or log or want of memory: all were done, and their
-- summary is told.
pub data GenSo (commands seed : ℕ) (e : Ending) : Type 0 where
  all_done : (s : Summary) (img : List ℕ) → e ≡ Replied (Generated (summary_text s)) → IsLoad new_form gen_options new_file commands seed img s → GenSo commands seed e

-- a file was made, where none was, and all commands were done on it
abbrev pub HasMade : ℕ → ℕ → Summary → Option History → Option History → Type 0
HasMade commands seed s old now = (h : History) × (old ≡ None) × (now ≡ Some h) × IsGenerated commands seed s h

-- What is left at the name of the file by how they end. Where they weren't all done there is what there was; where a
-- call failed that holds of a file that was there.
abbrev pub GenLeaves : ℕ → ℕ → Option History → Ending → Option History → Type 0
GenLeaves commands seed old (Replied reply) now = (s : Summary) × (reply ≡ Generated (summary_text s)) × HasMade commands seed s old now
GenLeaves commands seed old (There name) now = now ≡ old
GenLeaves commands seed old DeviceFault now = IsSome old → now ≡ old
GenLeaves commands seed old NoMemory now = now ≡ old
GenLeaves commands seed old LogFault now = now ≡ old
GenLeaves commands seed old (Refused refusal) now = ⊥
GenLeaves commands seed old (Missing name) now = ⊥
GenLeaves commands seed old Usage now = ⊥
GenLeaves commands seed old InputFault now = ⊥
GenLeaves commands seed old (Malformed at) now = ⊥

-- What logs heard of them, by how they end and what is held at the name of the file then: of all lines, where all were
-- done and the summary counts these; where they broke off, of the lines so far, up to the one whose notice a log failed
-- to take where that is the ending; and else nothing.
abbrev pub GenHeard : ℕ → ℕ → Option History → Ending → List Logged → List Logged → Type 0
GenHeard commands seed now (Replied reply) logs later =
    (s : Summary) × (h : History) × (reply ≡ Generated (summary_text s)) × (now ≡ Some h) × (g : IsGenerated commands seed s h) × Heard logs g.generated.lines later
GenHeard commands seed now DeviceFault logs later = (later ≡ logs) ⊎ HeardBroken commands seed F.Io logs later
GenHeard commands seed now NoMemory logs later = (later ≡ logs) ⊎ HeardBroken commands seed F.Memory logs later
GenHeard commands seed now LogFault logs later = HeardBroken commands seed F.Log logs later
GenHeard commands seed now e logs later = later ≡ logs
