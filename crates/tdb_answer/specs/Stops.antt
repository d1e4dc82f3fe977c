-- What a stop at any moment of a run of turns leaves of its file, and by which lines this is said.
use Rattle.std.specs.Prelude.{◌≡◌, ◌≢◌, ◌⊎◌, ℕ, Bool, IsTrue, Option, Some, List, [], ◌∷◌, ◌++◌, take, Result, Ok, Err, OnOk, true}
use Rattle.tdb_backup.specs.Dump.{WroteFront}
use Rattle.tdb_disk.specs.Count.{Rose}
use Rattle.tdb_disk.specs.History.{History, seen}
use Rattle.tdb_disk.specs.Stop.{LeavesOnly}
use Rattle.tdb_space.specs.Form.{Form, form_of}
use Rattle.tdb_law.specs.Beginning.{IsLoaded}
use Rattle.tdb_law.specs.Plays.{Course}
use Rattle.tdb_law.specs.World.{State}
use Rattle.tdb_cmdline.specs.declared.ask.Task.TheVariants.{Turns}
use Rattle.tdb_commands.specs.InLaw.{law_plays, law_lines, options_of}
use Rattle.tdb_commands.specs.declared.line.Line.{Line}
use Rattle.tdb_commands.specs.declared.line.Line.TheVariants.{Unfinished}
use Rattle.tdb_commands.specs.declared.options.Options.{Options}
use Rattle.tdb_commands.specs.declared.play.Play.{Play}
use Rattle.tdb_script.specs.Text.{report_text}
use Rattle.tdb_open.specs.Loading.{OpensToTurn}
use Rattle.tdb_world.specs.Loaded.{IsOver}
use Rattle.tdb_openers.specs.Played.{ComesTo}
use Rattle.tdb_world.specs.Stops.{IsSafe}
use Rattle.tdb_world.specs.States.{IsStateOf}
use Rattle.tdb_world.specs.Whole.{Whole, form_at}
use Rattle.tdb_world.specs.Courses.Led.{ToldCalls}
use Rattle.tdb_world.specs.Courses.Stops.{IsTransacted, Leads, OpensAndStays, OpensOnTheWay, StaysTold}
use Rattle.tdb_world.specs.OverFile.{moment_of}
use Rattle.tdb_tool.specs.Calls.{CallsFrom}
use Rattle.tdb_open.specs.declared.halt.Fault.TheVariants as F
use Rattle.tdb_answer.specs.declared.ending.Ending.{Ending}
use Rattle.tdb_answer.specs.declared.ending.Ending.TheVariants.{Replied, LogFault}
use Rattle.tdb_answer.specs.declared.ending.Reply.TheVariants.{Played}
use Rattle.tdb_answer.specs.declared.ending.Unprinted.{Unprinted}
use Rattle.tdb_answer.specs.Commands.Turns.{HasScript}
use Rattle.tdb_answer.specs.Ending.{text_of}
use Rattle.tdb_answer.specs.Input.{Input}
use Rattle.tdb_open.specs.Opening.{opened_bytes}
use Rattle.tdb_world.specs.Courses.Scene.{Scene, IsStateAt}
use Rattle.tdb_answer.specs.Calls.{TellsCallsSince}
use Rattle.tdb_answer.specs.Playing.{PlaysEnd, UnlessBroken, WroteLines, run_answer}
use Rattle.tdb_answer.specs.Run.{Run}
use Rattle.tdb_answer.specs.Safe.{StopsSince, IsLeftAs}

-- Every stop between two moments leaves a file that opens on the way that these lines tell from a state, and what they
-- tell stays; and unless the disk failed they lead to a state of the other moment, in which a stop leaves only what
-- opens to the file's map.
pub record LeavesOnTheWay (old new : Scene) (answer : PlaysEnd) (state : State) (lines : List Line) : Type 0 where
  pub stops : LeavesOnly old.over.history new.over.history (OpensOnTheWay (form_at old.over.world) state (law_lines lines))
  pub stays : StaysTold (form_at old.over.world) old.over.history new.over.history state (law_lines lines)
  pub left : UnlessBroken answer ((after : State) × IsStateAt new after × Leads (form_at old.over.world) state (law_lines lines) after × IsSafe (form_at old.over.world) new.over.history)

-- Lines tell these plays from a state on, as far as they came.
abbrev pub CameBy : Form → State → List Play → List Line → Type 0
CameBy f start plays lines = (last : State) × ComesTo f start (law_plays plays) (law_lines lines) last

-- all lines are told at this end of plays: these are done, or a log failed
abbrev pub TellsAllLines : PlaysEnd → Type 0
TellsAllLines answer = (answer ≡ Ok (Ok tt)) ⊎ (answer ≡ Ok (Err F.Log))

-- and at this ending of turns
abbrev pub SaysAllLines : Result Ending Unprinted → Type 0
SaysAllLines answer = (answer ≡ Ok (Replied Played)) ⊎ (answer ≡ Ok LogFault)

-- Plays ended so between two moments, and their lines were written, or a front of the text of these: whole lines,
-- unless the output failed. From each state of the first moment these lines tell the plays, as far as they came,
-- whatever broke them off; unless the disk failed they lead to a state of the other moment, and all plays do where
-- these are done. The lines tell the calls by which that was. Where a stop at the first moment leaves only what opens
-- to the file's map, and the lines are transacted, stops leave what opens on the way, and what is told stays.
pub record StopsTold (disk_tells output_tells : Bool) (old new : Scene) (plays : List Play) (answer : PlaysEnd) : Type 0 where
  pub lines : List Line
  pub whole : TellsAllLines answer → IsTrue output_tells → new.written ≡ old.written ++ report_text lines
  pub cut : OnOk answer (IsTrue output_tells → WroteLines lines old.written new.written)
  pub front : IsTrue output_tells → WroteFront old.written (report_text lines) new.written
  pub all : answer ≡ Ok (Ok tt) → IsTrue disk_tells → (state : State) → IsStateAt old state
      → (after : State) × IsStateAt new after × Course (form_at old.over.world) state (law_plays plays) (law_lines lines) after
  pub came : IsTrue disk_tells → (state : State) → IsStateAt old state → CameBy (form_at old.over.world) state plays lines
  pub left : IsTrue disk_tells → (state : State) → IsStateAt old state
      → UnlessBroken answer ((after : State) × IsStateAt new after × ComesTo (form_at old.over.world) state (law_plays plays) (law_lines lines) after)
  pub calls : IsTrue disk_tells → (state : State) → IsStateAt old state → ToldCalls (moment_of old.over []) (moment_of new.over []) (run_answer answer) lines
  pub stops : IsTrue disk_tells → (state : State) → IsStateAt old state → IsSafe (form_at old.over.world) old.over.history → IsTransacted (form_at old.over.world) state (law_lines lines)
      → LeavesOnTheWay old new answer state lines

-- these lines tell of unfinished commands alone
abbrev pub OnlyUnfinished : List Line → Type 0
OnlyUnfinished [] = Unit {0}
OnlyUnfinished (line ∷ lines) = ((who : ℕ) × (line ≡ Unfinished who)) × OnlyUnfinished lines

-- a front of the text of lines was written, and of lines of unfinished commands behind them
abbrev pub WroteOf : List Line → List ℕ → List ℕ → Type 0
WroteOf lines before after = (more : List Line) × OnlyUnfinished more × (n : ℕ) × (after ≡ before ++ take n (report_text (lines ++ more)))

-- the whole text of lines was written, and of lines of unfinished commands behind them
abbrev pub WroteWhole : List Line → List ℕ → List ℕ → Type 0
WroteWhole lines before after = (more : List Line) × OnlyUnfinished more × (after ≡ before ++ report_text (lines ++ more))

-- whole lines were written, from the first one on, of these and of unfinished commands behind them
abbrev pub WroteLinesOf : List Line → List ℕ → List ℕ → Type 0
WroteLinesOf lines before after = (more : List Line) × OnlyUnfinished more × WroteLines (lines ++ more) before after

-- Plays came from a state, with these lines, to one as whose file an image is read.
abbrev pub ComesToImage : Form → State → List Play → List Line → List ℕ → Type 0
ComesToImage f start plays lines img = (new : State) × ComesTo f start (law_plays plays) (law_lines lines) new × IsLeftAs f img new

-- All plays in a world, with the lines of unfinished commands behind those of the plays: so it is of stops from each
-- state of the world on. Whole lines were written, unless the output failed; where the plays are done or a log failed,
-- all of them, and no other line of a play. The lines tell these plays as far as they came; where the disk is sound, to
-- a state as whose file what is left is read. They tell the calls that were made, between two lengths of the file.
pub record StopsOver (w : Whole) (disk_tells output_tells : Bool) (plays : List Play) (answer : PlaysEnd) (sound : Type 0) (old now : History) (from to : ℕ) (before after : List ℕ) : Type 0 where
  pub lines : List Line
  pub printed : IsTrue output_tells → WroteOf lines before after
  pub whole : TellsAllLines answer → IsTrue output_tells → WroteWhole lines before after
  pub cut : OnOk answer (IsTrue output_tells → WroteLinesOf lines before after)
  pub came : IsTrue disk_tells → (state : State) → IsStateOf w old state → CameBy (form_at w) state plays lines
  pub left : sound → IsTrue disk_tells → (state : State) → IsStateOf w old state → ComesToImage (form_at w) state plays lines (seen now)
  pub calls : IsTrue disk_tells → (state : State) → IsStateOf w old state → CallsFrom w old now from to sound lines
  pub stops : IsTrue disk_tells → (state : State) → IsStateOf w old state → IsSafe (form_at w) old → IsTransacted (form_at w) state (law_lines lines)
      → OpensAndStays (form_at w) old now state (law_lines lines)

-- Lines of a report, from a world just loaded over the image that the file was read as at first, were printed, or a
-- front of them: whole lines, unless the output failed; and where the run is done or a log failed, all of them, and
-- behind them nothing but the lines of unfinished commands.
-- They tell these plays as far as they came; where the disk is sound, to a state as whose file what is left is read.
-- They tell the calls that were made on the file, of which each turn ends with Full exactly where there is no room.
-- Where the disk is sound, a file that is to be read alone keeps its bytes.
-- Where in no state that they pass an opener is in the middle of a change outside a transaction, and all of the file
-- was on the medium at first, every stop since then leaves a file that opens to the map and the sequence number of a
-- state that they pass, or of the transaction whose Commit was just shutting its gate; and what they tell stays. A file
-- whose gate was open at first has to be one whose undo changes no byte by which its header is known.
pub record StopsOfTurns (f : Form) (options : Options) (plays : List Play) (old now : History) (told : Bool) (done unfailed sound : Type 0) (before after : List ℕ) : Type 0 where
  pub lines : List Line
  pub start : State
  pub loaded : IsLoaded f start (options_of options)
  pub over : IsOver f (opened_bytes (seen old)) start
  pub printed : IsTrue told → WroteOf lines before after
  pub whole : done → IsTrue told → WroteWhole lines before after
  pub cut : unfailed → IsTrue told → WroteLinesOf lines before after
  pub came : CameBy f start plays lines
  pub left : sound → ComesToImage f start plays lines (seen now)
  pub calls : TellsCallsSince options old now sound lines
  pub unwritten : sound → options.read_only ≡ true → seen now ≡ seen old
  pub stops : StopsSince f old now start (law_lines lines)

-- So it is of a file that is opened for turns with these options.
abbrev pub StopsHeld : Options → List Play → Option History → Option History → Bool → Type 0 → Type 0 → Type 0 → List ℕ → List ℕ → Type 0
StopsHeld options plays held left told done unfailed sound before after =
    (old : History) → held ≡ Some old → OpensToTurn options (seen old)
    → (now : History) × (left ≡ Some now) × StopsOfTurns (form_of (opened_bytes (seen old))) options plays old now told done unfailed sound before after

-- The plays are those of the script on the input, or no play was taken.
abbrev pub StopsScripted : Input → Options → Option History → Option History → Bool → Type 0 → Type 0 → Type 0 → List ℕ → List ℕ → Type 0
StopsScripted input options held left told done unfailed sound before after =
    (plays : List Play) × ((plays ≡ []) ⊎ HasScript input plays) × StopsHeld options plays held left told done unfailed sound before after

-- the line of an ending was written behind a text, or a part of the line
abbrev pub WroteLine : List ℕ → List ℕ → Type 0
WroteLine text after = (e : Ending) × (n : ℕ) × (after ≡ text ++ take n (text_of e))

-- And of a run that was asked for turns: behind the report the line of its ending is printed. Status 0 says that the
-- turns are done, and has no such line, so the report is all that is printed; status 10 that a log failed, and status 8
-- that the output did. The disk is sound where the count of the files' faults didn't rise.
abbrev pub TurnsStopSafely : Run → Type 0
TurnsStopSafely run =
    (options : Options) (name : List ℕ) → run.ask ≡ Some (record { file = name; task = Turns options })
    → (text : List ℕ) × (IsTrue run.output.tells → WroteLine text run.output.after) × (run.status ≡ 0 → IsTrue run.output.tells → run.output.after ≡ text)
    × StopsScripted run.input options (run.old name) (run.now name) run.output.tells ((run.status ≡ 0) ⊎ (run.status ≡ 10)) (run.status ≢ 8) (Rose run.faults_before run.faults_after → ⊥) run.output.before text
