-- What is promised of a run, in one place.
use Rattle.std.specs.Prelude.{ℕ, List, Bool, IsTrue, String}
use Rattle.std.specs.Global.{Global}
use Rattle.tdb_log.specs.Logs.{Logged}
use Rattle.tdb_top.specs.Outside.{Outside, input_between, output_between}
use Rattle.tdb_answer.specs.Run.{Run, run_by, Answered, RefusesExactly, LeavesFiles, LogsAreTold, Accounted}
use Rattle.tdb_top.specs.SessionStops.{SessionsStopSafely}
use Rattle.tdb_answer.specs.Stops.{TurnsStopSafely}

-- A run, whose files tell what they hold or don't, and its logs before it and after it.
-- It ends in one way and prints the line of that, behind the text of a dump or of a report; where the files tell what
-- they hold the ending has its cause, and what is due is what is answered.
-- A file is refused exactly where its bytes can't be opened.
-- At most the file that is asked for changes, and what stands at the names of a backup or a verification, and they are
-- left as the status says.
-- A stop at any moment of turns leaves a file that opens to a map that their report passes, while nothing is changed
-- outside a transaction. Unless a call of the files failed, that report tells the plays of the script as far as they
-- came, and leads to the file that is left. Each line of it that tells of a turn stands for one that ended with Full
-- exactly where there was no room. Of a session the same is said of its replies.
-- The last log is told what becomes of the files, up to a notice that it refuses.
-- Whatever the files and the output tell: the usage comes exactly where the words ask for nothing, and each failed call
-- is told.
pub record Promise (tells : Bool) (run : Run) (logs later : List Logged) : Type 0 where
  pub answered : Answered tells run
  pub refused : IsTrue tells → RefusesExactly run
  pub left : IsTrue tells → LeavesFiles run logs later
  pub stops : IsTrue tells → TurnsStopSafely run
  pub stopped : IsTrue tells → SessionsStopSafely run
  pub told : IsTrue tells → LogsAreTold run logs later
  pub accounted : Accounted run

-- the run with these words and this status that led from one moment to another, over an input and an output that tell
-- what they have or don't
abbrev pub run_between : Bool → Bool → List (String Global) → ℕ → Outside → Outside → Run
run_between input_tells output_tells words status before after =
    run_by words before.held after.held before.faults after.faults (input_between input_tells before after) (output_between output_tells before after) status

-- a run led from one moment to another as it is promised
abbrev pub RanAsPromised : Bool → Bool → Bool → List (String Global) → ℕ → Outside → Outside → Type 0
RanAsPromised tells input_tells output_tells words status before after =
    Promise tells (run_between input_tells output_tells words status before after) before.logs after.logs
