-- What a stop at any moment of a session leaves of its file, and by which lines this is said.
use Rattle.std.specs.Prelude.{◌≡◌, ℕ, Bool, IsTrue, Option, Some, List}
use Rattle.tdb_disk.specs.Count.{Rose}
use Rattle.tdb_disk.specs.History.{History, seen}
use Rattle.tdb_space.specs.Form.{form_of}
use Rattle.tdb_law.specs.World.{State}
use Rattle.tdb_cmdline.specs.declared.ask.Task.TheVariants.{Session}
use Rattle.tdb_tool.specs.Asking.{BeginsBy}
use Rattle.tdb_tool.specs.Whole.{SessionCame}
use Rattle.tdb_tool.specs.declared.order.Order.{Order}
use Rattle.tdb_answer.specs.Calls.{TellsCallsSince}
use Rattle.tdb_answer.specs.Commands.Session.{session_options}
use Rattle.tdb_open.specs.Loading.{OpensToTurn}
use Rattle.tdb_answer.specs.Input.{Input}
use Rattle.tdb_open.specs.Opening.{opened_bytes}
use Rattle.tdb_answer.specs.Run.{Run}
use Rattle.tdb_answer.specs.Safe.{StopsSince, IsLeftAs}
use Rattle.tdb_answer.specs.Stops.{WroteLine}

-- The text of the input begins by asking for orders, and a session of them came so far, from a world just loaded over
-- the bytes that the file was read as at first; a front of its text was printed. Its lines tell the calls that were
-- made on the file, of which each turn ends with Full exactly where there is no room. Where the disk is sound, it came
-- to a state as whose file what is left is read. Where in no state that its lines pass an opener is in the middle of a
-- change outside a transaction, and all of the file was on the medium at first, every stop since then leaves a file
-- that opens to the map and the sequence number of a state that they pass, or of the transaction whose Commit was just
-- shutting its gate; and what they tell stays. A file whose gate was open at first has to be one whose undo changes no
-- byte by which its header is known.
abbrev pub StopsOfSession : ℕ → Input → History → History → Bool → Type 0 → List ℕ → List ℕ → Type 0
StopsOfSession limit input old now told sound before after =
    (orders : List Order) × (IsTrue input.tells → BeginsBy input.text orders) × (new : State) × (sound → IsLeftAs (form_of (opened_bytes (seen old))) (seen now) new)
    × SessionCame (form_of (opened_bytes (seen old))) (session_options limit) (opened_bytes (seen old)) orders new told before after (StopsSince (form_of (opened_bytes (seen old))) old now)
    (TellsCallsSince (session_options limit) old now sound)

-- So it is of a file that is opened for a session, however that ends.
abbrev pub StopsServed : ℕ → Input → Option History → Option History → Bool → Type 0 → List ℕ → List ℕ → Type 0
StopsServed limit input held left told sound before after =
    (old : History) → held ≡ Some old → OpensToTurn (session_options limit) (seen old) → (now : History) × (left ≡ Some now) × StopsOfSession limit input old now told sound before after

-- And of a run that was asked for a session: behind the replies the line of its ending is printed. The disk is sound
-- where the count of the files' faults didn't rise.
abbrev pub SessionsStopSafely : Run → Type 0
SessionsStopSafely run =
    (limit : ℕ) (name : List ℕ) → run.ask ≡ Some (record { file = name; task = Session limit })
    → (text : List ℕ) × (IsTrue run.output.tells → WroteLine text run.output.after)
    × StopsServed limit run.input (run.old name) (run.now name) run.output.tells (Rose run.faults_before run.faults_after → ⊥) run.output.before text
