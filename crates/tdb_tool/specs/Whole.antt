-- A session from its beginning to its end, over an opened image.
use Rattle.std.specs.Prelude.{◌≡◌, ℕ, Bool, IsTrue, false, Option, None, Some, List, [], ◌∷◌, ◌++◌, Result, Ok, Err}
use Rattle.tdb_disk.specs.History.{History, seen}
use Rattle.tdb_disk.specs.Stop.{Quiet}
use Rattle.tdb_words.specs.Word.{word}
use Rattle.tdb_words.specs.Header.{sequence_at}
use Rattle.tdb_space.specs.Form.{Form}
use Rattle.tdb_space.specs.Opening.{Opens}
use Rattle.tdb_backup.specs.Dump.{WroteFront}
use Rattle.tdb_law.specs.Beginning.{IsLoaded, beginning}
use Rattle.tdb_law.specs.Images.{image_map}
use Rattle.tdb_law.specs.Lines.{Line as LawLine, IsLawful}
use Rattle.tdb_law.specs.Replay.{Replay}
use Rattle.tdb_law.specs.World.{State}
use Rattle.tdb_commands.specs.InLaw.{law_lines, options_of}
use Rattle.tdb_commands.specs.declared.command.Command.{Command}
use Rattle.tdb_commands.specs.declared.line.Line.{Line}
use Rattle.tdb_commands.specs.declared.play.Play.{Play}
use Rattle.tdb_world.specs.Died.{IsReadAs}
use Rattle.tdb_world.specs.Courses.Stops.{IsTransacted, OpensAndStays}
use Rattle.tdb_world.specs.Courses.Unfinished.{EndsWith}
use Rattle.tdb_commands.specs.declared.options.Options.{Options}
use Rattle.tdb_log.specs.Logs.{Logged}
use Rattle.tdb_world.specs.Loaded.{IsOver}
use Rattle.tdb_tool.specs.declared.fault.SessionEnd.{SessionEnd}
use Rattle.tdb_tool.specs.declared.fault.SessionFault.{SessionFault}
use Rattle.tdb_tool.specs.declared.fault.SessionFault.TheVariants as F
use Rattle.tdb_tool.specs.declared.order.Order.{Order}
use Rattle.tdb_tool.specs.Asking.{Session, BeginsBy}
use Rattle.tdb_tool.specs.Parts.{Part, Silent, doing, parts_of, AllDone, AllCame}
use Rattle.tdb_world.specs.Courses.Scene.{Scene, IsStateAt}
use Rattle.tdb_tool.specs.Calls.{TellsCalls}
use Rattle.tdb_tool.specs.Serving.{Deed, fault_of, is_broken, HeardSo, Led, AsksFor}

-- the part by which a session ends, and all parts of one: the opener joins, its orders are done, and it closes
abbrev pub closing : List Part
closing = Silent (doing Command.Close) ∷ []

abbrev pub session_parts : List Order → List Part
session_parts orders = (Silent Play.Join ∷ parts_of orders) ++ closing

-- The parts of a session were done by one that joins and closes: all of them where it ended, else as far as it came.
abbrev pub SessionDeed : List Order → Result SessionEnd SessionFault → Deed
SessionDeed orders (Ok end) = AllDone (session_parts orders)
SessionDeed orders (Err fault) = AllCame (session_parts orders)

-- where a session ended its one opener isn't live any more
abbrev pub IsClosed : Result SessionEnd SessionFault → Scene → Type 0
IsClosed (Ok end) s = (state : State) → IsStateAt s state → (state.own 0).live ≡ false
IsClosed (Err fault) s = Unit {0}

-- A session of what the text asks for led from one moment to another.
abbrev pub SessionLed : (disk_tells input_tells output_tells : Bool) (old new : Scene) (text : List ℕ) → Result SessionEnd SessionFault → Type 0
SessionLed d i o old new text answer =
    (orders : List Order) × (IsTrue i → AsksFor text orders answer) × Led d o (SessionDeed orders answer) (AllCame (session_parts orders)) old new (fault_of answer) × IsClosed answer new

-- the replay that begins with the map of an image
abbrev pub beginning_over : Form → Options → List ℕ → Replay
beginning_over f options img = beginning (options_of options) (image_map f img) (word f.order img sequence_at)

-- What stops leave while a session leads from one history of a file to another, by its lines from this state on. Where
-- all of the file was on the medium at first, and in no state that the lines pass an opener is in the middle of a
-- change outside a transaction, each stop leaves a file that opens to the map and the sequence number of a state that
-- they pass, or of the transaction whose Commit was just shutting its gate; and what they tell stays.
abbrev pub StopsOpen : Form → History → History → State → List LawLine → Type 0
StopsOpen f h k start lines = Quiet h → IsTransacted f start lines → OpensAndStays f h k start lines

-- All parts of a session were done over the image a, which is b after them, from a world just loaded, and their text
-- was printed; an open gate undone, b has the map of the state to which they led, in which the opener isn't live. Where
-- no command is unfinished b can be opened. The whole report, with the lines of what isn't done behind it, is lawful
-- from the map of a on. Stops meanwhile leave what is said of the lines from that world on, and of the lines more is
-- said: what logs heard of them, and which calls they tell.
pub record SessionOver (f : Form) (options : Options) (a : List ℕ) (orders : List Order) (b : List ℕ) (told : Bool) (before now : List ℕ) (Stops : State → List LawLine → Type 0)
    (Said : List Line → Type 0) : Type 0 where
  pub old : State
  pub loaded : IsLoaded f old (options_of options)
  pub over : IsOver f a old
  pub new : State
  pub lines : List Line
  pub text : List ℕ
  pub done : AllDone (session_parts orders) f old lines text new
  pub left : IsReadAs f b new
  pub closed : (new.own 0).live ≡ false
  pub more : List Line
  pub ends : EndsWith new more
  pub again : more ≡ [] → Opens b
  pub lawful : IsLawful f (beginning_over f options a) (law_lines (lines ++ more))
  pub printed : IsTrue told → now ≡ before ++ text
  pub stops : Stops old (law_lines lines)
  pub said : Said lines

-- The parts of a session came to a state, and a front of their text was printed. The lines so far are lawful. Stops
-- meanwhile leave what is said of these lines, and more is said of them.
pub record SessionCame (f : Form) (options : Options) (a : List ℕ) (orders : List Order) (new : State) (told : Bool) (before now : List ℕ) (Stops : State → List LawLine → Type 0)
    (Said : List Line → Type 0) : Type 0 where
  pub old : State
  pub loaded : IsLoaded f old (options_of options)
  pub over : IsOver f a old
  pub lines : List Line
  pub text : List ℕ
  pub came : AllCame (session_parts orders) f old lines text new
  pub lawful : IsLawful f (beginning_over f options a) (law_lines lines)
  pub printed : IsTrue told → WroteFront before text now
  pub stops : Stops old (law_lines lines)
  pub said : Said lines

-- The text begins by asking for orders, and a session of them came so far; an open gate undone, the image b has the map
-- of the state to which it came.
abbrev pub CameSo : Form → Options → List ℕ → List ℕ → Bool → List ℕ → Bool → List ℕ → List ℕ → (State → List LawLine → Type 0) → (List Line → Type 0) → Type 0
CameSo f options a b heard text told before now Stops Said =
    (orders : List Order) × (IsTrue heard → BeginsBy text orders) × (new : State) × SessionCame f options a orders new told before now Stops Said × IsReadAs f b new

-- What is said of the lines of a session that broke off so, if it did: what logs heard of them, and which calls they
-- tell, from one history of the file to another.
abbrev pub SaidSo : Form → Options → History → History → List Logged → List Logged → Option SessionFault → List Line → Type 0
SaidSo f options h k logs later answer lines = HeardSo answer logs lines later × TellsCalls f options h k (is_broken answer ≡ false) lines

-- A session over a file, from the moment of one history to that of another, by how it ended, with what stops meanwhile
-- leave, what logs heard that were as the first and became as the second, and which calls its lines tell. Where the
-- disk failed nothing is said of what is read of the file afterwards.
abbrev pub SessionRan : Form → Options → History → History → Bool → List ℕ → Bool → List ℕ → List ℕ → List Logged → List Logged → Result SessionEnd SessionFault → Type 0
SessionRan f options h k heard text told before now logs later (Ok end) =
    (orders : List Order) × (IsTrue heard → Session text orders end)
    × SessionOver f options (seen h) orders (seen k) told before now (StopsOpen f h k) (SaidSo f options h k logs later None)
SessionRan f options h k heard text told before now logs later (Err F.Input) =
    CameSo f options (seen h) (seen k) heard text told before now (StopsOpen f h k) (SaidSo f options h k logs later (Some F.Input))
SessionRan f options h k heard text told before now logs later (Err F.Output) =
    CameSo f options (seen h) (seen k) heard text told before now (StopsOpen f h k) (SaidSo f options h k logs later (Some F.Output))
SessionRan f options h k heard text told before now logs later (Err F.Device) =
    (orders : List Order) × (IsTrue heard → BeginsBy text orders) × (left : State)
    × SessionCame f options (seen h) orders left told before now (StopsOpen f h k) (SaidSo f options h k logs later (Some F.Device))
SessionRan f options h k heard text told before now logs later (Err F.Log) =
    CameSo f options (seen h) (seen k) heard text told before now (StopsOpen f h k) (SaidSo f options h k logs later (Some F.Log))
SessionRan f options h k heard text told before now logs later (Err F.Memory) =
    CameSo f options (seen h) (seen k) heard text told before now (StopsOpen f h k) (SaidSo f options h k logs later (Some F.Memory))
