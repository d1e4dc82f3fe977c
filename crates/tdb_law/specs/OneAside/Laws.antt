-- The laws of a world in which one opener is aside.
use Rattle.std.specs.Prelude.{ℕ, ◌+◌, ◌*◌, ◌≤◌, ◌<◌, ◌^◌, List, ◌≡◌, ◌≢◌, Bool, true, false, Option, Some, None}
use Rattle.tdb_space.specs.Form.{Form}
use Rattle.tdb_space.specs.Extents.{HandPair}
use Rattle.tdb_space.specs.Accepted.{AcceptWith}
use Rattle.tdb_law.specs.Commands.{WalkCommand, Command, Reply, Turn}
use Rattle.tdb_law.specs.Commands.GroupCommand.{Start, Commit}
use Rattle.tdb_law.specs.Commands.Command.{OnGroup, OnWalk}
use Rattle.tdb_law.specs.Commands.Reply.{Done, End}
use Rattle.tdb_law.specs.Commands.Turn.{Step, Blocked, Ends}
use Rattle.tdb_law.specs.Openers.{Own, Txn, Task, Mark, has}
use Rattle.tdb_law.specs.Refusals.{refusal}
use Rattle.tdb_law.specs.Rows.{is_changed}
use Rattle.tdb_law.specs.Ends.{waits}
use Rattle.tdb_law.specs.World.{State, IsSound}
use Rattle.tdb_law.specs.Effects.{IsFirstConflict}
use Rattle.tdb_law.specs.Turned.{Turned, want}
use Rattle.tdb_law.specs.Walks.{Lost, Shift}
use Rattle.tdb_law.specs.Images.{image_map}
use Rattle.tdb_law.specs.Layout.{Place, IsOffRecords, chains_in, mark_of}
use Rattle.tdb_law.specs.Events.{Joins, Dies, Given}
use Rattle.tdb_law.specs.OneAside.Sides.{Past, Side, but_at, alone, beside, whole, IsPlain, StandsAside}
use Rattle.tdb_law.specs.OneAside.Events.{StandsBy, IsElse}
use Rattle.tdb_law.specs.OneAside.Shutting.{HasRecords, IsShutOut}
use Rattle.tdb_law.specs.OneAside.Passing.{HeadsTell, IsAtMove, IsBeforeChain, IsFirstHead, with_halt, without_walk}
use Rattle.tdb_law.specs.OneAside.Starts.{with_starts, MayStart}
use Rattle.tdb_law.specs.OneAside.Turns.{IsApart, IsUngrouped, IsClear, past_after, EndsAtOnce, without_task, LeavesNothing, IsLeave, without_cursor}

-- In a sound world that isn't stale, a command that waits, of which the file doesn't have the change, and that meets a
-- conflict has taken a turn by being blocked, and nothing has changed.
abbrev pub WaitingIsTurned : Type 0
WaitingIsTurned = (f : Form) (w : State) (who : ℕ) (t : Task) (owner byte : ℕ) → IsSound f w → w.stale ≡ false → w.task who ≡ Some t → waits t.command ≡ true
    → is_changed f t.command (w.own who) t.steps ≡ false → IsFirstConflict w.table who (want f w who t) owner byte → Turned f w who t (Blocked owner byte) w

-- So has a command that ends at its first turn and changes nothing, where no block has let go of its locks.
abbrev pub EndIsTurned : Type 0
EndIsTurned = (f : Form) (w : State) (who : ℕ) (t : Task) (r : Reply) → IsSound f w → w.stale ≡ false → w.task who ≡ Some t → t.steps ≡ 0 → (w.spot who).gone ≡ false
    → EndsAtOnce f w who t r → Turned f w who t (Ends r) (without_task w who)

-- So has an EndWalk or a Close that is done at its first turn, where the cursor stands on no record: the cursor has
-- ended, and by a Close the opener, which holds nothing any more.
abbrev pub LeavingIsTurned : Type 0
LeavingIsTurned = (f : Form) (w : State) (who : ℕ) (t : Task) (c : WalkCommand) → IsSound f w → w.stale ≡ false → w.task who ≡ Some t → t.steps ≡ 0 → t.command ≡ OnWalk c → IsLeave c → LeavesNothing w who
    → Turned f w who t (Ends Done) (without_cursor c w who)

-- A turn of an opener that isn't aside, of a command that begins and ends no transaction, is a turn of the whole world
-- where nobody is aside.
abbrev pub AloneTurns : Type 0
AloneTurns = (f : Form) (p later : State) (past : Past) (who : ℕ) (t : Task) (turn : Turn) → IsPlain p → IsApart (refusal f t.command (p.own who)) t.command → Turned f p who t turn later
    → IsPlain later × Turned f (alone p past) who t turn (alone later (past_after f p who t turn past))

-- So it is where an opener is aside that is no matter to the command. Of the bytes below the records it may hold any,
-- since such a command wants none of them but that of the sequence number.
abbrev pub BesideTurns : Type 0
BesideTurns = (f : Form) (p later : State) (past : Past) (s : Side) (who : ℕ) (t : Task) (turn : Turn) → IsSound f (beside p past s) → IsPlain p → StandsAside p s → IsClear f p s who t → who ≢ s.here
    → IsApart (refusal f t.command (p.own who)) t.command → Turned f p who t turn later
    → IsPlain later × StandsAside later s × Turned f (beside p past s) who t turn (beside later (past_after f p who t turn past) s)

-- An opener that joins the plain world joins the whole world, where nobody at all holds the opening lock, whoever is
-- aside.
abbrev pub JoinsBeside : Type 0
JoinsBeside = (f : Form) (p later : State) (past : Past) (side : Option Side) (who : ℕ) → StandsBy p side → ((o : ℕ) → (whole p past side).table o 0 ≡ 0) → Joins f p who later
    → StandsBy later side × Joins f (whole p past side) who (whole later past side)

-- So it is with a command that is given to an opener that isn't aside, and with the death of one.
abbrev pub GivenBeside : Type 0
GivenBeside = (p later : State) (past : Past) (side : Option Side) (who : ℕ) (c : Command) → StandsBy p side → IsElse side who → Given p who c later
    → StandsBy later side × Given (whole p past side) who c (whole later past side)

abbrev pub DiesBeside : Type 0
DiesBeside = (f : Form) (p later : State) (past : Past) (side : Option Side) (who : ℕ) → StandsBy p side → IsElse side who → Dies f p who later
    → StandsBy later side × Dies f (whole p past side) who (whole later past side)

-- Where a commit puts another image into the file, a walk that stands on no record shifts: each key further on that the
-- new image has is further on still.
abbrev pub CommitShifts : Type 0
CommitShifts = (f : Form) (a b : List ℕ) (hands : List HandPair) (place : Place) → AcceptWith f b hands → IsOffRecords place
    → Shift f (λ k. has (image_map f b) k ≡ false) (mark_of f (chains_in f a) place) (mark_of f (chains_in f b) place)

-- So it does by the step after which the file has the change of a Commit, whose image has that map: others' walks lose
-- no key but by it.
abbrev pub GateShifts : Type 0
GateShifts = (f : Form) (x : Own) (txn : Txn) (n : ℕ) (a b : List ℕ) (hands : List HandPair) (place : Place) → x.txn ≡ Some txn → txn.image ≡ image_map f b → is_changed f (OnGroup Commit) x (n + 1) ≡ true
    → AcceptWith f b hands → IsOffRecords place
    → Shift f (Lost f (OnGroup Commit) n x Step false (mark_of f (chains_in f a) place)) (mark_of f (chains_in f a) place) (mark_of f (chains_in f b) place)

-- Who is aside holds all records, for reading at least, once it has had its two locks.
abbrev pub RecordsAreHeld : Type 0
RecordsAreHeld = (f : Form) (p : State) (past : Past) (s : Side) (b : ℕ) → IsSound f (beside p past s) → HasRecords f s → 168 ≤ b → b < 2 ^ 63 → 1 ≤ s.table b

-- What it holds no other opener holds for writing.
abbrev pub OthersOnlyRead : Type 0
OthersOnlyRead = (f : Form) (p : State) (past : Past) (s : Side) (who b : ℕ) → IsSound f (beside p past s) → who ≢ s.here → 1 ≤ s.table b → p.table who b ≤ 1

-- And while it shuts the others out they hold no record at all.
abbrev pub OthersAreShutOut : Type 0
OthersAreShutOut = (f : Form) (p : State) (past : Past) (s : Side) (who : ℕ) → IsSound f (beside p past s) → StandsAside p s → s.shuts ≡ true → who ≢ s.here → IsShutOut f p who

-- So a command that wants a record, and no byte below, meets the opener aside there, and nobody before.
abbrev pub ShutOutMeets : Type 0
ShutOutMeets = (f : Form) (p : State) (past : Past) (s : Side) (who : ℕ) (t : Task) (byte : ℕ) → IsSound f (beside p past s) → StandsAside p s → s.shuts ≡ true → who ≢ s.here → IsUngrouped t.command
    → 168 ≤ byte → byte < 2 ^ 63 → 1 ≤ want f (beside p past s) who t byte → ((b : ℕ) → b < byte → want f (beside p past s) who t b ≡ 0)
    → IsFirstConflict (beside p past s).table who (want f (beside p past s) who t) s.here byte

-- A move that is shut out passes over the chains whose heads are 0, from the one on that its walk enters next. Where no
-- other chain is left it ends, and its walk with it,
abbrev pub ShutOutEnds : Type 0
ShutOutEnds = (f : Form) (p : State) (past : Past) (s : Side) (who : ℕ) (t : Task) (m : Mark) → IsSound f (beside p past s) → IsPlain p → s.shuts ≡ true → who ≢ s.here → p.task who ≡ Some t → IsAtMove f p who t
    → HeadsTell f p.file s → ((b : ℕ) → 168 + 4 * (p.mark who).reached ≤ b → s.heads b ≡ false) → Turned f (beside p past s) who t (Ends End) (beside (without_walk p who m) past s)

-- and else it is blocked before the first one, where its walk stands then.
abbrev pub ShutOutHalts : Type 0
ShutOutHalts = (f : Form) (p : State) (past : Past) (s : Side) (who : ℕ) (t : Task) (m : Mark) (chain : ℕ) → IsSound f (beside p past s) → IsPlain p → StandsAside p s → s.shuts ≡ true → who ≢ s.here → p.task who ≡ Some t → IsAtMove f p who t
    → HeadsTell f p.file s → IsFirstHead f s (p.mark who).reached chain → IsBeforeChain f p.file chain m → Turned f (beside p past s) who t (Blocked s.here (168 + 4 * chain)) (beside (with_halt p who m) past s)

-- Where openers that are live and have no command are given a Start, the state is as sound as it was before a step of
-- it, also beside an opener that is aside.
abbrev pub StartsAreSound : Type 0
StartsAreSound = (f : Form) (p : State) (starts : ℕ → Bool) → MayStart starts p → IsSound f p → IsSound f (with_starts starts p)

abbrev pub WholeStartsAreSound : Type 0
WholeStartsAreSound = (f : Form) (p : State) (past : Past) (side : Option Side) (starts : ℕ → Bool) → MayStart starts p → IsSound f (whole p past side) → IsSound f (whole (with_starts starts p) past side)

-- It is as plain, and who stands aside and isn't one of them goes on to.
abbrev pub StartsArePlain : Type 0
StartsArePlain = (p : State) (starts : ℕ → Bool) → IsPlain p → IsPlain (with_starts starts p)

abbrev pub StartsStandAside : Type 0
StartsStandAside = (p : State) (starts : ℕ → Bool) (s : Side) → starts s.here ≡ false → StandsAside p s → StandsAside (with_starts starts p) s

-- A turn of another opener is the same turn beside such Starts, whose openers go on to have no other command.
abbrev pub StartsTurn : Type 0
StartsTurn = (f : Form) (p later : State) (starts : ℕ → Bool) (who : ℕ) (t : Task) (turn : Turn) → MayStart starts p → starts who ≡ false → Turned f p who t turn later
    → MayStart starts later × Turned f (with_starts starts p) who t turn (with_starts starts later)

-- So it is when another opener joins, is given a command or dies.
abbrev pub StartsJoin : Type 0
StartsJoin = (f : Form) (p later : State) (starts : ℕ → Bool) (who : ℕ) → MayStart starts p → starts who ≡ false → Joins f p who later
    → MayStart starts later × Joins f (with_starts starts p) who (with_starts starts later)

abbrev pub StartsGiven : Type 0
StartsGiven = (p later : State) (starts : ℕ → Bool) (who : ℕ) (c : Command) → MayStart starts p → starts who ≡ false → Given p who c later
    → MayStart starts later × Given (with_starts starts p) who c (with_starts starts later)

abbrev pub StartsDie : Type 0
StartsDie = (f : Form) (p later : State) (starts : ℕ → Bool) (who : ℕ) → MayStart starts p → starts who ≡ false → Dies f p who later
    → MayStart starts later × Dies f (with_starts starts p) who (with_starts starts later)

-- One more opener that is live and has no command is given a Start.
abbrev pub StartIsGiven : Type 0
StartIsGiven = (p : State) (starts : ℕ → Bool) (who : ℕ) → MayStart starts p → starts who ≡ false → (p.own who).live ≡ true → p.task who ≡ None
    → MayStart (but_at who true starts) p × Given (with_starts starts p) who (OnGroup Start) (with_starts (but_at who true starts) p)

-- Where the command of one of them ends and nothing else changes, the others still have their Start.
abbrev pub StartEnds : Type 0
StartEnds = (p : State) (starts : ℕ → Bool) (who : ℕ) → p.task who ≡ None
    → without_task (with_starts starts p) who ≡ with_starts (but_at who false starts) p

-- An opener that is aside has its own command there, so a Start that it had before is no matter.
abbrev pub AsideHidesStart : Type 0
AsideHidesStart = (p : State) (past : Past) (s : Side) (starts : ℕ → Bool)
    → beside (with_starts starts p) past s ≡ beside (with_starts (but_at s.here false starts) p) past s
