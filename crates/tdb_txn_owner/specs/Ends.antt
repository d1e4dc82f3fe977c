-- The turns that begin and end a transaction are turns of the opener aside, by what the machines of `tdb_txn_turns`
-- promise of one turn; and so is each turn of a command inside a transaction, by what `tdb_txn_turns` says of it.
use Rattle.std.specs.Prelude.{ℕ, ◌≡◌, ◌≢◌, ◌≤◌, ◌<◌, ◌&&◌, ◌==◌, List, [], Bool, true, false, Some, None, is_some, if◌then◌else◌}
use Rattle.tdb_space.specs.Form.{Form}
use Rattle.tdb_locks.specs.declared.piece.Piece.{Piece}
use Rattle.tdb_law.specs.Commands.{Command, GroupCommand, Reply, Turn}
use Rattle.tdb_law.specs.Commands.GroupCommand.{Start, Commit, Prepare, Cancel}
use Rattle.tdb_law.specs.Commands.WalkCommand.{Close}
use Rattle.tdb_law.specs.Commands.Command.{OnGroup, OnWalk}
use Rattle.tdb_law.specs.Commands.Reply.{Done}
use Rattle.tdb_law.specs.Commands.Turn.{Step, Blocked, Ends}
use Rattle.tdb_law.specs.Openers.{Map, Mark, Own, Task, Txn, closed, ended, nowhere}
use Rattle.tdb_law.specs.Refusals.{Refusal, refusal, says}
use Rattle.tdb_law.specs.Rows.{commits_in, start_locks}
use Rattle.tdb_law.specs.Outcomes.{begun_txn, moves}
use Rattle.tdb_law.specs.Held.{holding, kept, txn_held}
use Rattle.tdb_law.specs.World.{State}
use Rattle.tdb_law.specs.Effects.{IsFree, task_left}
use Rattle.tdb_law.specs.Walks.{Lost, Shift, Walked}
use Rattle.tdb_steps.specs.Holdings.{table_of}
use Rattle.tdb_txn_turns.specs.Holding.{RowTurned}
use Rattle.tdb_txn_turns.specs.Starts.{start_steps, start_turn, StartLeads}
use Rattle.tdb_txn_turns.specs.Prepares.{prepare_row, prepare_steps, prepare_turn, start_held, PrepareLeads}
use Rattle.tdb_txn_turns.specs.Finishes.{finish_steps, finish_turn, FinishLeads}
use Rattle.tdb_txn_turns.specs.Committings.{commit_row, commit_steps, commit_turn, CommitLeads, IsNumbered}
use Rattle.tdb_txn_turns.specs.Laws.{HasChange, HasPlan}
use Rattle.tdb_txn_turns.specs.declared.starting.Starting.{Starting}
use Rattle.tdb_txn_turns.specs.declared.starting.StartTurn.{StartTurn}
use Rattle.tdb_txn_turns.specs.declared.preparing.Preparing.{Preparing}
use Rattle.tdb_txn_turns.specs.declared.preparing.PrepareTurn.{PrepareTurn}
use Rattle.tdb_txn_turns.specs.declared.finishing.Finishing.{Finishing}
use Rattle.tdb_txn_turns.specs.declared.finishing.FinishTurn.{FinishTurn}
use Rattle.tdb_txn_turns.specs.declared.committing.Committing.{Committing}
use Rattle.tdb_txn_turns.specs.declared.committing.CommitTurn.{CommitTurn}
use Rattle.tdb_txn_turns.specs.InsideTxn.Laws.{IsEnd}
use Rattle.tdb_txn_turns.specs.InsideTxn.Turns.{EndsInside, TurnsInside}
use Rattle.tdb_law.specs.OneAside.Sides.{Past, Side}
use Rattle.tdb_law.specs.OneAside.Own.{OwnTurned, ShowsSide, side_wants}

-- a command that has had so many steps
abbrev pub task_of : Command → ℕ → Task
task_of c n = record { command = c; steps = n }

-- a turn is blocked
abbrev pub IsBlocked : Turn → Type 0
IsBlocked (Blocked owner byte) = Unit {0}
IsBlocked turn = ⊥

-- Before a turn the side has x and this task. No dead record waits for its cursor, and no other opener's locks conflict
-- with what the turn wants.
pub record TurnBegins (f : Form) (table : ℕ → ℕ → ℕ) (s : Side) (x : Own) (t : Task) : Type 0 where
  pub own : s.own ≡ x
  pub task : s.task ≡ Some t
  pub keeps : s.view.must ≡ false
  pub free : IsFree table s.here (side_wants f s t)

-- After this turn of the task the same opener has y, and what is left of the task. Whether the world is settled, and
-- the number of its image are these; of all others' images the number stays.
pub record TurnLeaves (old new : Past) (s z : Side) (t : Task) (turn : Turn) (y : Own) (is_settled : Bool) (image_number : ℕ) : Type 0 where
  pub here : z.here ≡ s.here
  pub own : z.own ≡ y
  pub task : z.task ≡ task_left t.command t.steps turn
  pub settled : new.settled ≡ is_settled
  pub number : new.numbers s.here ≡ image_number
  pub others : (o : ℕ) → o ≢ s.here → new.numbers o ≡ old.numbers o

-- what a side holds is what this owner holds in a lock table
abbrev pub HoldsIn : List Piece → ℕ → Side → Type 0
HoldsIn ps owner s = (b : ℕ) → s.table b ≡ table_of ps owner b

-- The walk of the opener's cursor stays where it is, but where the turn ends a command and leaves no cursor.
abbrev pub MarkRests : Own → Turn → Mark → Mark → Type 0
MarkRests y (Ends r) mark later = is_some y.cursor ≡ true → later ≡ mark
MarkRests y turn mark later = later ≡ mark

-- The opener has this transaction, no other within it, and its own state doesn't refuse this command.
pub record IsOuter (f : Form) (x : Own) (t : Txn) (g : GroupCommand) : Type 0 where
  pub has : x.txn ≡ Some t
  pub outer : t.depth ≡ 1
  pub granted : refusal f (OnGroup g) x ≡ None

-- A Start, where the file has map m and number q: its end leaves a transaction on that map, with that number, and a
-- settled world.
abbrev pub started : Turn → Own → Map → Own
started (Ends Done) x m = record x { txn = Some (begun_txn x m) }
started turn x m = x

abbrev pub start_settles : Turn → Bool → Bool
start_settles (Ends Done) settled = true
start_settles turn settled = settled

abbrev pub start_number : Turn → ℕ → ℕ → ℕ
start_number (Ends Done) q p = q
start_number turn q p = p

-- Each turn of a Start that isn't blocked, of an opener that has no transaction and keeps no lock. It has no cursor, so
-- of the mark of its walk nothing is asked after the end.
abbrev pub StartIsOwn : Type 0
StartIsOwn = (f g : Form) (table : ℕ → ℕ → ℕ) (m : Map) (q len owner : ℕ) (old new : Past) (s z : Side) (x : Own) (start : Starting) (turn : StartTurn) (ps rs : List Piece)
    → let t = task_of (OnGroup Start) (start_steps start) in let u = start_turn turn in
    x.txn ≡ None → refusal f (OnGroup Start) x ≡ None → ((b : ℕ) → kept f x nowhere b ≡ 0) → (IsBlocked u → ⊥)
    → StartLeads g len start turn → RowTurned true start_locks (λ b. 0) owner t.steps ps rs u → HoldsIn rs owner z
    → TurnBegins f table s x t → TurnLeaves old new s z t u (started u x m) (start_settles u old.settled) (start_number u q (old.numbers s.here))
    → (u ≡ Step → z.mark ≡ s.mark) → OwnTurned f table m m q q old new s z t u

-- A turn after so many steps shuts the gate of a commit, whose last step but this had so many.
abbrev pub shuts : ℕ → ℕ → Turn → Bool
shuts last n Step = n == last
shuts last n turn = false

-- A transaction's image, with number p, is in the file: that has its map m, and where its changes count its number q.
pub record IsInFile (t : Txn) (p : ℕ) (m : Map) (q : ℕ) : Type 0 where
  pub map : t.image ≡ m
  pub number : t.numbered ≡ true → q ≡ p

-- What such a turn does to the file, which has map m and number q before it, and mm and qq after it: where it shuts the
-- gate it brings the image, and its number where changes count. A commit with a change is done where the image is in
-- the file.
pub record CommitsFile (last n : ℕ) (turn : Turn) (t : Txn) (p : ℕ) (m mm : Map) (q qq : ℕ) : Type 0 where
  pub map : mm ≡ (if shuts last n turn then t.image else m)
  pub number : qq ≡ (if shuts last n turn && t.numbered then p else q)
  pub done : turn ≡ Ends Done → commits_in t ≡ true → IsInFile t p m q

-- with its end a Commit ends the transaction
abbrev pub committed : Turn → Own → Own
committed (Ends r) x = ended x
committed turn x = x

-- Each turn of an outer Commit that isn't blocked, of a transaction that isn't prepared; its eighth turn shuts the
-- gate. It leaves no cursor at its end.
abbrev pub CommitIsOwn : Type 0
CommitIsOwn = (f : Form) (table : ℕ → ℕ → ℕ) (m mm : Map) (q qq owner : ℕ) (old new : Past) (s z : Side) (x : Own) (txn : Txn) (c : Committing) (turn : CommitTurn) (ps rs : List Piece)
    → let t = task_of (OnGroup Commit) (commit_steps c) in let u = commit_turn turn in
    IsOuter f x txn Commit → txn.prepared ≡ None → (IsBlocked u → ⊥)
    → HasChange txn c → IsNumbered c txn.numbered → CommitLeads c turn → RowTurned false (commit_row c txn.numbered) start_held owner t.steps ps rs u → HoldsIn rs owner z
    → CommitsFile 7 t.steps u txn (old.numbers s.here) m mm q qq
    → TurnBegins f table s x t → TurnLeaves old new s z t u (committed u x) old.settled (old.numbers s.here) → (u ≡ Step → z.mark ≡ s.mark)
    → OwnTurned f table m mm q qq old new s z t u

-- A Prepare that is done leaves a prepared transaction, with the steps that it had; one without room or memory ends the
-- transaction.
abbrev pub prepared : Turn → Own → Txn → ℕ → Own
prepared (Ends Done) x txn n = record x { txn = Some (record txn { prepared = Some n }) }
prepared (Ends r) x txn n = ended x
prepared turn x txn n = x

-- Each turn of an outer Prepare that isn't blocked.
abbrev pub PrepareIsOwn : Type 0
PrepareIsOwn = (f : Form) (table : ℕ → ℕ → ℕ) (m : Map) (q owner : ℕ) (old new : Past) (s z : Side) (x : Own) (txn : Txn) (p : Preparing) (turn : PrepareTurn) (ps rs : List Piece)
    → let t = task_of (OnGroup Prepare) (prepare_steps p) in let u = prepare_turn turn in
    IsOuter f x txn Prepare → (IsBlocked u → ⊥)
    → HasPlan txn p.stage → p.numbered ≡ txn.numbered → PrepareLeads p turn → RowTurned true (prepare_row p) start_held owner t.steps ps rs u → HoldsIn rs owner z
    → TurnBegins f table s x t → TurnLeaves old new s z t u (prepared u x txn t.steps) old.settled (old.numbers s.here) → MarkRests (prepared u x txn t.steps) u s.mark z.mark
    → OwnTurned f table m m q q old new s z t u

-- Each turn of a Commit after a Prepare that opened the gate; its third turn shuts it.
abbrev pub FinishIsOwn : Type 0
FinishIsOwn = (f : Form) (table : ℕ → ℕ → ℕ) (m mm : Map) (q qq owner steps : ℕ) (old new : Past) (s z : Side) (x : Own) (txn : Txn) (c : Finishing) (turn : FinishTurn) (ps rs : List Piece)
    → let t = task_of (OnGroup Commit) (finish_steps c) in let u = finish_turn turn in
    IsOuter f x txn Commit → txn.prepared ≡ Some steps → 4 ≤ steps → commits_in txn ≡ true
    → FinishLeads c turn → RowTurned false [] (txn_held txn) owner t.steps ps rs u → HoldsIn rs owner z
    → CommitsFile 2 t.steps u txn (old.numbers s.here) m mm q qq
    → TurnBegins f table s x t → TurnLeaves old new s z t u (committed u x) old.settled (old.numbers s.here) → (u ≡ Step → z.mark ≡ s.mark)
    → OwnTurned f table m mm q qq old new s z t u

-- A Commit after a Prepare that found nothing to commit is done at once, and lets go of all that the opener holds.
abbrev pub NothingIsOwn : Type 0
NothingIsOwn = (f : Form) (table : ℕ → ℕ → ℕ) (m : Map) (q steps : ℕ) (old new : Past) (s z : Side) (x : Own) (txn : Txn)
    → let t = task_of (OnGroup Commit) 0 in
    IsOuter f x txn Commit → txn.prepared ≡ Some steps → steps < 4 → (commits_in txn ≡ true → IsInFile txn (old.numbers s.here) m q) → ((b : ℕ) → z.table b ≡ 0)
    → TurnBegins f table s x t → TurnLeaves old new s z t (Ends Done) (ended x) old.settled (old.numbers s.here) → OwnTurned f table m m q q old new s z t (Ends Done)

-- The end of a transaction without a commit, in one turn, by which the opener lets go of all that it holds.
abbrev pub EndIsOwn : Type 0
EndIsOwn = (f : Form) (table : ℕ → ℕ → ℕ) (m : Map) (q : ℕ) (old new : Past) (s z : Side) (x : Own) (txn : Txn) (g : GroupCommand) (r : Reply)
    → let t = task_of (OnGroup g) 0 in
    x.txn ≡ Some txn → EndsInside f x (OnGroup g) q (old.numbers s.here) r → ((b : ℕ) → z.table b ≡ 0)
    → TurnBegins f table s x t → TurnLeaves old new s z t (Ends r) (ended x) old.settled (old.numbers s.here) → OwnTurned f table m m q q old new s z t (Ends r)

-- So does a Cancel end an outer transaction, prepared or not; and a refused Commit or Prepare.
abbrev pub CancelEnds : Type 0
CancelEnds = (f : Form) (x : Own) (txn : Txn) (n p : ℕ) → x.txn ≡ Some txn → txn.depth ≡ 1 → EndsInside f x (OnGroup Cancel) n p Done

abbrev pub RefusalEnds : Type 0
RefusalEnds = (f : Form) (x : Own) (txn : Txn) (c : Command) (why : Refusal) (n p : ℕ) → x.txn ≡ Some txn → txn.depth ≡ 1 → IsEnd c → refusal f c x ≡ Some why → EndsInside f x c n p (says x why)

-- A Close of an opener with a transaction ends that, however deep it is, and the opener.
abbrev pub CloseIsOwn : Type 0
CloseIsOwn = (f : Form) (table : ℕ → ℕ → ℕ) (m : Map) (q : ℕ) (old new : Past) (s z : Side) (x : Own) (txn : Txn)
    → let t = task_of (OnWalk Close) 0 in
    x.txn ≡ Some txn → ((b : ℕ) → z.table b ≡ 0)
    → TurnBegins f table s x t → TurnLeaves old new s z t (Ends Done) (closed x) old.settled (old.numbers s.here) → OwnTurned f table m m q q old new s z t (Ends Done)

-- The opener holds what it should, which is what it holds among all, and goes on to hold it.
pub record GoesOnHolding (f : Form) (table : ℕ → ℕ → ℕ) (s z : Side) : Type 0 where
  pub in_table : (b : ℕ) → table s.here b ≡ s.table b
  pub holds : (b : ℕ) → s.table b ≡ holding f s.own nowhere s.task b
  pub goes_on : (b : ℕ) → z.table b ≡ s.table b

-- A command inside a transaction, done in one turn, that does to the walk of the opener's own cursor what the law
-- wants.
abbrev pub InsideIsOwn : Type 0
InsideIsOwn = (f : Form) (table : ℕ → ℕ → ℕ) (m : Map) (n q : ℕ) (old new : Past) (s z : Side) (x y : Own) (txn : Txn) (c : Command) (r : Reply)
    → let t = task_of c 0 in
    x.txn ≡ Some txn → TurnsInside f x y c n (old.numbers s.here) q r → GoesOnHolding f table s z
    → ((w v : State) → ShowsSide w s m → ShowsSide v z m → Walked f w v s.here c 0 (Ends r))
    → TurnBegins f table s x t → TurnLeaves old new s z t (Ends r) y old.settled q → OwnTurned f table m m n n old new s z t (Ends r)

-- So does one that is no move, where the walk shifts as by its own command, or the opener has no cursor afterwards.
abbrev pub WalkShifts : Type 0
WalkShifts = (f : Form) (m mm : Map) (s z : Side) (x y : Own) (c : Command) (n : ℕ) (r : Reply)
    → s.own ≡ x → z.own ≡ y → z.here ≡ s.here → moves f c x ≡ false → (is_some y.cursor ≡ true → Shift f (Lost f c n x (Ends r) true s.mark) s.mark z.mark)
    → (w v : State) → ShowsSide w s m → ShowsSide v z mm → Walked f w v s.here c n (Ends r)
