-- The parts of a merge: its one opener joins, begins a transaction, stores the pairs one by one, and commits.
use Rattle.std.specs.Prelude.{◌≡◌, ◌⊎◌, ℕ, ◌<◌, ◌≤◌, Bool, IsTrue, false, List, [], ◌∷◌, None, Some, Result, Ok, Err}
use Rattle.std.specs.FinMap.{insert}
use Rattle.tdb_disk.specs.Count.{Rose}
use Rattle.tdb_disk.specs.History.{seen}
use Rattle.tdb_disk.specs.Stop.{LeavesOnly}
use Rattle.tdb_space.specs.Form.{Form}
use Rattle.tdb_space.specs.Opening.{restored}
use Rattle.tdb_law.specs.Commands.{Command, Reply}
use Rattle.tdb_law.specs.Commands.Command.{OnGroup}
use Rattle.tdb_law.specs.Commands.GroupCommand.{Commit}
use Rattle.tdb_law.specs.Commands.Reply.{Done}
use Rattle.tdb_law.specs.Commands.Turn.{Ends}
use Rattle.tdb_law.specs.Ends.{last_step}
use Rattle.tdb_law.specs.Images.{image_map}
use Rattle.tdb_law.specs.Openers.{Map, Own, Txn}
use Rattle.tdb_law.specs.Refusals.{refusal}
use Rattle.tdb_law.specs.Replay.{Replay, line_map, line_own}
use Rattle.tdb_law.specs.Standing.{Stands}
use Rattle.tdb_law.specs.World.{State, IsSound}
use Rattle.tdb_world.specs.Calm.{IsGroup, OpensToEither}
use Rattle.tdb_world.specs.OverFile.{OverFile, HasState}
use Rattle.tdb_world.specs.Stops.{IsSafe}
use Rattle.tdb_world.specs.Whole.{form_at}
use Rattle.tdb_merge.specs.Faults.{UnlessDevice, OnDevice}
use Rattle.tdb_merge.specs.declared.fault.MergeFault.{MergeFault}
use Rattle.tdb_merge.specs.declared.fault.MergeFault.TheVariants.{Full, Starved, Read, Device, Log, Memory}

-- a map with these pairs stored in it, one after the other
abbrev pub stored : Map → List (List ℕ × List ℕ) → Map
stored m [] = m
stored m (p ∷ given) = stored (insert m p.0 p.1) given

-- What the opener has between two commands: no transaction yet, or one whose image has this map; or it has committed.
pub data Phase : Type 0 where
  Outside Committed : Phase
  Inside : Map → Phase

-- it has an outer transaction, whose image has this map
pub record HasImage (m : Map) (x : Own) : Type 0 where
  pub txn : Txn
  pub has : x.txn ≡ Some txn
  pub image : txn.image ≡ m
  pub outer : txn.depth ≡ 1

abbrev pub IsIn : Phase → Own → Type 0
IsIn Outside x = x.txn ≡ None
IsIn (Inside m) x = HasImage m x
IsIn Committed x = Unit {0}

-- A moment between two commands: a state of the world, and a replay that stands for it, with this committed map. No
-- command has begun, no gate stands open, and the opener, which the law counts as 0, is in this phase.
pub record AtRest (m : Map) (phase : Phase) (w : OverFile) : Type 0 where
  pub state : State
  pub has : HasState w state
  pub sound : IsSound (form_at w.world) state
  pub replay : Replay
  pub stands : Stands (form_at w.world) state replay
  pub map : replay.map ≡ m
  pub begun : (o : ℕ) → replay.begun o ≡ None
  pub fresh : replay.stale ≡ false
  pub own : IsIn phase (replay.own 0)

-- What a command does by the law to the committed map m, where its opener is in a phase. Unless it is one on the
-- transaction it takes no step; a Commit brings an image with the map n; its end leaves m or n; and where it is done it
-- leaves this map and this phase.
pub record Does (m n : Map) (from : Phase) (end : Map) (to : Phase) (c : Command) : Type 0 where
  pub steps : (f : Form) (x : Own) → IsIn from x → (k : ℕ) → k < last_step f c x → IsGroup c
  pub commits : (x : Own) → IsIn from x → c ≡ OnGroup Commit → (t : Txn) → x.txn ≡ Some t → t.image ≡ n
  pub ends : (f : Form) (x : Own) → IsIn from x → (r : Reply) → (line_map f c x (Ends r) m ≡ m) ⊎ (line_map f c x (Ends r) m ≡ n)
  pub done_map : (f : Form) (x : Own) → IsIn from x → refusal f c x ≡ None → line_map f c x (Ends Done) m ≡ end
  pub done_own : (f : Form) (x : Own) → IsIn from x → refusal f c x ≡ None → (k : ℕ) → IsIn to (line_own f c x k (Ends Done) m)

-- the file of a world is read with this map, an open gate undone
abbrev pub IsReadWith : Map → OverFile → Type 0
IsReadWith m w = m ≡ image_map (form_at w.world) (restored (form_at w.world) (seen w.history))

-- What a part of a merge leaves, by its answer, where the committed map was m and is to become n: what it leads to; or
-- a file that is read with m, or, where a log failed or memory was wanting beside the commands, with m or n.
abbrev pub PartLeaves : Map → Map → Type 0 → OverFile → Result (Unit {0}) MergeFault → Type 0
PartLeaves m n Led w (Ok v) = Led
PartLeaves m n Led w (Err (Full len need)) = IsReadWith m w
PartLeaves m n Led w (Err Starved) = IsReadWith m w
PartLeaves m n Led w (Err Read) = IsReadWith m w
PartLeaves m n Led w (Err Device) = Unit {0}
PartLeaves m n Led w (Err Log) = IsReadWith m w ⊎ IsReadWith n w
PartLeaves m n Led w (Err Memory) = IsReadWith m w ⊎ IsReadWith n w

-- A part of a merge ran between two moments. Unless the disk failed the world isn't spent, its header stays, and the
-- count of faults is as it was.
pub record Ran (old new : OverFile) (answer : Result (Unit {0}) MergeFault) : Type 0 where
  pub header : UnlessDevice answer (new.world.openers.header ≡ old.world.openers.header)
  pub unspent : UnlessDevice answer (new.spent ≡ false)
  pub rises : old.faults ≤ new.faults
  pub quiet : UnlessDevice answer (new.faults ≡ old.faults)

-- It led from the committed map m and a phase to another map and phase, where all that is merged makes the map n of m.
-- From a safe file on each stop leaves a file that opens to m or to n, and unless the disk failed the file is safe
-- behind it.
pub record Led (tells : Bool) (m n : Map) (from : Phase) (end : Map) (to : Phase) (old new : OverFile) (answer : Result (Unit {0}) MergeFault) : Type 0 where
  pub left : IsTrue tells → AtRest m from old → PartLeaves m n (AtRest end to new) new answer
  pub stops : IsTrue tells → AtRest m from old → IsSafe (form_at old.world) old.history → LeavesOnly old.history new.history (OpensToEither (form_at old.world) m n)
  pub safe : IsTrue tells → AtRest m from old → IsSafe (form_at old.world) old.history → UnlessDevice answer (IsSafe (form_at old.world) new.history)
  pub rose : IsTrue tells → AtRest m from old → OnDevice answer (Rose old.faults new.faults)
