-- What two files hold once a key was moved from one into the other, and what a move leaves of them.
use Rattle.std.specs.Prelude.{◌≡◌, ℕ, if◌then◌else◌, Option, None, IsSome, List, Result, Ok, Err}
use Rattle.tdb_disk.specs.History.{History, seen}
use Rattle.tdb_disk.specs.Stop.{LeavesOnly, Quiet}
use Rattle.tdb_space.specs.Form.{Form}
use Rattle.tdb_space.specs.Pairs.{map_of, same_key}
use Rattle.tdb_merge.specs.Merged.{Holding, OpensHoldingEither, StopsHolding}
use Rattle.tdb_move.specs.declared.fault.MoveFault.{MoveFault}
use Rattle.tdb_move.specs.declared.fault.MoveFault.TheVariants.{KeyMissing, Full, Device, Log, Memory}

-- what is held once this was put under a key in place of what was there, or nothing
abbrev pub put : Holding → List ℕ → Option (List ℕ) → Holding
put held key value other = if same_key key other then value else held other

-- What two files hold, the one that has the key and the other, which are read in these forms; and what they hold once
-- it was moved: the first has lost it, the other has it with the value that the first gave it, and all other keys are
-- as they were.
pub record Both : Type 0 where
  pub from : Holding
  pub into : Holding

abbrev pub both_of : Form → Form → History → History → Both
both_of f g from into = record { from = map_of f (seen from); into = map_of g (seen into) }

abbrev pub moved : List ℕ → Both → Both
moved key b = record { from = put b.from key None; into = put b.into key (b.from key) }

-- a stop now leaves of each only what opens to what it holds
pub record BothStay (f g : Form) (b : Both) (from into : History) : Type 0 where
  pub from_stays : StopsHolding f b.from from
  pub into_stays : StopsHolding g b.into into

-- What a move leaves by its answer, and what that says of the key. Done, the first file had the key, and both are as
-- moved. Where it hadn't, or one had no room, both are as they were. After a failed call of a disk nothing is said, but
-- of stops.
abbrev pub MoveLeaves : Form → Form → List ℕ → Both → History → History → Result (Unit {0}) MoveFault → Type 0
MoveLeaves f g key b from into (Ok v) = IsSome (b.from key) × BothStay f g (moved key b) from into
MoveLeaves f g key b from into (Err KeyMissing) = (b.from key ≡ None) × BothStay f g b from into
MoveLeaves f g key b from into (Err (Full len need)) = IsSome (b.from key) × BothStay f g b from into
MoveLeaves f g key b from into (Err Device) = Unit {0}
MoveLeaves f g key b from into (Err Log) = Unit {0}
MoveLeaves f g key b from into (Err Memory) = Unit {0}

-- where a log failed or memory was wanting, nothing was moved
abbrev pub MoveKeeps : Form → Form → Both → History → History → Result (Unit {0}) MoveFault → Type 0
MoveKeeps f g b from into (Err Log) = BothStay f g b from into
MoveKeeps f g b from into (Err Memory) = BothStay f g b from into
MoveKeeps f g b from into answer = Unit {0}

-- A key was moved from a file of the first form into one of the second between two moments of each, or wasn't, by this
-- answer. Where all of both files was on the medium at first, each stop since then leaves of each a file that opens to
-- what it held before or to what it holds as moved.
pub record Moves (f g : Form) (key : List ℕ) (from into now_from now_into : History) (answer : Result (Unit {0}) MoveFault) : Type 0 where
  pub left : MoveLeaves f g key (both_of f g from into) now_from now_into answer
  pub kept : Quiet from → Quiet into → MoveKeeps f g (both_of f g from into) now_from now_into answer
  pub from_stops : Quiet from → LeavesOnly from now_from (OpensHoldingEither f (both_of f g from into).from (moved key (both_of f g from into)).from)
  pub into_stops : Quiet into → LeavesOnly into now_into (OpensHoldingEither g (both_of f g from into).into (moved key (both_of f g from into)).into)
