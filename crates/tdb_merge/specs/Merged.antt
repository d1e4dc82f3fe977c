-- What a file holds once pairs were merged into it, and what a merge leaves of it.
use Rattle.std.specs.Prelude.{◌≡◌, ◌⊎◌, ℕ, Option, List, Result, Ok, Err}
use Rattle.std.specs.Map.{lookup}
use Rattle.std.specs.Option.{option_or}
use Rattle.tdb_disk.specs.History.{History, seen}
use Rattle.tdb_disk.specs.Stop.{Leaves, LeavesOnly, Quiet}
use Rattle.tdb_space.specs.Form.{Form}
use Rattle.tdb_space.specs.Opening.{restored}
use Rattle.tdb_space.specs.Pairs.{map_of, same_key}
use Rattle.tdb_space.specs.Undoing.{Reopens}
use Rattle.tdb_merge.specs.declared.fault.MergeFault.{MergeFault}
use Rattle.tdb_merge.specs.declared.fault.MergeFault.TheVariants.{Full, Starved, Read, Device, Log, Memory}

-- what is held for each key
abbrev pub Holding : Type 0
Holding = List ℕ → Option (List ℕ)

-- what these pairs give for a key, and else what was held
abbrev pub merged : Holding → List (List ℕ × List ℕ) → Holding
merged held given key = option_or (lookup (same_key key) given) (held key)

-- An image opens to this: to an image that holds it, read in this form.
pub record OpensHolding (f : Form) (held : Holding) (c : List ℕ) : Type 0 where
  pub image : List ℕ
  pub reopens : Reopens image c
  pub holds : (key : List ℕ) → map_of f image key ≡ held key

-- it opens to one of two
abbrev pub OpensHoldingEither : Form → Holding → Holding → List ℕ → Type 0
OpensHoldingEither f one two c = OpensHolding f one c ⊎ OpensHolding f two c

-- a stop now leaves only what opens to this
abbrev pub StopsHolding : Form → Holding → History → Type 0
StopsHolding f held h = (c : List ℕ) → Leaves h c → OpensHolding f held c

-- an image is read as one that holds this, an open gate undone
abbrev pub IsReadHolding : Form → Holding → List ℕ → Type 0
IsReadHolding f held img = (key : List ℕ) → map_of f (restored f img) key ≡ held key

-- What a merge leaves of its file, by its answer. Done, a stop leaves only what opens to what was merged. Where there
-- was no room, a command found no memory, or the pairs weren't read, the file is read as before. Where a log failed, or
-- memory was wanting beside the commands, it is read as before or as merged. After a failed call nothing is said.
abbrev pub MergeLeaves : Form → Holding → Holding → History → Result (Unit {0}) MergeFault → Type 0
MergeLeaves f before after now (Ok v) = StopsHolding f after now
MergeLeaves f before after now (Err (Full len need)) = IsReadHolding f before (seen now)
MergeLeaves f before after now (Err Starved) = IsReadHolding f before (seen now)
MergeLeaves f before after now (Err Read) = IsReadHolding f before (seen now)
MergeLeaves f before after now (Err Device) = Unit {0}
MergeLeaves f before after now (Err Log) = IsReadHolding f before (seen now) ⊎ IsReadHolding f after (seen now)
MergeLeaves f before after now (Err Memory) = IsReadHolding f before (seen now) ⊎ IsReadHolding f after (seen now)

-- after these answers nothing was merged, and so it is of a stop
abbrev pub MergeKeeps : Form → Holding → History → Result (Unit {0}) MergeFault → Type 0
MergeKeeps f before now (Ok v) = Unit {0}
MergeKeeps f before now (Err (Full len need)) = StopsHolding f before now
MergeKeeps f before now (Err Starved) = StopsHolding f before now
MergeKeeps f before now (Err Read) = StopsHolding f before now
MergeKeeps f before now (Err Device) = Unit {0}
MergeKeeps f before now (Err Log) = Unit {0}
MergeKeeps f before now (Err Memory) = Unit {0}

-- Pairs were merged into a file of this form between two moments, with this answer. Where all of the file was on the
-- medium at first, each stop since then leaves a file that opens to what it held before or to what was merged; and
-- where the answer says that nothing was merged, a stop leaves only the first.
pub record Merges (f : Form) (given : List (List ℕ × List ℕ)) (old now : History) (answer : Result (Unit {0}) MergeFault) : Type 0 where
  pub left : MergeLeaves f (map_of f (seen old)) (merged (map_of f (seen old)) given) now answer
  pub stops : Quiet old → LeavesOnly old now (OpensHoldingEither f (map_of f (seen old)) (merged (map_of f (seen old)) given))
  pub kept : Quiet old → MergeKeeps f (map_of f (seen old)) now answer
