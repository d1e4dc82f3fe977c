-- The parts of a move: the commands on the two files of its group, their preparation, and their commits.
use Rattle.std.specs.Prelude.{ℕ, zero, suc, ◌≡◌, ◌≢◌, ◌≤◌, ◌⊎◌, Bool, IsTrue, false, List, [], ◌∷◌, Option, None, Some, IsSome, Result, Ok, Err, MatchResult, length}
use Rattle.std.specs.FinMap.{get, insert, remove}
use Rattle.tdb_disk.specs.Count.{Rose}
use Rattle.tdb_disk.specs.Stop.{Leaves, LeavesOnly}
use Rattle.tdb_law.specs.Openers.{Map}
use Rattle.tdb_law.specs.World.{State}
use Rattle.tdb_world.specs.Calm.{OpensToEither, OpensToMap}
use Rattle.tdb_world.specs.Loaded.{IsJustLoaded}
use Rattle.tdb_world.specs.OverFile.{KeepsForm, OverFile}
use Rattle.tdb_world.specs.Stops.{IsSafe}
use Rattle.tdb_group.specs.Each.{RoseAt, StayEach}
use Rattle.tdb_group.specs.Files.{StaysAt}
use Rattle.tdb_group.specs.Group.{AreCancelled, EachFile, EachPair, GroupState, HasMaps, IsOpen}
use Rattle.tdb_group.specs.Members.{Maps, form_of_file}
use Rattle.tdb_group.specs.Turns.{Ran}
use Rattle.tdb_move.specs.Faults.{OnDevice, UnlessDevice}
use Rattle.tdb_move.specs.declared.fault.MoveFault.{MoveFault}
use Rattle.tdb_move.specs.declared.fault.MoveFault.TheVariants.{KeyMissing, Full, Device, Log, Memory}

-- A file went on in a part of a move. Its count of faults never falls; and unless a disk failed the count is as it was,
-- and the world keeps its form.
pub record FileWent {V : Type 0} (answer : Result V MoveFault) (old new : OverFile) : Type 0 where
  pub rises : old.faults ≤ new.faults
  pub quiet : UnlessDevice answer (new.faults ≡ old.faults)
  pub form : UnlessDevice answer (KeepsForm old new)

-- the count of faults of one of the disks rose
pub record SomeRose (olds news : List OverFile) : Type 0 where
  pub at : ℕ
  pub rose : RoseAt olds news at

-- The files of a group lead from the same maps as with these, some of them to others; or those of file 0 and of file 1
-- to these two.
pub record LeadsSome (ps : ℕ → Maps) (g : GroupState) : Type 0 where
  pub maps : ℕ → Maps
  pub before : (n : ℕ) → (maps n).before ≡ (ps n).before
  pub has : HasMaps maps g

pub record LeadsTo (ps : ℕ → Maps) (m n : Map) (g : GroupState) : Type 0 where
  pub some : LeadsSome ps g
  pub into : (some.maps 0).after ≡ m
  pub from : (some.maps 1).after ≡ n

-- The files of a group went on in a part of a move. From their transactions on each stop since then leaves every file
-- at its map before.
pub record Went {V : Type 0} (tells : Bool) (old new : GroupState) (answer : Result V MoveFault) : Type 0 where
  pub count : length new.files ≡ length old.files
  pub finished : new.finished ≡ old.finished
  pub each : EachPair old.files new.files (λ n a b. FileWent answer a b)
  pub stays : IsTrue tells → (ps : ℕ → Maps) → HasMaps ps old → StayEach ps old.files new.files
  pub rose : IsTrue tells → (ps : ℕ → Maps) → HasMaps ps old → OnDevice answer (SomeRose old.files new.files)

-- Unless a disk failed the group is open, and leads from the same maps.
pub record Goes {V : Type 0} (tells : Bool) (old new : GroupState) (answer : Result V MoveFault) : Type 0 where
  pub going : UnlessDevice answer (IsOpen new)
  pub leads : IsTrue tells → (ps : ℕ → Maps) → HasMaps ps old → UnlessDevice answer (LeadsSome ps new)

-- what an answer says of the key, where this was found for it
abbrev pub TellsKey : Option (List ℕ) → MoveFault → Type 0
TellsKey found KeyMissing = found ≡ None
TellsKey found (Full len need) = IsSome found
TellsKey found Device = Unit {0}
TellsKey found Log = Unit {0}
TellsKey found Memory = Unit {0}

-- What the fetch found.
abbrev pub Fetched : List ℕ → (ℕ → Maps) → GroupState → Result (List ℕ) MoveFault → Type 0
Fetched key ps new answer =
    MatchResult answer (λ value. (get (ps 1).after key ≡ Some value) × LeadsTo ps (ps 0).after (ps 1).after new) (λ fault. TellsKey (get (ps 1).after key) fault)

-- a map with this value under a key, or with none
abbrev pub with_value : List ℕ → Option (List ℕ) → Map → Map
with_value key None m = remove m key
with_value key (Some value) m = insert m key value

-- what a file of a group holds once the key was moved, by its number
abbrev pub moved_map : List ℕ → (ℕ → Maps) → ℕ → Map
moved_map key ps zero = with_value key (get (ps 1).before key) (ps 0).before
moved_map key ps (suc n) = remove (ps 1).before key

-- the transactions of a group have changed nothing
abbrev pub AreFresh : (ℕ → Maps) → Type 0
AreFresh ps = (n : ℕ) → (ps n).after ≡ (ps n).before

-- The key was stored and deleted in the transactions, or why not.
abbrev pub Edited : List ℕ → (ℕ → Maps) → GroupState → Result (Unit {0}) MoveFault → Type 0
Edited key ps new answer =
    MatchResult answer (λ v. IsSome (get (ps 1).before key) × LeadsTo ps (moved_map key ps 0) (moved_map key ps 1) new) (λ fault. TellsKey (get (ps 1).before key) fault)

-- so it is where nothing was moved, by a fault that isn't of a disk, a log or of memory
abbrev pub OnRefusal : MoveFault → Type 0 → Type 0
OnRefusal KeyMissing p = p
OnRefusal (Full len need) p = p
OnRefusal Device p = Unit {0}
OnRefusal Log p = Unit {0}
OnRefusal Memory p = Unit {0}

-- Every transaction of an open group was cancelled for this fault, or a disk failed.
pub record GaveUp (tells : Bool) (fault : MoveFault) (old new : GroupState) (answer : MoveFault) : Type 0 where
  pub went : Went {V = Unit {0}} tells old new (Err answer)
  pub is : (answer ≡ fault) ⊎ (answer ≡ Device)
  pub other : fault ≢ Device
  pub left : IsTrue tells → (ps : ℕ → Maps) → HasMaps ps old → OnRefusal answer (AreCancelled ps new.files)

-- The files are prepared, with the key moved in their transactions; or why not.
abbrev pub Readied : List ℕ → (ℕ → Maps) → GroupState → Result (Unit {0}) MoveFault → Type 0
Readied key ps new answer =
    MatchResult answer (λ v. IsSome (get (ps 1).before key) × LeadsTo ps (moved_map key ps 0) (moved_map key ps 1) new)
    (λ fault. TellsKey (get (ps 1).before key) fault × OnRefusal fault (AreCancelled ps new.files))

-- whatever a stop now leaves of each file opens to its map
abbrev pub OpenEach : (ℕ → Map) → List OverFile → Type 0
OpenEach ms files = EachFile files (λ n w. (c : List ℕ) → Leaves w.history c → OpensToMap (form_of_file w) (ms n) c)

-- What a move left of the files of a group, by its answer.
abbrev pub MoveLeft : List ℕ → (ℕ → Maps) → List OverFile → List OverFile → Result (Unit {0}) MoveFault → Type 0
MoveLeft key ps olds news (Ok v) = IsSome (get (ps 1).before key) × OpenEach (moved_map key ps) news
MoveLeft key ps olds news (Err KeyMissing) = (get (ps 1).before key ≡ None) × OpenEach (λ n. (ps n).before) news
MoveLeft key ps olds news (Err (Full len need)) = IsSome (get (ps 1).before key) × OpenEach (λ n. (ps n).before) news
MoveLeft key ps olds news (Err Device) = SomeRose olds news
MoveLeft key ps olds news (Err Log) = StayEach ps olds news
MoveLeft key ps olds news (Err Memory) = StayEach ps olds news

-- The key was moved between the files of a group whose transactions had changed nothing.
pub record MovedIn (tells : Bool) (key : List ℕ) (old new : GroupState) (answer : Result (Unit {0}) MoveFault) : Type 0 where
  pub count : length new.files ≡ length old.files
  pub each : EachPair old.files new.files (λ n a b. FileWent answer a b)
  pub left : IsTrue tells → (ps : ℕ → Maps) → HasMaps ps old → AreFresh ps → MoveLeft key ps old.files new.files answer
  pub stops : IsTrue tells → (ps : ℕ → Maps) → HasMaps ps old → AreFresh ps
      → EachPair old.files new.files (λ n a b. LeavesOnly a.history b.history (OpensToEither (form_of_file a) (ps n).before (moved_map key ps n)))

-- The maps of two files, of which nothing is changed yet.
abbrev pub two_maps : Map → Map → ℕ → Maps
two_maps into from zero = record { before = into; after = into }
two_maps into from (suc n) = record { before = from; after = from }

-- A group was made of two worlds, which are these now.
pub record BothBegan (tells : Bool) (from into : OverFile) (g : GroupState) : Type 0 where
  pub file : OverFile
  pub other : OverFile
  pub is : g ≡ record { files = other ∷ file ∷ []; prepared = false; finished = 0; stopped = false }
  pub file_ran : Ran {V = Unit {0}} from file (Ok tt)
  pub other_ran : Ran {V = Unit {0}} into other (Ok tt)
  pub leads : IsTrue tells → (s t : State) → IsJustLoaded from.world from.history s → IsJustLoaded into.world into.history t → HasMaps (two_maps t.file s.file) g
  pub file_stays : IsTrue tells → (s : State) → IsJustLoaded from.world from.history s → IsSafe (form_of_file from) from.history → StaysAt s.file from file
  pub other_stays : IsTrue tells → (s : State) → IsJustLoaded into.world into.history s → IsSafe (form_of_file into) into.history → StaysAt s.file into other

-- None was made, for want of memory or since a disk failed.
pub record NotBoth (tells : Bool) (from into now_from now_into : OverFile) (fault : MoveFault) : Type 0 where
  pub is : (fault ≡ Memory) ⊎ (fault ≡ Device)
  pub from_rises : from.faults ≤ now_from.faults
  pub into_rises : into.faults ≤ now_into.faults
  pub quiet : fault ≡ Memory → (now_from.faults ≡ from.faults) × (now_into.faults ≡ into.faults)
  pub rose : fault ≡ Device → IsTrue tells → (s t : State) → IsJustLoaded from.world from.history s → IsJustLoaded into.world into.history t → Rose from.faults now_from.faults ⊎ Rose into.faults now_into.faults
  pub from_stays : IsTrue tells → (s : State) → IsJustLoaded from.world from.history s → IsSafe (form_of_file from) from.history → StaysAt s.file from now_from
  pub into_stays : IsTrue tells → (s : State) → IsJustLoaded into.world into.history s → IsSafe (form_of_file into) into.history → StaysAt s.file into now_into
