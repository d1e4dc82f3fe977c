-- What contracts see of a group, and how its files stand.
use Rattle.std.specs.Prelude.{ℕ, ◌≡◌, ◌≤◌, List, [], Bool, true, false, Some, length, nat_lt, refl, slice_get}
use Rattle.std.specs.Coded.{Coded, code_by, coded_bool, coded_list, coded_ℕ, coded×}
use Rattle.tdb_world.specs.OverFile.{OverFile}
use Rattle.tdb_group.specs.Members.{IsSettled, IsUnderway, Maps}

-- Its files in their order, each with the disk that has it; whether they are prepared; how many of the first are
-- finished; and whether a call stopped the group.
pub record GroupState : Type 0 where
  pub files : List OverFile
  pub prepared : Bool
  pub finished : ℕ
  pub stopped : Bool

-- it is stored as the tuple of its fields
abbrev pub group_code : Coded OverFile → Coded GroupState
group_code file =
    code_by (List OverFile × (Bool × (ℕ × Bool))) (coded× (coded_list file) (coded× coded_bool (coded× coded_ℕ coded_bool)))
    (λ g. (g.files, (g.prepared, (g.finished, g.stopped))))
    (λ p. record { files = p.0; prepared = p.1.0; finished = p.1.1.0; stopped = p.1.1.1 })
    (λ _. refl)

-- a group that has no file yet
abbrev pub no_files : GroupState
no_files = record { files = []; prepared = false; finished = 0; stopped = false }

-- so it is of each file, by its number
abbrev pub EachFile : List OverFile → (ℕ → OverFile → Type 0) → Type 0
EachFile files P = (n : ℕ) (w : OverFile) → slice_get files n ≡ Some w → P n w

-- and so it is of each file as it was and as it is now
abbrev pub EachPair : List OverFile → List OverFile → (ℕ → OverFile → OverFile → Type 0) → Type 0
EachPair olds news P = (n : ℕ) (old now : OverFile) → slice_get olds n ≡ Some old → slice_get news n ≡ Some now → P n old now

-- What holds of a group between any two calls: it has a thousand files at most; only prepared ones are finished; and
-- unless it is stopped no disk failed in a turn.
pub record IsSoundGroup (g : GroupState) : Type 0 where
  pub few : length g.files ≤ 1000
  pub finished : g.finished ≤ length g.files
  pub begun : g.prepared ≡ false → g.finished ≡ 0
  pub unspent : g.stopped ≡ false → EachFile g.files (λ n w. w.spent ≡ false)

-- Files may be added to it, and commands be done in it.
pub record IsOpen (g : GroupState) : Type 0 where
  pub unprepared : g.prepared ≡ false
  pub going : g.stopped ≡ false

-- Its files may be finished.
pub record IsPrepared (g : GroupState) : Type 0 where
  pub prepared : g.prepared ≡ true
  pub going : g.stopped ≡ false

-- A file that is finished has its map after; and one that isn't is in its transaction.
abbrev pub FileStands : Bool → Bool → Maps → OverFile → Type 0
FileStands prepared true p w = IsSettled p.after w
FileStands prepared false p w = IsUnderway prepared p w

-- Files lead from the one map to the other, each as its number says: prepared or not, and so many of the first
-- finished.
abbrev pub Standing : Bool → ℕ → (ℕ → Maps) → List OverFile → Type 0
Standing prepared finished ps files = EachFile files (λ n w. FileStands prepared (nat_lt n finished) (ps n) w)

-- so the files of a group do
abbrev pub HasMaps : (ℕ → Maps) → GroupState → Type 0
HasMaps ps g = Standing g.prepared g.finished ps g.files

-- Every transaction was cancelled: each file has its map before.
abbrev pub AreCancelled : (ℕ → Maps) → List OverFile → Type 0
AreCancelled ps files = EachFile files (λ n w. IsSettled (ps n).before w)
