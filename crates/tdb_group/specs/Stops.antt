-- What a stop of the machine leaves of all files of a group. Their disks are different ones, and a stop may find each
-- at its own moment.
use Rattle.std.specs.Prelude.{ℕ, ◌≤◌, List, Bool, true, false, nat_lt}
use Rattle.tdb_disk.specs.History.{clock}
use Rattle.tdb_disk.specs.Stop.{Leaves, LeftSince}
use Rattle.tdb_law.specs.Openers.{Map}
use Rattle.tdb_world.specs.Calm.{OpensToMap}
use Rattle.tdb_world.specs.OverFile.{OverFile}
use Rattle.tdb_group.specs.Group.{EachFile, EachPair}
use Rattle.tdb_group.specs.Members.{Maps, form_of_file}

-- the map of a file whose transaction took place, or didn't
abbrev pub map_if : Bool → Maps → Map
map_if true p = p.after
map_if false p = p.before

-- The images of the first so many files open to their maps after, and the others to their maps before.
abbrev pub OpenAfter : ℕ → (ℕ → Maps) → List OverFile → (ℕ → List ℕ) → Type 0
OpenAfter k ps files images = EachFile files (λ n w. OpensToMap (form_of_file w) (map_if (nat_lt n k) (ps n)) (images n))

-- After so many files: whatever a stop now leaves of each disk, the first so many files open to their maps after, and
-- the others to their maps before.
abbrev pub After : ℕ → (ℕ → Maps) → List OverFile → Type 0
After k ps files = (images : ℕ → List ℕ) → EachFile files (λ n w. Leaves w.history (images n)) → OpenAfter k ps files images

-- these images a stop at some moment may have left, since files were as the first, where they are as the second now
abbrev pub AreLeftSince : List OverFile → List OverFile → (ℕ → List ℕ) → Type 0
AreLeftSince olds news images = EachPair olds news (λ n old now. LeftSince (clock old.history) now.history (images n))

-- Whatever a stop at some moment since then left of each disk, it is after some number of files, from the one to the
-- other.
abbrev pub AfterSome : ℕ → ℕ → (ℕ → Maps) → List OverFile → List OverFile → Type 0
AfterSome least most ps olds news =
    (images : ℕ → List ℕ) → AreLeftSince olds news images → (k : ℕ) × (least ≤ k) × (k ≤ most) × OpenAfter k ps olds images
