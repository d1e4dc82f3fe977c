-- Finding the runs of the bytes that change, from the front of a file on.
use Rattle.std.specs.Prelude.{◌≡◌, ℕ, ◌+◌, ◌-◌, ◌^◌, ◌<◌, ◌≤◌, ◌⊎◌, List, [], true, false, min, slice_index}
use Rattle.tdb_space.specs.Extents.{Extent, once, times}
use Rattle.tdb_space.specs.Planned.{content_length}
use Rattle.tdb_space.specs.Runs.{Changed, ChangedRuns, Near, InOrder}
use Rattle.tdb_txn.specs.EndBelow.{EndBelow}
use Rattle.tdb_txn.specs.declared.comparing.RunsRefusal.{RunsRefusal}
use Rattle.tdb_txn.specs.declared.comparing.RunsRefusal.TheVariants.{Io, Memory}
use Rattle.tdb_txn.specs.declared.found.Found.{Found}
use Rattle.tdb_words.specs.Header.{area_head}

-- Every byte below place n was looked at, and C says which count. These runs are done; and one may still go on, from
-- one place up to another, where there is none yet if the two are one place.
pub record Scanned (C : ℕ → Type 0) (done : List Extent) (from to n : ℕ) : Type 0 where
  pub order : InOrder 0 done
  pub ends : from ≤ to
  pub below : to ≤ n
  pub before : (i : ℕ) → 1 ≤ times done i → i + 10 ≤ from
  pub last : from < to → C from × C (to - 1)
  pub near : (i : ℕ) → 1 ≤ times done i → Near C i
  pub near_open : (i : ℕ) → from ≤ i → i < to → Near C i
  pub all : (i : ℕ) (near : Near C i) → near.last < n → (1 ≤ times done i) ⊎ ((from ≤ i) × (i < to))
  pub none : from ≡ to → done ≡ []

-- how long a content is, up to the greatest number of 64 bits.
abbrev pub IsLengthOf : List Extent → ℕ → Type 0
IsLengthOf runs content = content ≡ min (content_length runs) (2 ^ 64 - 1)

-- What is kept of the runs that are done: how long their content is; and all of them, unless memory was wanting for
-- one, so that there is one.
pub record Keeps (runs : List Extent) (found : Found) : Type 0 where
  pub content : IsLengthOf runs found.content
  pub list : found.starved ≡ false → found.list ≡ runs
  pub some : found.starved ≡ true → 8 ≤ content_length runs

-- what was found so far of the bytes that change
pub record FoundSoFar (a b : List ℕ) (old : ℕ) (skip : Extent) (found : Found) : Type 0 where
  pub runs : List Extent
  pub keeps : Keeps runs found
  pub scanned : Scanned (Changed a b old skip) runs found.from found.to found.next

-- The bytes that change have runs, one at least, whose content is so long.
pub record HasRuns (a b : List ℕ) (old : ℕ) (skip : Extent) (content : ℕ) : Type 0 where
  pub runs : List Extent
  pub changed : ChangedRuns a b old skip runs
  pub long : IsLengthOf runs content
  pub some : 8 ≤ content_length runs

-- where memory was wanting for runs, this is so of how long their content is
abbrev pub WhereStarved : (ℕ → Type 0) → RunsRefusal → Type 0
WhereStarved P Io = Unit {0}
WhereStarved P (Memory content) = P content

-- the runs that are done end where the one that may go on does, or before; and that ends where the bytes that were
-- looked at end, or before
pub record InPlace (found : Found) : Type 0 where
  pub done : EndBelow found.to found.list
  pub ends : found.from ≤ found.to
  pub below : found.to ≤ found.next

-- a byte at a place counts where it is another one: it is outside the word at 44 and an extent
pub record Counts (skip : Extent) (i : ℕ) : Type 0 where
  pub beside : (i < area_head) ⊎ (area_head + 4 ≤ i)
  pub outside : once skip i ≡ 0

-- from a place on an image has these bytes
abbrev pub StandsAt : List ℕ → ℕ → ℕ → List ℕ → Type 0
StandsAt bytes count at img = (k : ℕ) → k < count → slice_index bytes k ≡ slice_index img (at + k)

-- image c is image a with nothing but zeros in an extent
pub record Blanked (hole : Extent) (a c : List ℕ) : Type 0 where
  pub inside : (i : ℕ) → 1 ≤ once hole i → slice_index c i ≡ 0
  pub outside : (i : ℕ) → once hole i ≡ 0 → slice_index c i ≡ slice_index a i
