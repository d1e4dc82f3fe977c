-- The bytes that a commit changes, and the runs in which it writes them.
use Rattle.std.specs.Prelude.{◌≡◌, ℕ, ◌+◌, ◌<◌, ◌≤◌, ◌⊎◌, List, [], ◌∷◌, slice_index}
use Rattle.tdb_space.specs.Form.{SameHeader}
use Rattle.tdb_space.specs.Extents.{Extent, once, times}
use Rattle.tdb_words.specs.Header.{area_head, known_length, sequence_at}

-- From image a, the file, to image b, that of the transaction, the byte at a place below the old length changes,
-- outside the undo area and the word at 44.
pub record Changed (a b : List ℕ) (old : ℕ) (skip : Extent) (i : ℕ) : Type 0 where
  pub low : i < old
  pub beside : (i < area_head) ⊎ (area_head + 4 ≤ i)
  pub outside : once skip i ≡ 0
  pub differs : slice_index b i ≡ slice_index a i → ⊥

-- a place is one of these, or stands between two of them with at most 8 others between them
pub record Near (C : ℕ → Type 0) (i : ℕ) : Type 0 where
  pub first : ℕ
  pub last : ℕ
  pub from : first ≤ i
  pub to : i ≤ last
  pub close : last ≤ first + 9
  pub changed_first : C first
  pub changed_last : C last

-- these extents stand in order from a place on, each with a byte at least, and at least one between each two
abbrev pub InOrder : ℕ → List Extent → Type 0
InOrder from [] = Unit {0}
InOrder from (e ∷ es) = (from ≤ e.0) × (1 ≤ e.1) × InOrder (e.0 + e.1 + 1) es

-- the runs of some places: the greatest stretches of bytes that are near them
pub record IsRuns (C : ℕ → Type 0) (es : List Extent) : Type 0 where
  pub in_order : InOrder 0 es
  pub near : (i : ℕ) → 1 ≤ times es i → Near C i
  pub all : (i : ℕ) → Near C i → 1 ≤ times es i

-- the runs of the bytes that change
abbrev pub ChangedRuns : List ℕ → List ℕ → ℕ → Extent → List Extent → Type 0
ChangedRuns a b old skip es = IsRuns (Changed a b old skip) es

-- there is one list of runs
abbrev pub RunsAreOne : Type 0
RunsAreOne = (a b : List ℕ) (old : ℕ) (skip : Extent) (es fs : List Extent) → ChangedRuns a b old skip es → ChangedRuns a b old skip fs → es ≡ fs

-- there is no run just where no byte changes
abbrev pub NoRunNoChange : Type 0
NoRunNoChange = (a b : List ℕ) (old : ℕ) (skip : Extent) (es : List Extent) → ChangedRuns a b old skip es
    → (es ≡ [] → (i : ℕ) → Changed a b old skip i → ⊥) × (((i : ℕ) → Changed a b old skip i → ⊥) → es ≡ [])

-- The runs are those of every file with the same bytes below the old length, outside the undo area and the word at 44.
-- The undo area may be another that holds the same bytes below that length.
abbrev pub RunsOfOther : Type 0
RunsOfOther = (a b c : List ℕ) (old : ℕ) (skip other : Extent) (es : List Extent) → ((i : ℕ) → i < old → once other i ≡ once skip i)
    → ((i : ℕ) → i < old → (i < area_head) ⊎ (area_head + 4 ≤ i) → once skip i ≡ 0 → slice_index c i ≡ slice_index a i) → ChangedRuns a b old skip es → ChangedRuns c b old other es

-- where the runs lie: below the old length, at no byte by which the header is known and not in the word at 44, and
-- outside the undo area
pub record RunsLie (old : ℕ) (skip : Extent) (es : List Extent) : Type 0 where
  pub low : (i : ℕ) → 1 ≤ times es i → i < old
  pub front : (i : ℕ) → (i < sequence_at) ⊎ ((sequence_at + 4 ≤ i) × (i < known_length)) → times es i ≡ 0
  pub clear : (i : ℕ) → skip.0 ≤ i → i < skip.0 + skip.1 → times es i ≡ 0

-- so it is where the header stays and the undo area has 10 bytes at least: a run spans no 9 bytes that don't change
abbrev pub RunsLieSo : Type 0
RunsLieSo = (a b : List ℕ) (old : ℕ) (skip : Extent) (es : List Extent) → SameHeader a b → 10 ≤ skip.1 → ChangedRuns a b old skip es → RunsLie old skip es
