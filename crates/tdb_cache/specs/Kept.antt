-- What is kept of a disk that is written behind: nothing, the whole content, or blocks that are pending.
use Rattle.std.specs.Prelude.{◌≡◌, ℕ, List, Bool, true, false, take, ⊤}
use Rattle.tdb_cache.specs.Blocks.{kept_count}
use Rattle.tdb_cache.specs.Content.{content_bytes}
use Rattle.tdb_cache.specs.Laid.{laid, LiesInKept}
use Rattle.tdb_cache.specs.declared.content.Content.{Content}
use Rattle.tdb_cache.specs.declared.kept.Kept.{Kept}
use Rattle.tdb_cache.specs.declared.kept.Kept.TheVariants.{Nothing, Whole, Gathered}
use Rattle.tdb_cache.specs.declared.pending.Pending.{Pending}

-- the whole content is kept
abbrev pub is_whole : Kept → Bool
is_whole Nothing = false
is_whole (Whole content) = true
is_whole (Gathered pending) = false

-- nothing is kept
abbrev pub is_nothing : Kept → Bool
is_nothing Nothing = true
is_nothing (Whole content) = false
is_nothing (Gathered pending) = false

-- the content up to the size of the file, if it is kept, and else the image with the blocks that are pending
abbrev pub view_of : Kept → ℕ → List ℕ → List ℕ
view_of Nothing size image = image
view_of (Whole content) size image = take size (content_bytes content)
view_of (Gathered pending) size image = laid pending.blocks image

-- the content, if it is kept whole, is so
abbrev pub ForWhole : Kept → (Content → Type 0) → Type 0
ForWhole kept P = (content : Content) → kept ≡ Whole content → P content

-- the blocks, if they are gathered, are so
abbrev pub ForGathered : Kept → (Pending → Type 0) → Type 0
ForGathered kept P = (pending : Pending) → kept ≡ Gathered pending → P pending

-- how many calls at most write what the disk within lacks
abbrev pub owed_by : Kept → ℕ
owed_by Nothing = 0
owed_by (Whole content) = 1
owed_by (Gathered pending) = kept_count pending.blocks

-- a range of bytes is in memory
abbrev pub HoldsRange : Kept → ℕ → ℕ → Type 0
HoldsRange Nothing off len = ⊥
HoldsRange (Whole content) off len = ⊤
HoldsRange (Gathered pending) off len = LiesInKept pending.blocks off len
