-- The blocks of a file, and a table of those that are kept in memory.
use Rattle.std.specs.Prelude.{◌≡◌, ◌≢◌, ℕ, ◌+◌, ◌*◌, ◌%◌, ◌<◌, ◌≤◌, ◌⊎◌, List, Option, Some, None, IsSome, option_map, is_some, get_or, length, take, drop, min}
use Rattle.tdb_disk.specs.Count.{Rose}
use Rattle.tdb_cache.specs.declared.blocks.Blocks.{Blocks}

-- how many bytes a block has
abbrev pub block_size : ℕ
block_size = 65536

-- the most blocks that are kept, 256 MiB
abbrev pub most_kept : ℕ
most_kept = 4096

-- the blocks with smaller numbers have a place in the table: the first 4 GiB of a file
abbrev pub most_places : ℕ
most_places = 65536

-- a block that is never kept: it has no place in the table, or it is the last of a hundred
abbrev pub IsLeftOut : ℕ → Type 0
IsLeftOut number = (most_places ≤ number) ⊎ (number % 100 ≡ 99)

-- where a block starts in the file
abbrev pub block_start : ℕ → ℕ
block_start number = number * block_size

-- where a block ends in a file of this size: the last one may be shorter
abbrev pub block_end : ℕ → ℕ → ℕ
block_end size number = min (block_start (number + 1)) size

-- the bytes that are kept of a block
abbrev pub block_at : Blocks → ℕ → Option (List ℕ)
block_at blocks number = option_map (λ block. block.items) (get_or blocks.places.items number None)

-- how many blocks are kept
abbrev pub kept_count : Blocks → ℕ
kept_count blocks = blocks.kept

-- how many blocks were not kept for want of memory
abbrev pub starved_count : Blocks → ℕ
starved_count blocks = blocks.starved

-- each block that is kept ends where it does in a file of this size
abbrev pub AllSized : Blocks → ℕ → Type 0
AllSized blocks size =
    (number : ℕ) (block : List ℕ) → block_at blocks number ≡ Some block
    → block_start number + length block ≡ block_end size number

-- each block that is kept reaches as far as it does in a file of this size
abbrev pub Reaches : Blocks → ℕ → Type 0
Reaches blocks size =
    (number : ℕ) (block : List ℕ) → block_at blocks number ≡ Some block
    → block_end size number ≤ block_start number + length block

-- each block that is kept holds the bytes that the image has there
abbrev pub AllShown : Blocks → List ℕ → Type 0
AllShown blocks image =
    (number : ℕ) (block : List ℕ) → block_at blocks number ≡ Some block
    → block ≡ take (length block) (drop (block_start number) image)

-- a block with this number has a place in the table, it isn't one that is never kept, and one block more may be kept
pub record HasRoom (blocks : Blocks) (number : ℕ) : Type 0 where
  pub place : number < length blocks.places.items
  pub let_in : IsLeftOut number → ⊥
  pub below : kept_count blocks < most_kept

-- why a block wasn't kept: the most are kept, it is one that never is, or there was no memory
abbrev pub Refused : Blocks → Blocks → ℕ → Type 0
Refused old new number =
    (most_kept ≤ kept_count new) ⊎ (IsLeftOut number ⊎ Rose (starved_count old) (starved_count new))

-- nothing that is kept has changed
abbrev pub AllStay : Blocks → Blocks → Type 0
AllStay old new = (number : ℕ) → block_at new number ≡ block_at old number

-- no other block has changed
abbrev pub OthersStay : ℕ → Blocks → Blocks → Type 0
OthersStay number old new = (other : ℕ) → other ≢ number → block_at new other ≡ block_at old other

-- the blocks before this one have not changed, and no other is kept
pub record KeepsFront (number : ℕ) (old new : Blocks) : Type 0 where
  pub front : (other : ℕ) → other < number → block_at new other ≡ block_at old other
  pub none : (other : ℕ) → number ≤ other → block_at new other ≡ None

-- the same blocks are kept
abbrev pub SameKept : Blocks → Blocks → Type 0
SameKept old new = (number : ℕ) → is_some (block_at new number) ≡ is_some (block_at old number)

-- what was kept is kept
abbrev pub StillKept : Blocks → Blocks → Type 0
StillKept old new = (number : ℕ) → IsSome (block_at old number) → IsSome (block_at new number)
