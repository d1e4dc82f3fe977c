-- The lists of records: the chains and the free list.
use Rattle.std.specs.Prelude.{◌≡◌, ◌⊎◌, ℕ, zero, suc, ◌<◌, ◌/◌, ◌==◌, List, [], ◌∷◌, length, IsTrue, nat_eq, if◌then◌else◌}
use Rattle.std.specs.List.{list_any}
use Rattle.tdb_words.specs.declared.word.Order.{Order}
use Rattle.tdb_words.specs.Word.{word}
use Rattle.tdb_space.specs.Form.{Form, free_head, chain_head}
use Rattle.tdb_space.specs.Record.{Whole, IsChained, IsFree, next_of, magic_of}

-- From this offset the records at these offsets follow one another, each by the next word of the one before it. Each
-- stands whole and has a magic of the kind, and the next word of the last is 0. The list is finite, so a loop has none.
abbrev pub Linked : Form → (ℕ → Type 0) → List ℕ → ℕ → List ℕ → Type 0
Linked f Mark img at [] = at ≡ 0
Linked f Mark img at (x ∷ xs) = (at ≡ x) × Whole f img x × Mark (magic_of f.order img x) × Linked f Mark img (next_of f.order img x) xs

-- a record of a chain stands whole at this offset: it is used or dead
abbrev pub IsLink : Form → List ℕ → ℕ → Type 0
IsLink f img at = Whole f img at × IsChained (magic_of f.order img at)

-- a chain: a list of records that are used or dead
abbrev pub Chain : Form → List ℕ → ℕ → List ℕ → Type 0
Chain f img at offs = Linked f IsChained img at offs

-- the free list: a list of free records
abbrev pub Free : Form → List ℕ → ℕ → List ℕ → Type 0
Free f img at offs = Linked f IsFree img at offs

-- the offsets that next words lead to, from an offset up to a 0, and no more of them than a number
abbrev pub offsets : Order → List ℕ → ℕ → ℕ → List ℕ
offsets o img zero at = []
offsets o img (suc n) at = if at == 0 then [] else at ∷ offsets o img n (word o img at)

-- The offsets of chain j. Records of one list are a word apart at least, so no list has more of them than the image has
-- words: where the chain's head has a Chain, it is this one.
abbrev pub chain_of : Form → List ℕ → ℕ → List ℕ
chain_of f img j = offsets f.order img (length img / 4) (word f.order img (chain_head j))

-- the offsets of the free list, in the same way
abbrev pub free_of : Form → List ℕ → List ℕ
free_of f img = offsets f.order img (length img / 4) (word f.order img free_head)

-- every chain head of the image has a Chain
abbrev pub HasChains : Form → List ℕ → Type 0
HasChains f img = (j : ℕ) → j < f.chains → Chain f img (word f.order img (chain_head j)) (chain_of f img j)

-- an offset is one of these
abbrev pub Member : ℕ → List ℕ → Type 0
Member x xs = IsTrue (list_any (nat_eq x) xs)

-- the word at this offset leads to y, in the list whose first word stands at the place p: it is the word at p, or the
-- next word of the record before y
abbrev pub Leads : ℕ → List ℕ → ℕ → ℕ → Type 0
Leads p [] before y = ⊥
Leads p (x ∷ xs) before y = ((p ≡ before) × (x ≡ y)) ⊎ Leads x xs before y

-- the offsets without y, where it comes first
abbrev pub without : ℕ → List ℕ → List ℕ
without y [] = []
without y (x ∷ xs) = if x == y then xs else x ∷ without y xs
