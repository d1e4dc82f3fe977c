-- The pairs of key and value that an image holds, in order, and the map that they make.
use Rattle.std.specs.Prelude.{ℕ, zero, suc, ◌<◌, ◌%◌, ◌==◌, Bool, Option, List, [], ◌∷◌, ◌++◌, if◌then◌else◌}
use Rattle.std.specs.Cmp.Lexicographic.{pointwise}
use Rattle.std.specs.Map.{lookup}
use Rattle.tdb_words.specs.declared.record.TheConstants.{USED}
use Rattle.tdb_words.specs.declared.word.Order.{Order}
use Rattle.tdb_words.specs.Hash.{h_of}
use Rattle.tdb_space.specs.declared.plain.KeyValue.{KeyValue}
use Rattle.tdb_space.specs.Form.{Form}
use Rattle.tdb_space.specs.Record.{key_at, data_at, magic_of, AllFit}
use Rattle.tdb_space.specs.Chain.{chain_of, HasChains}

-- the lists f 0, f 1, up to f (n - 1), one after the other
abbrev pub joined : {T : Type 0} → ℕ → (ℕ → List T) → List T
joined zero f = []
joined (suc n) f = joined n f ++ f n

-- the pair of the record at an offset where it is used; a dead record has none
abbrev pub pair_of : Order → List ℕ → ℕ → List (List ℕ × List ℕ)
pair_of o img at = if magic_of o img at == USED then (key_at o img at, data_at o img at) ∷ [] else []

-- the pairs of the records at these offsets, in their order
abbrev pub pairs : Order → List ℕ → List ℕ → List (List ℕ × List ℕ)
pairs o img [] = []
pairs o img (x ∷ xs) = pair_of o img x ++ pairs o img xs

-- two keys are the same: equal byte for byte
abbrev pub same_key : List ℕ → List ℕ → Bool
same_key = pointwise ◌==◌

-- a key and its value that were found in an image, as a pair of their bytes
abbrev pub pair_seen : KeyValue → List ℕ × List ℕ
pair_seen p = (p.key.now, p.value.now)

-- the pairs of all used records: chain 0 first, each chain from its head on
abbrev pub order_of : Form → List ℕ → List (List ℕ × List ℕ)
order_of f img = joined f.chains (λ j. pairs f.order img (chain_of f img j))

-- the map of an image: what it holds for a key, if anything
abbrev pub map_of : Form → List ℕ → List ℕ → Option (List ℕ)
map_of f img k = lookup (same_key k) (order_of f img)

-- the number of the chain in which a key is filed
abbrev pub home : Form → List ℕ → ℕ
home f k = h_of f.hash k % f.chains

-- the pairs of an image can be read: each chain head has a Chain, and each used record has room for what it holds
abbrev pub HasPairs : Form → List ℕ → Type 0
HasPairs f img = HasChains f img × ((j : ℕ) → j < f.chains → AllFit f.order img (chain_of f img j))
