-- The arguments of the command that makes a file.
use Rattle.std.specs.Prelude.{ℕ, Option, None, Some, List, [], ◌∷◌, codes}
use Rattle.std.specs.Map.{lookup}
use Rattle.std.specs.Option.{option_map, option_and_then}
use Rattle.tdb_words.specs.declared.word.Order.{Order}
use Rattle.tdb_words.specs.declared.word.Order.TheVariants.{Little, Big}
use Rattle.tdb_words.specs.declared.hash.HashKind.{HashKind}
use Rattle.tdb_words.specs.declared.hash.HashKind.TheVariants.{Old, Jenkins}
use Rattle.tdb_space.specs.Pairs.{same_key}
use Rattle.tdb_cmdline.specs.declared.limits.TheConstants.{DEFAULT_SIZE}
use Rattle.tdb_cmdline.specs.declared.lines.create.NewFile.{NewFile}
use Rattle.tdb_cmdline.specs.Words.{size_of}

-- the words that name a hash, and those that name a byte order
abbrev pub hashes : List (List ℕ × HashKind)
hashes = (codes "default", Old) ∷ (codes "jenkins", Jenkins) ∷ []

abbrev pub orders : List (List ℕ × Order)
orders = (codes "little", Little) ∷ (codes "big", Big) ∷ []

-- The arguments: [SIZE [default|jenkins [little|big]]]. What isn't written is 131 chains, the default hash and
-- little-endian words.
abbrev pub order_of_words : List (List ℕ) → Option Order
order_of_words [] = Some Little
order_of_words (word ∷ []) = lookup (same_key word) orders
order_of_words (word ∷ more ∷ rest) = None

abbrev pub hash_of_words : List (List ℕ) → Option (HashKind × Order)
hash_of_words [] = Some (Old, Little)
hash_of_words (word ∷ rest) =
    option_and_then (λ hash. option_map (λ order. (hash, order)) (order_of_words rest)) (lookup (same_key word) hashes)

-- a new file that may have so many bytes, with so many chains, this hash and this byte order
abbrev pub file_with : ℕ → ℕ → HashKind × Order → NewFile
file_with limit size named = record { form = record { size = size; hash = named.0; order = named.1 }; limit = limit }

abbrev pub create_of : ℕ → List (List ℕ) → Option NewFile
create_of limit [] = Some (file_with limit DEFAULT_SIZE (Old, Little))
create_of limit (word ∷ rest) = option_and_then (λ size. option_map (file_with limit size) (hash_of_words rest)) (size_of word)
