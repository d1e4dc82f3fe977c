-- The text of what is shown of an image: lines of a word and numbers.
use Rattle.std.specs.Prelude.{ℕ, List, [], ◌∷◌, ◌++◌, length, codes, decimal}
use Rattle.std.specs.List.{flat_map}
use Rattle.tdb_words.specs.declared.hash.HashKind.{HashKind}
use Rattle.tdb_words.specs.declared.hash.HashKind.TheVariants.{Old, Jenkins}
use Rattle.tdb_words.specs.declared.word.Order.{Order}
use Rattle.tdb_words.specs.declared.word.Order.TheVariants.{Little, Big}
use Rattle.tdb_words.specs.Header.{sequence_of}
use Rattle.tdb_space.specs.Form.{Form, form_of}
use Rattle.tdb_space.specs.Chain.{free_of}
use Rattle.tdb_free.specs.FreeList.{free_pairs}
use Rattle.tdb_rewrite.specs.Lines.{all_lines}
use Rattle.tdb_rewrite.specs.Summary.{summary_of}
use Rattle.tdb_rewrite.specs.declared.numbers.Summary.{Summary}
use Rattle.tdb_rewrite.specs.declared.spot.Spot.{Spot}
use Rattle.tdb_rewrite.specs.declared.spot.Spot.TheVariants.{Chain, Used, Dead}

-- a number with a space in front
abbrev pub spaced_number : ℕ → List ℕ
spaced_number n = codes " " ++ decimal n

-- a word and numbers, a space in front of each of them, and a newline
abbrev pub number_line : List ℕ → List ℕ → List ℕ
number_line word numbers = word ++ flat_map spaced_number numbers ++ codes "\n"

-- the line of a chain, of a used record or of a dead one
abbrev pub spot_text : Spot → List ℕ
spot_text (Chain chain count) = number_line (codes "chain") (chain ∷ count ∷ [])
spot_text (Used at key_len data_len rec_len) = number_line (codes "used") (at ∷ key_len ∷ data_len ∷ rec_len ∷ [])
spot_text (Dead at rec_len) = number_line (codes "dead") (at ∷ rec_len ∷ [])

-- the lines of some chains and their records
abbrev pub spots_text : List Spot → List ℕ
spots_text spots = flat_map spot_text spots

-- the lines of the chains of an image, each with its records
abbrev pub chains_text : Form → List ℕ → List ℕ
chains_text f img = spots_text (all_lines f img)

-- the line of a free record: its offset, and how many bytes follow its header
abbrev pub free_line : ℕ × ℕ → List ℕ
free_line r = number_line (codes "free") (r.0 ∷ r.1 ∷ [])

-- the lines of the free list of an image, from its head on
abbrev pub free_text : Form → List ℕ → List ℕ
free_text f img = flat_map free_line (free_pairs f img (free_of f img))

-- the names of the hashes and of the byte orders, as a file is made with them
abbrev pub hash_word : HashKind → List ℕ
hash_word Old = codes "default"
hash_word Jenkins = codes "jenkins"

abbrev pub order_word : Order → List ℕ
order_word Little = codes "little"
order_word Big = codes "big"

-- the hash, the number of chains and the byte order
abbrev pub form_line : Form → List ℕ
form_line f = codes "hash " ++ hash_word f.hash ++ spaced_number f.chains ++ codes " " ++ order_word f.order ++ codes "\n"

-- the lines of what a summary counts
abbrev pub counts_text : Summary → List ℕ
counts_text sum =
    number_line (codes "keys") (sum.report.live ∷ [])
    ++ number_line (codes "dead") (sum.report.dead_records ∷ [])
    ++ number_line (codes "free") (sum.report.free_records ∷ [])
    ++ number_line (codes "deadbytes") (sum.report.dead_bytes ∷ [])
    ++ number_line (codes "area") (sum.report.area ∷ [])
    ++ number_line (codes "keybytes") (sum.key_bytes ∷ [])
    ++ number_line (codes "databytes") (sum.data_bytes ∷ [])
    ++ number_line (codes "largestfree") (sum.largest_free ∷ [])

-- the text of a summary, of a file of so many bytes with this form and this sequence number
abbrev pub summary_text : ℕ → Form → ℕ → Summary → List ℕ
summary_text len f sequence sum =
    number_line (codes "size") (len ∷ []) ++ form_line f ++ number_line (codes "sequence") (sequence ∷ []) ++ counts_text sum

-- the text of the summary of an image
abbrev pub info_text : List ℕ → List ℕ
info_text img = summary_text (length img) (form_of img) (sequence_of img) (summary_of img)
