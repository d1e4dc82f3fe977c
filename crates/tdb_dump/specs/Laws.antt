-- The laws of dump text, over the grammar alone.
use Rattle.std.specs.Prelude.{◌≡◌, ℕ, ◌^◌, ◌<◌, List, length}
use Rattle.std.specs.List.{AllByRecursion}
use Rattle.tdb_dump.specs.declared.pairs.Pair.{Pair}
use Rattle.tdb_dump.specs.DumpText.{dump_text}
use Rattle.tdb_dump.specs.Spelled.{Spelled}
use Rattle.tdb_dump.specs.Word.{IsWord, IsBadEscapeAt}

abbrev pub IsByte : ℕ → Type 0
IsByte b = b < 256

-- a pair that a dump text can carry: fewer than 2^32 bytes each
pub record Fits (pair : Pair) : Type 0 where
  pub key_length : length pair.key < 2 ^ 32
  pub value_length : length pair.value < 2 ^ 32
  pub key : AllByRecursion IsByte pair.key
  pub value : AllByRecursion IsByte pair.value

-- the text of a list of pairs spells it
abbrev pub WritesSpelling : Type 0
WritesSpelling = (pairs : List Pair) → AllByRecursion Fits pairs → Spelled (dump_text pairs) pairs

-- a text spells one list of pairs
abbrev pub HasOneSpelling : Type 0
HasOneSpelling = (text : List ℕ) (pairs others : List Pair) → Spelled text pairs → Spelled text others → pairs ≡ others

-- a word stands for one byte string
abbrev pub HasOneWord : Type 0
HasOneWord = (word bytes others : List ℕ) → IsWord word bytes → IsWord word others → bytes ≡ others

-- a word with a bad escape stands for none
abbrev pub HasNoWord : Type 0
HasNoWord = (word bytes : List ℕ) (at : ℕ) → IsBadEscapeAt word at → IsWord word bytes → ⊥
