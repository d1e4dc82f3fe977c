-- Where a text stops to be dump text.
use Rattle.std.specs.Prelude.{◌≡◌, ℕ, ◌≤◌, true, List, ◌++◌, length, take, ◌⊎◌}
use Rattle.tdb_dump.specs.declared.pairs.Pair.{Pair}
use Rattle.tdb_dump.specs.Spelled.{IsRecord, Spelled, has_key, Dump}

-- a text of the grammar begins so
abbrev pub Begins : List ℕ → Type 0
Begins text = (more : List ℕ) × (pairs : List Pair) × Spelled (text ++ more) pairs

-- the text begins with the whole records of these pairs, no two of which have one key
abbrev pub BeginsWith : List ℕ → List Pair → Type 0
BeginsWith text pairs = (front : List ℕ) × (rest : List ℕ) × (text ≡ front ++ rest) × Dump front pairs

-- the length of the longest front of the text with which a text of the grammar begins
pub record IsLongest (text : List ℕ) (n : ℕ) : Type 0 where
  pub within : n ≤ length text
  pub begins : Begins (take n text)
  pub longest : (m : ℕ) → m ≤ length text → Begins (take m text) → m ≤ n

-- the text begins with a whole record whose key one of the pairs has
abbrev pub Repeats : List ℕ → List Pair → Type 0
Repeats text pairs = (front : List ℕ) × (rest : List ℕ) × (pair : Pair) × (text ≡ front ++ rest) × IsRecord front pair × (has_key pairs pair.key ≡ true)

-- the text begins with no whole record
abbrev pub NoRecord : List ℕ → Type 0
NoRecord text = (front rest : List ℕ) (pair : Pair) → text ≡ front ++ rest → IsRecord front pair → ⊥

-- The text stops to be dump text at this place, behind the whole records of the pairs, no two of which have one key:
-- at the bracket of the next record, where it is whole and its key came before, and else where no text of the grammar
-- goes on as this one does.
pub record BadAt (text : List ℕ) (pairs : List Pair) (place : ℕ) : Type 0 where
  pub front : List ℕ
  pub rest : List ℕ
  pub whole : text ≡ front ++ rest
  pub records : Dump front pairs
  pub cause : (Repeats rest pairs × (place ≡ length front)) ⊎ (NoRecord rest × IsLongest text place)
