-- A word of a command stands for no more bytes than it has.
use Rattle.std.proofs.Common.{ℕ, ◌<◌, ◌≤◌, length, length-append, List, [], ◌∷◌, ap, inl, inr, arith}
use Rattle.tdb_dump.specs.Escape.{IsLetter, Letters}
use Rattle.tdb_dump.specs.Word.{stands_in_word, IsWord}

-- a reading is no longer than its text
pub letters_short : (text bytes : List ℕ) → Letters stands_in_word text bytes → length bytes ≤ length text
letters_short text [] p = omega arith
letters_short text (b ∷ bytes) p =
    let rest = letters_short p.1 bytes p.4 in
    let some : 0 < length p.0 = letter_length p.0 b p.3 in
    omega (arith, rest, some, ap length p.2, length-append p.0 p.1)
  where
    letter_length : (front : List ℕ) (c : ℕ) → IsLetter stands_in_word front c → 0 < length front
    letter_length front c (inl l) = omega (arith, ap length l.0)
    letter_length front c (inr l) = omega (arith, ap length l.4)

-- a word's bytes are no more than its own
pub word_short : (word bytes : List ℕ) → IsWord word bytes → length bytes ≤ length word
word_short word bytes (inl p) = omega (arith, ap length p.1)
word_short word bytes (inr p) = letters_short word bytes p.1
