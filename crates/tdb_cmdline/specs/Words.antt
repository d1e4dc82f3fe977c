-- What single words of a command line stand for.
use Rattle.std.specs.Prelude.{◌≡◌, ℕ, ◌≤◌, ◌+◌, ◌*◌, ◌==◌, Bool, true, ◌&&◌, nat_lt, nat_le, if◌then◌else◌, Option, None, Some, List, [], ◌∷◌, length, slice_index}
use Rattle.std.specs.Option.{option_map}
use Rattle.std.specs.Str.Parse.{IsNumeral, digits_value}
use Rattle.std.specs.Char.{digit_value}
use Rattle.tdb_dump.specs.Escape.{hex_value}
use Rattle.tdb_space.specs.Pairs.{same_key}
use Rattle.tdb_open.specs.declared.limits.TheConstants.{LONGEST_FILE}
use Rattle.tdb_cmdline.specs.declared.limits.TheConstants.{LONGEST_WORD, LONGEST_NUMBER, MOST_CHAINS}
use Rattle.tdb_cmdline.specs.Hex.{hex_bytes}

-- a word that isn't too long
abbrev pub is_short : List ℕ → Bool
is_short word = nat_le (length word) LONGEST_WORD

-- where options may stand: a word that begins with `-` and is longer is one, and no other is
abbrev pub is_option : List ℕ → Bool
is_option word = nat_lt 1 (length word) && (slice_index word 0 == 45)

-- the byte that two hexadecimal digits write, in front of what the rest stands for
abbrev pub escaped : Option ℕ → Option ℕ → Option (List ℕ) → Option (List ℕ)
escaped None low rest = None
escaped (Some high) None rest = None
escaped (Some high) (Some low) rest = option_map (λ bytes. (16 * high + low) ∷ bytes) rest

-- what the letters of a word stand for: `\` and two hexadecimal digits of either case are one byte, and any other
-- byte is itself
abbrev pub letters_of : List ℕ → Option (List ℕ)
letters_of [] = Some []
letters_of (b ∷ []) = if b == 92 then None else Some (b ∷ [])
letters_of (b ∷ c ∷ []) = if b == 92 then None else option_map (λ bytes. b ∷ bytes) (letters_of (c ∷ []))
letters_of (b ∷ c ∷ d ∷ rest) =
    if b == 92 then escaped (hex_value c) (hex_value d) (letters_of rest)
    else option_map (λ bytes. b ∷ bytes) (letters_of (c ∷ d ∷ rest))

-- the bytes that a word stands for: none for the two characters `""` alone, else one for each letter
abbrev pub bytes_of : List ℕ → Option (List ℕ)
bytes_of word = if same_key word (34 ∷ 34 ∷ []) then Some [] else letters_of word

-- the bytes of a word that stands for a key or a value
abbrev pub value_of : List ℕ → Option (List ℕ)
value_of word = if is_short word then bytes_of word else None

-- the same of a word of pairs of hexadecimal digits
abbrev pub hex_value_of : List ℕ → Option (List ℕ)
hex_value_of word = if is_short word then hex_bytes word else None

-- a word of one digit or more and nothing else
abbrev pub all_digits : List ℕ → Bool
all_digits [] = true
all_digits (c ∷ cs) = nat_lt (digit_value c) 10 && all_digits cs

abbrev pub is_numeral : List ℕ → Bool
is_numeral word = nat_lt 0 (length word) && all_digits word

-- a word of one to ten decimal digits, which write this number, from the least to the most that is allowed
pub record IsNumber (least most : ℕ) (word : List ℕ) (n : ℕ) : Type 0 where
  pub numeral : IsNumeral 10 word
  pub short : length word ≤ LONGEST_NUMBER
  pub value : n ≡ digits_value 10 word
  pub no_less : least ≤ n
  pub no_more : n ≤ most

-- whether a word is such one, and the number that it writes
abbrev pub is_number : ℕ → ℕ → List ℕ → Bool
is_number least most word =
    is_numeral word && (nat_le (length word) LONGEST_NUMBER && (nat_le least (digits_value 10 word) && nat_le (digits_value 10 word) most))

abbrev pub number_of : ℕ → ℕ → List ℕ → Option ℕ
number_of least most word = if is_number least most word then Some (digits_value 10 word) else None

-- a number of chains
abbrev pub size_of : List ℕ → Option ℕ
size_of word = number_of 1 MOST_CHAINS word

-- the length that a file may have at most: that of a new file of 131 chains, or more
abbrev pub limit_of : List ℕ → Option ℕ
limit_of word = number_of 696 LONGEST_FILE word

-- how many commands are to be generated, and the number of 32 bits that they are made of
abbrev pub commands_of : List ℕ → Option ℕ
commands_of word = number_of 0 1000000 word

abbrev pub seed_of : List ℕ → Option ℕ
seed_of word = number_of 0 4294967295 word

-- what the one word of a list stands for, or its two or three words together; nothing where there are more or fewer
abbrev pub of_one : {A B : Type 0} → (A → Option B) → List A → Option B
of_one read [] = None
of_one read (word ∷ []) = read word
of_one read (word ∷ more ∷ rest) = None

abbrev pub of_two : {A B : Type 0} → (A → A → Option B) → List A → Option B
of_two read [] = None
of_two read (word ∷ []) = None
of_two read (first ∷ second ∷ []) = read first second
of_two read (first ∷ second ∷ more ∷ rest) = None

abbrev pub of_three : {A B : Type 0} → (A → A → A → Option B) → List A → Option B
of_three read [] = None
of_three read (word ∷ []) = None
of_three read (first ∷ second ∷ []) = None
of_three read (first ∷ second ∷ third ∷ []) = read first second third
of_three read (first ∷ second ∷ third ∷ more ∷ rest) = None
