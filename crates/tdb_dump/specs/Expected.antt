-- What may still come of a dump text: for each state of the reader, the texts that complete it, with their pairs.
use Rattle.std.specs.Prelude.{◌≡◌, ◌≢◌, ℕ, ◌+◌, ◌*◌, ◌^◌, ◌<◌, Option, None, Some, List, [], ◌∷◌, ◌++◌, length, codes, decimal}
use Rattle.tdb_dump.specs.declared.pairs.Pair.{Pair}
use Rattle.tdb_dump.specs.declared.partial.Field.{Field}
use Rattle.tdb_dump.specs.declared.partial.Field.TheVariants.{Key, Data}
use Rattle.tdb_dump.specs.declared.partial.Step.{Step}
use Rattle.tdb_dump.specs.declared.partial.Step.TheVariants.{Between, Count, Text, Escape, SecondDigit, Close}
use Rattle.tdb_dump.specs.declared.partial.Taken.{Taken}
use Rattle.tdb_dump.specs.declared.partial.Taken.TheVariants.{More, Ended, Refused}
use Rattle.tdb_dump.specs.declared.partial.Move.{Move}
use Rattle.tdb_dump.specs.declared.partial.Move.TheVariants.{Refuse, Open, Go, Put, StartText, EndField, Whole}
use Rattle.tdb_dump.specs.Escape.{is_plain, hex_value, Letters}
use Rattle.tdb_dump.specs.Spelled.{Spelled}

-- fixed bytes, and then what is asked of the rest
abbrev pub Behind : List ℕ → (List ℕ → List Pair → Type 0) → List ℕ → List Pair → Type 0
Behind [] then text pairs = then text pairs
Behind (c ∷ cs) then text pairs = (rest : List ℕ) × (text ≡ c ∷ rest) × Behind cs then rest pairs

-- the rest of a count below 2^32, whose digits so far make this number, and a parenthesis
abbrev pub CountThen : Option ℕ → (ℕ → List ℕ → List Pair → Type 0) → List ℕ → List Pair → Type 0
CountThen None then text pairs = (n : ℕ) × (rest : List ℕ) × (n < 2 ^ 32) × (text ≡ decimal n ++ 41 ∷ rest) × then n rest pairs
CountThen (Some m) then text pairs = (n : ℕ) × (digits : List ℕ) × (rest : List ℕ) × (n < 2 ^ 32) × (decimal n ≡ decimal m ++ digits) × (text ≡ digits ++ 41 ∷ rest) × then n rest pairs

-- letters for so many bytes, behind the bytes that came
abbrev pub TextThen : ℕ → List ℕ → (List ℕ → List ℕ → List Pair → Type 0) → List ℕ → List Pair → Type 0
TextThen left came then text pairs = (letters : List ℕ) × (bytes : List ℕ) × (rest : List ℕ) × (length bytes ≡ left) × Letters is_plain letters bytes × (text ≡ letters ++ rest) × then (came ++ bytes) rest pairs

-- the second digit of an escape whose first digit came, and letters for so many bytes behind it
abbrev pub SecondDigitThen : ℕ → ℕ → List ℕ → (List ℕ → List ℕ → List Pair → Type 0) → List ℕ → List Pair → Type 0
SecondDigitThen left first came then text pairs = (high : ℕ) × (low : ℕ) × (second : ℕ) × (rest : List ℕ) × (hex_value first ≡ Some high) × (hex_value second ≡ Some low) × (text ≡ second ∷ rest)
    × TextThen left (came ++ (16 * high + low) ∷ []) then rest pairs

-- the two digits of an escape, and letters for so many bytes behind it
abbrev pub EscapeThen : ℕ → List ℕ → (List ℕ → List ℕ → List Pair → Type 0) → List ℕ → List Pair → Type 0
EscapeThen left came then text pairs = (first : ℕ) × (rest : List ℕ) × (text ≡ first ∷ rest) × SecondDigitThen left first came then rest pairs

-- behind the bracket that ends a record: a newline, and the records after it
abbrev pub CloseThen : List ℕ → List ℕ → List ℕ → List Pair → Type 0
CloseThen key value text pairs = (rest : List ℕ) × (more : List Pair) × (text ≡ 10 ∷ rest) × (pairs ≡ record { key = key; value = value } ∷ more) × Spelled rest more

-- behind the letters of a value
abbrev pub AfterValue : List ℕ → List ℕ → List ℕ → List Pair → Type 0
AfterValue key value = Behind (codes "\"\n}") (CloseThen key value)

-- behind the letters of a key: the line of the value
abbrev pub AfterKey : List ℕ → List ℕ → List ℕ → List Pair → Type 0
AfterKey value key = Behind (codes "\"\ndata(") (CountThen None (λ n. Behind (codes " = \"") (TextThen n value (AfterValue key))))

-- behind the letters of a field
abbrev pub AfterField : Field → List ℕ → List ℕ → List ℕ → List ℕ → List Pair → Type 0
AfterField Key key value = AfterKey value
AfterField Data key value = AfterValue key

-- the bytes of a field that came
abbrev pub came_of : Field → List ℕ → List ℕ → List ℕ
came_of Key key value = key
came_of Data key value = value

-- what may come at a step, where these bytes of key and value came
abbrev pub Next : Step → Field → List ℕ → List ℕ → List ℕ → List Pair → Type 0
Next Between field key value = Spelled
Next (Count n) field key value = CountThen n (λ n. Behind (codes " = \"") (TextThen n (came_of field key value) (AfterField field key value)))
Next (Text left) field key value = TextThen left (came_of field key value) (AfterField field key value)
Next (Escape left) field key value = EscapeThen left (came_of field key value) (AfterField field key value)
Next (SecondDigit left first) field key value = SecondDigitThen left first (came_of field key value) (AfterField field key value)
Next Close field key value = CloseThen key value

-- what a reader has of a record: fixed bytes that must come, the step behind them, and the bytes that came
pub record State : Type 0 where
  pub fixed : List ℕ
  pub step : Step
  pub field : Field
  pub key : List ℕ
  pub value : List ℕ

-- the texts that may still come, with the pairs that become whole in them
abbrev pub Expected : State → List ℕ → List Pair → Type 0
Expected s = Behind s.fixed (Next s.step s.field s.key s.value)

-- some text completes the state
abbrev pub IsAlive : State → Type 0
IsAlive s = (text : List ℕ) × (pairs : List Pair) × Expected s text pairs

-- a byte leads from a state inside the text to one inside a record: what is expected behind it is what the first
-- expects
pub record Leads (s : State) (c : ℕ) (t : State) : Type 0 where
  pub on : (more : List ℕ) (pairs : List Pair) → Expected s (c ∷ more) pairs → Expected t more pairs
  pub back : (more : List ℕ) (pairs : List Pair) → Expected t more pairs → Expected s (c ∷ more) pairs
  pub alive : IsAlive t
  pub inside : t.step ≢ Between

-- a byte ends the record at hand
pub record Ends (s : State) (c : ℕ) : Type 0 where
  pub on : (more : List ℕ) (pairs : List Pair) → Expected s (c ∷ more) pairs → (rest : List Pair) × (pairs ≡ record { key = s.key; value = s.value } ∷ rest) × Spelled more rest
  pub back : (more : List ℕ) (rest : List Pair) → Spelled more rest → Expected s (c ∷ more) (record { key = s.key; value = s.value } ∷ rest)

-- no text goes on with the byte
abbrev pub Bars : State → ℕ → Type 0
Bars s c = (more : List ℕ) (pairs : List Pair) → Expected s (c ∷ more) pairs → ⊥

-- bytes more of the field
abbrev pub key_more : Field → List ℕ → List ℕ → List ℕ
key_more Key key bytes = key ++ bytes
key_more Data key bytes = key

abbrev pub value_more : Field → List ℕ → List ℕ → List ℕ
value_more Key value bytes = value
value_more Data value bytes = value ++ bytes

-- a step with no fixed bytes before it
abbrev pub at_step : Step → Field → List ℕ → List ℕ → State
at_step step field key value = record { fixed = []; step = step; field = field; key = key; value = value }

-- behind the quote that ends a field
abbrev pub after_quote : Field → List ℕ → List ℕ → State
after_quote Key key value = record { fixed = codes "\ndata("; step = Count None; field = Data; key = key; value = value }
after_quote Data key value = record { fixed = codes "\n}"; step = Close; field = Data; key = key; value = value }

-- a move says what a byte does at a step, whatever bytes came
abbrev pub Moves : Step → Field → ℕ → Move → Type 0
Moves step field c Refuse = (key value : List ℕ) → Bars (at_step step field key value) c
Moves step field c Open = (key value : List ℕ) → Leads (at_step step field key value) c (record { fixed = codes "\nkey("; step = Count None; field = Key; key = []; value = [] })
Moves step field c (Go next) = (key value : List ℕ) → Leads (at_step step field key value) c (at_step next field key value)
Moves step field c (Put b next) = (key value : List ℕ) → Leads (at_step step field key value) c (at_step next field (key_more field key (b ∷ [])) (value_more field value (b ∷ [])))
Moves step field c (StartText n) = (key value : List ℕ) → Leads (at_step step field key value) c (record { fixed = codes " = \""; step = Text n; field = field; key = key; value = value })
Moves step field c EndField = (key value : List ℕ) → Leads (at_step step field key value) c (after_quote field key value)
Moves step field c Whole = (key value : List ℕ) → Ends (at_step step field key value) c

-- bytes lead from one state to another, one after the other
abbrev pub LeadsAll : State → List ℕ → State → Type 0
LeadsAll s [] t = t ≡ s
LeadsAll s (c ∷ cs) t = (middle : State) × Leads s c middle × LeadsAll middle cs t

-- bytes more of the field
abbrev pub with_bytes : State → List ℕ → State
with_bytes s bytes = record { fixed = s.fixed; step = s.step; field = s.field; key = key_more s.field s.key bytes; value = value_more s.field s.value bytes }

-- the state that a move makes of one without fixed bytes
abbrev pub moved : Move → State → State
moved Refuse s = s
moved Open s = record { fixed = codes "\nkey("; step = Count None; field = Key; key = []; value = [] }
moved (Go next) s = record s { step = next }
moved (Put b next) s = record (with_bytes s (b ∷ [])) { step = next }
moved (StartText n) s = record s { fixed = codes " = \""; step = Text n }
moved EndField s = after_quote s.field s.key s.value
moved Whole s = s

-- what has come of the record when a move was made
abbrev pub taken_of : Move → Taken
taken_of Refuse = Refused
taken_of Open = More
taken_of (Go next) = More
taken_of (Put b next) = More
taken_of (StartText n) = More
taken_of EndField = More
taken_of Whole = Ended

-- a state that some text completes, with no fixed bytes between records
pub record IsSound (s : State) : Type 0 where
  pub alive : IsAlive s
  pub settled : s.step ≡ Between → s.fixed ≡ []

-- what a byte does in a state
abbrev pub TakesByte : State → ℕ → State → Taken → Type 0
TakesByte s c t More = IsSound s → Leads s c t
TakesByte s c t Ended = Ends s c × (t ≡ s)
TakesByte s c t Refused = Bars s c
