-- A file that is built from dump text, and why it isn't built to the end.
use Rattle.std.specs.Prelude.{◌≡◌, ◌⊎◌, ◌^◌, ◌<◌, ◌≤◌, ℕ, List, ◌++◌, length, map, take}
use Rattle.tdb_dump.specs.declared.pairs.Pair.{Pair}
use Rattle.tdb_dump.specs.declared.reader.ReadRefusal as Read
use Rattle.tdb_dump.specs.declared.reader.Reader.{Reader}
use Rattle.tdb_dump.specs.Spelled.{Dump}
use Rattle.tdb_dump.specs.BadAt.{BadAt, BeginsWith}
use Rattle.tdb_dump.specs.Taken.{Took}
use Rattle.tdb_space.specs.Form.{Form}
use Rattle.tdb_log.specs.Logs.{Logged, ToldAll, ToldUpTo}
use Rattle.tdb_backup.specs.Building.{HoldsPairs, HoldsFront, FullFor}
use Rattle.tdb_backup.specs.Growths.{CarriesTold, ToldFront, growths_of}
use Rattle.tdb_backup.specs.declared.restoring.TheConstants.{LONGEST_TEXT}
use Rattle.tdb_backup.specs.declared.refusal.InsertRefusal as Insert
use Rattle.tdb_backup.specs.declared.refusal.RestoreRefusal.{RestoreRefusal}
use Rattle.tdb_backup.specs.declared.refusal.AddRefusal.{AddRefusal}
use Rattle.tdb_backup.specs.declared.refusal.AddRefusal.TheVariants as Add
use Rattle.tdb_backup.specs.declared.refusal.RestoreRefusal.TheVariants.{Input, Io, Malformed, Full, Memory, Log}

-- the keys and values of a dump text
abbrev pub keys_and_values : List Pair → List (List ℕ × List ℕ)
keys_and_values pairs = map (λ p. (p.key, p.value)) pairs

-- the key and the value of a pair have fewer than 2^32 bytes each
pub record IsShort (pair : Pair) : Type 0 where
  pub key : length pair.key < 2 ^ 32
  pub value : length pair.value < 2 ^ 32

-- the text is dump text, not too long, and the image holds its pairs
pub record Restored (limit : ℕ) (first : List ℕ) (f : Form) (img text : List ℕ) : Type 0 where
  pub pairs : List Pair
  pub dump : Dump text pairs
  pub short : length text ≤ LONGEST_TEXT
  pub holds : HoldsPairs limit first f img (keys_and_values pairs)

-- The text isn't dump text that is short enough. Behind the whole records of the pairs it stops to be one at this
-- place, which is where the longest text ends if it is dump text up to there.
pub record StopsAt (text : List ℕ) (pairs : List Pair) (place : ℕ) : Type 0 where
  pub bad : BadAt (take LONGEST_TEXT text) pairs place ⊎ ((LONGEST_TEXT < length text) × Dump (take LONGEST_TEXT text) pairs × (place ≡ LONGEST_TEXT))
  pub never : (others : List Pair) → Dump text others → length text ≤ LONGEST_TEXT → ⊥

-- the image holds the first of the pairs of whole records with which the text begins
abbrev pub HoldsSome : ℕ → List ℕ → Form → List ℕ → List ℕ → Type 0
HoldsSome limit first f img text = (pairs : List Pair) × BeginsWith text pairs × HoldsFront limit first f img (keys_and_values pairs)

-- why not all pairs of the text are added, where the image is this one then
abbrev pub RestoreCause : List ℕ → Form → List ℕ → List ℕ → ℕ → RestoreRefusal → Type 0
RestoreCause first f img text limit Input = HoldsSome limit first f img text
RestoreCause first f img text limit Io = Unit {0}
RestoreCause first f img text limit (Malformed at) = (pairs : List Pair) × StopsAt text pairs at × HoldsPairs limit first f img (keys_and_values pairs)
RestoreCause first f img text limit (Full len need) = (pairs : List Pair) × BeginsWith text pairs × FullFor first f img (keys_and_values pairs) limit len need
RestoreCause first f img text limit Memory = HoldsSome limit first f img text
RestoreCause first f img text limit (Log refusal) = HoldsSome limit first f img text

-- the text is dump text, and logs heard of each growth by its pairs
abbrev pub TextTold : ℕ → Form → List ℕ → List ℕ → List Logged → List Logged → Type 0
TextTold limit f first text old new = (pairs : List Pair) × Dump text pairs × ToldAll (growths_of limit f first (keys_and_values pairs)) old new

-- logs heard of the growths by the first of the pairs of whole records with which the text begins
abbrev pub ToldSome : ℕ → Form → List ℕ → List ℕ → List Logged → List Logged → Type 0
ToldSome limit f first text old new = (pairs : List Pair) × BeginsWith text pairs × ToldFront limit f first (keys_and_values pairs) old new

-- What logs heard where not all pairs of the text are added: the growths up to some pair; where there was no room for
-- one, or the text stops to be dump text, all that there are; and where the last log refused one, those before it.
abbrev pub TextHeard : ℕ → Form → List ℕ → List ℕ → List Logged → List Logged → RestoreRefusal → Type 0
TextHeard limit f first text old new Input = ToldSome limit f first text old new
TextHeard limit f first text old new Io = ToldSome limit f first text old new
TextHeard limit f first text old new (Malformed at) = (pairs : List Pair) × StopsAt text pairs at × ToldAll (growths_of limit f first (keys_and_values pairs)) old new
TextHeard limit f first text old new (Full len need) = (pairs : List Pair) × BeginsWith text pairs × ToldAll (growths_of limit f first (keys_and_values pairs)) old new
TextHeard limit f first text old new Memory = ToldSome limit f first text old new
TextHeard limit f first text old new (Log refusal) = (pairs : List Pair) × BeginsWith text pairs × ToldUpTo refusal (growths_of limit f first (keys_and_values pairs)) old new

-- a reader of some text, which has given some pairs
abbrev pub IsReading : Reader → Type 0
IsReading r = (text : List ℕ) × (pairs : List Pair) × Took text pairs r

-- A reader has taken a piece behind a text, and given pairs behind others. Where it is told so, and image a holds those
-- others, image b holds them all, and logs heard of each growth.
pub record WentOn (limit : ℕ) (told : Type 0) (f : Form) (a b text : List ℕ) (before : List Pair) (piece : List ℕ) (r : Reader) (old new : List Logged) : Type 0 where
  pub pairs : List Pair
  pub took : Took (text ++ piece) (before ++ pairs) r
  pub holds : told → (first : List ℕ) → HoldsPairs limit first f a (keys_and_values before) → HoldsPairs limit first f b (keys_and_values (before ++ pairs))
  pub heard : told → (first : List ℕ) → HoldsPairs limit first f a (keys_and_values before) → CarriesTold limit f first (keys_and_values before) (keys_and_values (before ++ pairs)) old new

-- a piece was taken so, whatever the reader had taken before
abbrev pub PieceAdded : ℕ → Type 0 → Form → List ℕ → List ℕ → Reader → Reader → List ℕ → List Logged → List Logged → Type 0
PieceAdded limit told f a b old new piece logs later = (text : List ℕ) (before : List Pair) → Took text before old → WentOn limit told f a b text before piece new logs later

-- why a piece wasn't taken, or its pairs weren't added, whatever the reader had taken before and whatever follows
abbrev pub PieceCause : Type 0 → Form → List ℕ → List ℕ → Reader → List ℕ → ℕ → RestoreRefusal → Type 0
PieceCause told f a b old piece limit e = (text more : List ℕ) (before : List Pair) → Took text before old → length (text ++ piece) ≤ LONGEST_TEXT
    → told → (first : List ℕ) → HoldsPairs limit first f a (keys_and_values before) → RestoreCause first f b ((text ++ piece) ++ more) limit e

-- what logs heard then, in the same way, whatever they heard before of the growths by those pairs
abbrev pub PieceHeard : Type 0 → Form → List ℕ → Reader → List ℕ → ℕ → List Logged → List Logged → RestoreRefusal → Type 0
PieceHeard told f a old piece limit logs later e = (text more : List ℕ) (before : List Pair) → Took text before old → length (text ++ piece) ≤ LONGEST_TEXT
    → told → (first : List ℕ) → HoldsPairs limit first f a (keys_and_values before) → (start : List Logged) → ToldAll (growths_of limit f first (keys_and_values before)) start logs
    → TextHeard limit f first ((text ++ piece) ++ more) start later e

-- a restore is refused as the text that it is to read
abbrev pub of_text : Read.ReadRefusal → RestoreRefusal
of_text (Read.TheVariants.Malformed at) = Malformed at
of_text Read.TheVariants.Memory = Memory

-- and as the pair that it is to add
abbrev pub of_pair : Insert.InsertRefusal → RestoreRefusal
of_pair (Insert.TheVariants.Full len need) = Full len need
of_pair Insert.TheVariants.Io = Io
of_pair Insert.TheVariants.Memory = Memory

-- and to tell of
abbrev pub of_added_pair : AddRefusal → RestoreRefusal
of_added_pair (Add.Insert e) = of_pair e
of_added_pair (Add.Log refusal) = Log refusal
