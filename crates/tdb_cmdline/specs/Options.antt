-- The words behind a command's name: its options, each with its value or without one, and its positions.
use Rattle.std.specs.Prelude.{ℕ, ◌==◌, Bool, true, false, not, nat_lt, if◌then◌else◌, Option, None, Some, List, [], ◌∷◌, ◌++◌, length, codes}
use Rattle.std.specs.List.{position_or_len, before_first, after_first}
use Rattle.std.specs.Map.{lookup}
use Rattle.std.specs.Option.{option_and_then}
use Rattle.tdb_space.specs.Pairs.{same_key}
use Rattle.tdb_open.specs.declared.limits.TheConstants.{LONGEST_FILE}
use Rattle.tdb_cmdline.specs.declared.options.Command.{Command}
use Rattle.tdb_cmdline.specs.declared.options.Command.TheVariants.{Tool, Dump, Restore, Backup, Convert, Mend, Turns, Generate}
use Rattle.tdb_cmdline.specs.declared.options.Kind.{Kind}
use Rattle.tdb_cmdline.specs.declared.options.Kind.TheVariants.{Valued, Flag}
use Rattle.tdb_cmdline.specs.declared.options.GivenOption.{GivenOption}
use Rattle.tdb_cmdline.specs.declared.options.Line.{Line}
use Rattle.tdb_cmdline.specs.Words.{is_short, is_option, limit_of}

-- the commands of the program, each by its name
abbrev pub commands : List (List ℕ × Command)
commands =
    (codes "tool", Tool)
    ∷ (codes "dump", Dump)
    ∷ (codes "restore", Restore)
    ∷ (codes "backup", Backup)
    ∷ (codes "convert", Convert)
    ∷ (codes "mend", Mend)
    ∷ (codes "turns", Turns)
    ∷ (codes "gen", Generate)
    ∷ []

-- the options of each command by their names: those that take a value, and flags, which take none
abbrev pub options_of : Command → List (List ℕ × Kind)
options_of Tool = (codes "--limit", Valued) ∷ []
options_of Dump = (codes "-k", Valued) ∷ (codes "-e", Flag) ∷ []
options_of Restore = (codes "--limit", Valued) ∷ []
options_of Backup = (codes "-s", Valued) ∷ (codes "-v", Flag) ∷ []
options_of Convert = (codes "--limit", Valued) ∷ (codes "--prefix", Valued) ∷ (codes "--into", Flag) ∷ []
options_of Turns =
    (codes "--limit", Valued) ∷ (codes "--no-nesting", Flag) ∷ (codes "--read-only", Flag) ∷ (codes "--seqnum", Flag) ∷ []
options_of Mend = []
options_of Generate = []

abbrev pub kind_of : Command → List ℕ → Option Kind
kind_of command name = lookup (same_key name) (options_of command)

-- an option of this name is among those that were given; and the value that was given with it
abbrev pub is_given : List ℕ → List GivenOption → Bool
is_given name [] = false
is_given name (first ∷ rest) = if same_key first.name name then true else is_given name rest

abbrev pub told : List ℕ → List GivenOption → Option (List ℕ)
told name [] = None
told name (first ∷ rest) = if same_key first.name name then first.value else told name rest

-- a word NAME=VALUE, parted at its first `=`
abbrev pub parted : List ℕ → Option (List ℕ × List ℕ)
parted word =
    if nat_lt (position_or_len (λ b. b == 61) word) (length word) then Some (before_first (λ b. b == 61) word, after_first (λ b. b == 61) word)
    else None

-- What the words say, as far as they were read: the options that were given, in their order, the positions, the option
-- whose value is the next word, and whether `--` has come
pub record Reading : Type 0 where
  pub options : List GivenOption
  pub positions : List (List ℕ)
  pub waiting : Option (List ℕ)
  pub ended : Bool

-- no word was read yet
abbrev pub unread : Reading
unread = record { options = []; positions = []; waiting = None; ended = false }

-- one more position
abbrev pub with_position : Reading → List ℕ → Option Reading
with_position reading word = Some (record reading { positions = reading.positions ++ word ∷ [] })

-- one more option, which wasn't given yet
abbrev pub with_option : Reading → List ℕ → Option (List ℕ) → Option Reading
with_option reading name value =
    if is_given name reading.options then None
    else Some (record reading { options = reading.options ++ record { name = name; value = value } ∷ [] })

-- an option that takes a value, with one that stands in its own word, behind `=`, and isn't empty
abbrev pub with_value : Option Kind → Reading → List ℕ → List ℕ → Option Reading
with_value (Some Valued) reading name value = if length value == 0 then None else with_option reading name (Some value)
with_value (Some Flag) reading name value = None
with_value None reading name value = None

abbrev pub with_parted : Option (List ℕ × List ℕ) → Command → Reading → Option Reading
with_parted (Some found) command reading = with_value (kind_of command found.0) reading found.0 found.1
with_parted None command reading = None

-- a word that is an option: one whose value is the next word, a flag, or one with its value
abbrev pub with_option_word : Option Kind → Command → Reading → List ℕ → Option Reading
with_option_word (Some Valued) command reading word = Some (record reading { waiting = Some word })
with_option_word (Some Flag) command reading word = with_option reading word None
with_option_word None command reading word = with_parted (parted word) command reading

-- a word where an option may stand: `--`, behind which none does, an option, or a position
abbrev pub with_any : Command → Reading → List ℕ → Option Reading
with_any command reading word =
    if same_key word (codes "--") then Some (record reading { ended = true })
    else if is_option word then with_option_word (kind_of command word) command reading word
    else with_position reading word

-- a word behind an option that takes a value is that value, and no option; behind any other it may be all
abbrev pub with_next : Option (List ℕ) → Command → Reading → List ℕ → Option Reading
with_next (Some name) command reading word = if is_option word then None else with_option reading name (Some word)
with_next None command reading word = with_any command reading word

-- one more word; none may be too long
abbrev pub with_word : Command → Reading → List ℕ → Option Reading
with_word command reading word =
    if not (is_short word) then None
    else if reading.ended then with_position reading word
    else with_next reading.waiting command (record reading { waiting = None }) word

-- all words, where each has a reading
abbrev pub with_words : Command → Reading → List (List ℕ) → Option Reading
with_words command reading [] = Some reading
with_words command reading (word ∷ words) = option_and_then (λ more. with_words command more words) (with_word command reading word)

-- the options and positions that were read, where no option lacks its value at the end
abbrev pub whole : Option (List ℕ) → Reading → Option Line
whole (Some name) reading = None
whole None reading = Some (record { options = reading.options; positions = reading.positions })

abbrev pub line_of : Command → List (List ℕ) → Option Line
line_of command words = option_and_then (λ reading. whole reading.waiting reading) (with_words command unread words)

-- how long the file may be: what `--limit` tells, or that of the longest file; nothing where what it tells is no limit
abbrev pub limit_told : Option (List ℕ) → Option ℕ
limit_told None = Some LONGEST_FILE
limit_told (Some word) = limit_of word

abbrev pub limit_in : Line → Option ℕ
limit_in line = limit_told (told (codes "--limit") line.options)
