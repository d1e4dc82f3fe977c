-- What `clap` is told of the options of a command, which words it takes as we do, and what its matches say.
use Rattle.std.specs.Prelude.{◌≡◌, ◌||◌, ℕ, ◌==◌, ◌&&◌, Bool, true, false, not, nat_lt, if◌then◌else◌, Option, None, Some, List, [], ◌∷◌, codes, find, unwrap_or, option_map, option_and_then, slice_get, slice_index, length}
use Rattle.tdb_space.specs.Pairs.{same_key}
use Rattle.clap.specs.Words.{App, Row, Rule, first_of, new_app, new_rule, rule_of, with_rule}
use Rattle.clap.specs.Lexer.{strip_byte}
use Rattle.clap.specs.Walk.{has_row}
use Rattle.clap.specs.declared.builder.arg.Arg.{Arg}
use Rattle.clap.specs.declared.builder.action.ArgAction.{ArgAction}
use Rattle.clap.specs.declared.builder.action.ArgAction.TheVariants.{SetTrue, Append}
use Rattle.clap.specs.declared.parser.matches.ValueSource.{ValueSource}
use Rattle.clap.specs.declared.parser.matches.ValueSource.TheVariants.{DefaultValue, CommandLine}
use Rattle.tdb_cmdline.specs.declared.options.Command.{Command}
use Rattle.tdb_cmdline.specs.declared.options.Kind.{Kind}
use Rattle.tdb_cmdline.specs.declared.options.Kind.TheVariants.{Valued, Flag}
use Rattle.tdb_cmdline.specs.declared.options.GivenOption.{GivenOption}
use Rattle.tdb_cmdline.specs.Options.{options_of, kind_of, parted}
use Rattle.tdb_cmdline.specs.Words.{is_short, is_option}

-- under which the positions are kept; no option has it, since it has no hyphen
abbrev pub positions_id : List ℕ
positions_id = codes "positions"

-- the name behind two hyphens, and the letter behind one
abbrev pub long_name : List ℕ → Option (List ℕ)
long_name name = option_and_then (strip_byte 45) (strip_byte 45 name)

abbrev pub one_letter : List ℕ → Option ℕ
one_letter [] = None
one_letter (x ∷ []) = if x == 45 then None else Some x
one_letter (x ∷ y ∷ ys) = None

abbrev pub short_name : List ℕ → Option ℕ
short_name name = option_and_then one_letter (strip_byte 45 name)

abbrev pub action_told : Kind → Option ArgAction
action_told Valued = None
action_told Flag = Some SetTrue

-- an option as `clap` is told of it; and any number of positions
abbrev pub told_option : List ℕ × Kind → Rule
told_option option = record (new_rule option.0) { long = long_name option.0; short = short_name option.0; action = action_told option.1 }

-- an argument is such a flag, but for how it is written
abbrev pub IsFlagOf : List ℕ → Arg → Type 0
IsFlagOf name arg = (rule_of arg ≡ record (new_rule name) { action = Some SetTrue }) × (arg.global ≡ false)

abbrev pub told_positions : Rule
told_positions = record (new_rule positions_id) { action = Some Append }

abbrev pub with_told : App → List (List ℕ × Kind) → App
with_told app [] = app
with_told app (option ∷ rest) = with_told (with_rule app (told_option option)) rest

abbrev pub bare_app : App
bare_app = let app = new_app [] in record { top = record app.top { no_binary_name = true; disable_help_flag = true }; subs = [] }

-- a command with its options and positions
abbrev pub app_for : Command → App
app_for command = with_rule (with_told bare_app (options_of command)) told_positions

-- a word that `clap` reads as we do where options may stand: behind one hyphen no letters together, none that isn't
-- ASCII, and no value right behind a letter; and no value that is empty behind `=`
abbrev pub some_behind : Option (List ℕ × List ℕ) → Bool
some_behind None = true
some_behind (Some parts) = not (length parts.1 == 0)

abbrev pub stands_alone : List ℕ → Bool
stands_alone word = nat_lt (slice_index word 1) 128 && (length word == 2 || (nat_lt 3 (length word) && slice_index word 2 == 61))

abbrev pub is_plain : List ℕ → Bool
is_plain word =
    if not (is_option word) then true
    else if slice_index word 1 == 45 then some_behind (parted word)
    else stands_alone word

-- no word is too long, and those before `--` are such ones
abbrev pub all_plain : Bool → List (List ℕ) → Bool
all_plain ended [] = true
all_plain ended (word ∷ words) =
    if not (is_short word) then false
    else if ended then all_plain true words
    else if same_key word (codes "--") then all_plain true words
    else is_plain word && all_plain false words

-- the options that the words gave, by the rows of their matches, and the positions
abbrev pub from_words : Option ValueSource → Bool
from_words (Some CommandLine) = true
from_words (Some DefaultValue) = false
from_words None = false

abbrev pub value_given : Option Kind → Option (List ℕ) → Option (List ℕ)
value_given (Some Valued) first = first
value_given (Some Flag) first = None
value_given None first = None

abbrev pub given_by : Command → Row → GivenOption
given_by command row = record { name = row.id; value = value_given (kind_of command row.id) (slice_get row.values 0) }

abbrev pub is_given_row : Row → Bool
is_given_row row = not (same_key row.id positions_id) && from_words row.source

-- the value that came with the option of an id, and that option, where the words gave it
abbrev pub value_of : Command → List ℕ → List Row → Option (List ℕ)
value_of command id rows = value_given (kind_of command id) (first_of id rows)

abbrev pub option_named : Command → List ℕ → Row → Option GivenOption
option_named command id row =
    if not (same_key id positions_id) && from_words row.source
    then Some (record { name = id; value = value_given (kind_of command id) (slice_get row.values 0) }) else None

abbrev pub option_of : Command → List ℕ → List Row → Option GivenOption
option_of command id rows = option_and_then (option_named command id) (find (λ row. same_key row.id id) rows)

abbrev pub options_in : Command → List Row → List GivenOption
options_in command [] = []
options_in command (row ∷ rows) = if is_given_row row then given_by command row ∷ options_in command rows else options_in command rows

abbrev pub positions_in : List Row → List (List ℕ)
positions_in rows = unwrap_or (option_map (λ row. row.values) (find (λ row. same_key row.id positions_id) rows)) []

-- no id has two rows
abbrev pub distinct : List Row → Bool
distinct [] = true
distinct (row ∷ rows) = not (has_row row.id rows) && distinct rows
