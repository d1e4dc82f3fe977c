-- What `clap` answers to the words of a command, and what the line says of them.
use Rattle.std.proofs.Common.{◌≡◌, true, false, List, [], Option, Some, None, refl, sym, ◌∙◌, ap, ap₂, subst, fold}
use Rattle.std.proofs.lemmas.Bool.{false≢true}
use Rattle.clap.specs.Words.{Row, matches_of}
use Rattle.clap.specs.Kinds.{IsAmong, Kinds}
use Rattle.clap.specs.declared.error.kind.ErrorKind.{ErrorKind}
use Rattle.clap.specs.Walk.{idle, nothing_held, rows_after, walk_from, with_default}
use Rattle.clap.specs.Simple.{argument_words, entered, names_of}
use Rattle.clap.specs.Faults.{built_fault, entered_fault, fault_of}
use Rattle.tdb_cmdline.specs.declared.options.Command.{Command}
use Rattle.tdb_cmdline.specs.declared.options.Command.TheVariants.{Tool, Dump, Restore, Backup, Convert, Mend, Turns, Generate}
use Rattle.tdb_cmdline.specs.declared.options.Line.{Line}
use Rattle.tdb_cmdline.specs.Options.{options_of, line_of}
use Rattle.tdb_cmdline.specs.Clap.{app_for, all_plain, options_in, positions_in, distinct}
use Rattle.tdb_cmdline.proofs.Clap.Rules.{rules, shape, built_app, names}
use Rattle.tdb_cmdline.proofs.Clap.Words.{Text, fails, or_else-nil}
use Rattle.tdb_cmdline.proofs.Clap.Rows.{Ends, shows_nothing, ends_defaults, defaults_pass, check_passes}
use Rattle.tdb_cmdline.proofs.Clap.Runs.{Agrees, run, run_fault, run_rows}

all_words : (command : Command) (words : List Text) → argument_words (app_for command) words ≡ words
all_words Tool words = refl
all_words Dump words = refl
all_words Restore words = refl
all_words Backup words = refl
all_words Convert words = refl
all_words Mend words = refl
all_words Turns words = refl
all_words Generate words = refl

-- no subcommand is entered
none_entered : (command : Command) (stop : Option (Text × List Text)) → entered (record { top = shape (options_of command); subs = [] }) stop ≡ None
none_entered command None = refl
none_entered command (Some p) = refl

none_below : (command : Command) (stop : Option (Text × List Text)) → entered_fault (record { top = shape (options_of command); subs = [] }) stop ≡ []
none_below command None = refl
none_below command (Some p) = refl

fault_is : (command : Command) (words : List Text) → fault_of (app_for command) words ≡ run_fault command (walk_from nothing_held) words
fault_is command words =
    ap₂ (λ a ws. built_fault a nothing_held ws) (built_app command) (all_words command words)
    ∙ rw (none_below command, none_entered command, check_passes (options_of command), defaults_pass (options_of command), or_else-nil) refl

rows_are : (command : Command) (words : List Text) → matches_of (app_for command) words ≡ fold with_default (run_rows command (walk_from nothing_held) words) (rules (options_of command))
rows_are command words = ap₂ (λ a ws. rows_after a.top.rules (names_of a) ws) (built_app command) (all_words command words)

-- the line that rows show
abbrev pub line_in : Command → List Row → Line
line_in command rows = record { options = options_in command rows; positions = positions_in rows }

-- the answer is an error where the line has no reading, and shows the line elsewhere
abbrev pub Judged : Command → Option Line → Kinds → List Row → Type 0
Judged command None f rows = fails f ≡ true
Judged command (Some line) f rows = (f ≡ []) × (distinct rows ≡ true) × (line ≡ line_in command rows)

pub judged : (command : Command) (words : List Text) → all_plain false words ≡ true → Judged command (line_of command words) (fault_of (app_for command) words) (matches_of (app_for command) words)
judged command words plain = rw (fault_is command words, rows_are command words) (go (line_of command words) (run command words [] [] None false (walk_from nothing_held) (record {
  rows = [];
  pending = None;
  waiting = idle;
  is_idle = tt;
  at = refl;
  settles = refl;
  shows = shows_nothing command;
}) plain))
  where
    go : (line : Option Line) → Agrees command line (run_fault command (walk_from nothing_held) words) (run_rows command (walk_from nothing_held) words)
        → Judged command line (run_fault command (walk_from nothing_held) words) (fold with_default (run_rows command (walk_from nothing_held) words) (rules (options_of command)))
    go None agrees = agrees
    go (Some line) agrees =
        let ends : Ends command line.options line.positions (fold with_default (run_rows command (walk_from nothing_held) words) (rules (options_of command))) =
        ends_defaults command (options_of command) line.options line.positions (run_rows command (walk_from nothing_held) words) (names command) (record { options = agrees.1.options; positions = agrees.1.positions; apart = agrees.1.apart }) in
        (agrees.0, ends.apart, λ j. record { options = sym ends.options j; positions = sym ends.positions j })

-- an answer is no line
pub no_line : (command : Command) (words : List Text) (k : ErrorKind) → all_plain false words ≡ true → IsAmong k (fault_of (app_for command) words) → None ≡ line_of command words
no_line command words k plain among = go (line_of command words) (judged command words plain)
  where
    go : (line : Option Line) → Judged command line (fault_of (app_for command) words) (matches_of (app_for command) words) → None ≡ line
    go None j = refl
    go (Some line) j = absurd (subst (IsAmong k) j.0 among)

-- matches are its
pub line_shown : (command : Command) (words : List Text) (rows : List Row) → all_plain false words ≡ true → fault_of (app_for command) words ≡ [] → rows ≡ matches_of (app_for command) words
    → (distinct rows ≡ true) × (Some (line_in command rows) ≡ line_of command words)
line_shown command words rows plain none are = go (line_of command words) (judged command words plain)
  where
    go : (line : Option Line) → Judged command line (fault_of (app_for command) words) (matches_of (app_for command) words)
        → (distinct rows ≡ true) × (Some (line_in command rows) ≡ line)
    go None j = absurd (false≢true (sym (ap fails none) ∙ j))
    go (Some line) j = (ap distinct are ∙ j.1, ap (λ rs. Some (line_in command rs)) are ∙ ap Some (sym j.2))
