-- What a script says.
use Rattle.std.specs.Prelude.{◌≡◌, ℕ, ◌+◌, ◌<◌, ◌≤◌, ◌==◌, ◌⊎◌, Bool, true, false, List, [], ◌∷◌, ◌++◌, length, slice_index, Option, Some, None}
use Rattle.tdb_dump.specs.Word.{IsWord}
use Rattle.tdb_commands.specs.declared.command.Command.{Command}
use Rattle.tdb_commands.specs.declared.play.Play.{Play}
use Rattle.tdb_script.specs.declared.limits.TheConstants.{LONGEST_SCRIPT}
use Rattle.tdb_script.specs.declared.script.ScriptRefusal.{ScriptRefusal}
use Rattle.tdb_script.specs.Lines.{lines_of, words_of, width}
use Rattle.tdb_script.specs.Number.{IsNumber}
use Rattle.tdb_script.specs.Rows.{row_of, bare_commands, key_commands, value_commands, bare_plays, opener_plays, command_plays}

-- The words are a command: its name, and a word for its key and one for its value, where it has them.
abbrev pub IsCommand : List (List ℕ) → Command → Type 0
IsCommand [] command = ⊥
IsCommand (name ∷ []) command = row_of bare_commands name ≡ Some command
IsCommand (name ∷ word ∷ []) command = (key : List ℕ) × IsWord word key × (row_of (key_commands key) name ≡ Some command)
IsCommand (name ∷ word ∷ more ∷ []) command =
    (key : List ℕ) × (value : List ℕ) × IsWord word key × IsWord more value × (row_of (value_commands key value) name ≡ Some command)
IsCommand (name ∷ word ∷ more ∷ other ∷ words) command = ⊥

-- an opener's number and other words are a play: one with no more words, or one with a command
abbrev pub IsOpenerPlay : List ℕ → ℕ → List (List ℕ) → Play → Type 0
IsOpenerPlay name who words play =
    ((words ≡ []) × (row_of (opener_plays who) name ≡ Some play))
    ⊎ ((command : Command) × IsCommand words command × (row_of (command_plays who command) name ≡ Some play))

-- The words are a play: its name, the opener's number, and a command, where it has them.
abbrev pub IsPlay : List (List ℕ) → Play → Type 0
IsPlay [] play = ⊥
IsPlay (name ∷ []) play = row_of bare_plays name ≡ Some play
IsPlay (name ∷ number ∷ words) play = (who : ℕ) × IsNumber number who × IsOpenerPlay name who words play

-- a line without words, and one whose first word begins with `#`, is skipped
abbrev pub is_skipped : List (List ℕ) → Bool
is_skipped [] = true
is_skipped (word ∷ words) = slice_index word 0 == 35

-- what the words of a line say: nothing, or a play
abbrev pub Says : List (List ℕ) → Option Play → Type 0
Says words None = is_skipped words ≡ true
Says words (Some play) = (is_skipped words ≡ false) × IsPlay words play

-- they say nothing that a script may say
abbrev pub SaysNothing : List (List ℕ) → Type 0
SaysNothing words = (said : Option Play) → Says words said → ⊥

-- what was said before a list of plays
abbrev pub with_said : Option Play → List Play → List Play
with_said None plays = plays
with_said (Some play) plays = play ∷ plays

-- lines say these plays, in order
abbrev pub LinesSay : List (List ℕ) → List Play → Type 0
LinesSay [] plays = plays ≡ []
LinesSay (line ∷ lines) plays =
    (said : Option Play) × (rest : List Play) × Says (words_of line) said × LinesSay lines rest × (plays ≡ with_said said rest)

-- a script: a text, not too long, whose lines say these plays
pub record Script (text : List ℕ) (plays : List Play) : Type 0 where
  pub fits : length text ≤ LONGEST_SCRIPT
  pub says : LinesSay (lines_of text) plays

-- The reading of a text stops in this line: those before it, which end within the longest script, say plays.
pub record StopsIn (text : List ℕ) (before : List (List ℕ)) (line : List ℕ) : Type 0 where
  pub after : List (List ℕ)
  pub plays : List Play
  pub lines : lines_of text ≡ before ++ line ∷ after
  pub say : LinesSay before plays
  pub within : (length text ≤ LONGEST_SCRIPT) ⊎ (width before ≤ LONGEST_SCRIPT)

-- the line and its newline end within the longest script, or the whole text does
abbrev pub EndsWithin : List ℕ → List (List ℕ) → List ℕ → Type 0
EndsWithin text before line = (length text ≤ LONGEST_SCRIPT) ⊎ (width before + length line < LONGEST_SCRIPT)

-- the text is too long, and the longest script ends in the line or in front of its newline
abbrev pub Crosses : List ℕ → List (List ℕ) → List ℕ → Type 0
Crosses text before line = (LONGEST_SCRIPT < length text) × (LONGEST_SCRIPT ≤ width before + length line)

-- Where a text stops being a script: at the first byte of the first line that says nothing of a script, or, where all
-- lines up to there say something, at the length of the longest script. The line in which that length is passed doesn't
-- count.
pub record BadAt (text : List ℕ) (place : ℕ) : Type 0 where
  pub before : List (List ℕ)
  pub line : List ℕ
  pub stops : StopsIn text before line
  pub cause : (EndsWithin text before line × SaysNothing (words_of line) × (place ≡ width before))
      ⊎ (Crosses text before line × (place ≡ LONGEST_SCRIPT))

-- Memory was wanting for a line: it isn't skipped and ends within the longest script, and those before it say plays. So
-- room is asked for line by line, and none for lines that are skipped.
pub record StarvesIn (text : List ℕ) (before : List (List ℕ)) (line : List ℕ) : Type 0 where
  pub stops : StopsIn text before line
  pub within : EndsWithin text before line
  pub counts : is_skipped (words_of line) ≡ false

-- what a refusal says of a text
abbrev pub IsRefused : List ℕ → ScriptRefusal → Type 0
IsRefused text (ScriptRefusal.Malformed at) = BadAt text at
IsRefused text ScriptRefusal.Memory = (before : List (List ℕ)) × (line : List ℕ) × StarvesIn text before line
