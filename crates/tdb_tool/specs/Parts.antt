-- The parts of a session: what each of them plays, what is printed of it, and how far it came.
use Rattle.std.specs.Prelude.{◌≡◌, ℕ, zero, suc, Bool, true, false, Some, None, List, [], ◌∷◌, ◌++◌}
use Rattle.std.specs.List.{flat_map}
use Rattle.tdb_dump.specs.declared.listing.Listing.{Listing}
use Rattle.tdb_law.specs.Plays.{Gives}
use Rattle.tdb_law.specs.World.{State}
use Rattle.tdb_commands.specs.InLaw.{law_play, law_lines}
use Rattle.tdb_commands.specs.declared.command.Command.{Command}
use Rattle.tdb_commands.specs.declared.line.Line.{Line}
use Rattle.tdb_commands.specs.declared.play.Play.{Play}
use Rattle.tdb_space.specs.Form.{Form}
use Rattle.tdb_commands.specs.Short.{IsShortCommand}
use Rattle.tdb_openers.specs.Played.{PlaysLast}
use Rattle.tdb_tool.specs.declared.order.Order.{Order}
use Rattle.tdb_tool.specs.Replies.{lines_text, tell_pair}

-- A part of a session: a play of which nothing is printed, one whose reply is printed, or a list of all pairs.
pub data Part : Type 0 where
  Silent Told : Play → Part
  Listed : Listing → Part

-- the play by which the one opener takes a command
abbrev pub doing : Command → Play
doing command = Play.Do 1 command

-- what an order asks for, and what orders do, in order
abbrev pub part_of : Order → List Part
part_of (Order.Take command) = Told (doing command) ∷ []
part_of (Order.List listing) = Listed listing ∷ []
part_of Order.Quit = []

abbrev pub parts_of : List Order → List Part
parts_of orders = flat_map part_of orders

-- the key and the value of the command of an order, if it has one, are short enough for the words of a file
abbrev pub IsServedOrder : Order → Type 0
IsServedOrder (Order.Take command) = IsShortCommand command
IsServedOrder order = Unit {0}

-- the moves of a list: First, and then Next
abbrev pub move : ℕ → Play
move zero = doing Command.First
move (suc n) = doing Command.Next

-- the play of a part behind so many others of it
abbrev pub play_of : Part → ℕ → Play
play_of (Silent play) n = play
play_of (Told play) n = play
play_of (Listed listing) n = move n

-- a part goes on behind a play that gave these lines: a list alone does, where it gave a pair
abbrev pub goes_on : Part → List Line → Bool
goes_on (Listed listing) lines = tell_pair lines
goes_on part lines = false

-- what is printed of the lines of a part
abbrev pub text_of : Part → List Line → List ℕ
text_of (Silent play) lines = []
text_of (Told play) lines = lines_text None lines
text_of (Listed listing) lines = lines_text (Some listing) lines

-- So many plays of a part were taken, and it goes on behind each.
abbrev pub Going : Form → Part → State → ℕ → List Line → State → Type 0
Going f part old zero lines new = (lines ≡ []) × (new ≡ old)
Going f part old (suc n) lines new =
    (mid : State) × (front : List Line) × (rest : List Line) × (lines ≡ front ++ rest) × Going f part old n front mid
    × Gives f mid (law_play (play_of part n)) (law_lines rest) new × (goes_on part rest ≡ true)

-- A part was done: its plays were taken up to the first behind which it doesn't go on.
pub record PartDone (f : Form) (part : Part) (old : State) (lines : List Line) (new : State) : Type 0 where
  pub count : ℕ
  pub mid : State
  pub front : List Line
  pub rest : List Line
  pub lines_cut : lines ≡ front ++ rest
  pub going : Going f part old count front mid
  pub last : Gives f mid (law_play (play_of part count)) (law_lines rest) new
  pub ends : goes_on part rest ≡ false

-- A part was done as far as it came: behind plays that were taken one was begun, or taken too.
pub record PartBegun (f : Form) (part : Part) (old : State) (lines : List Line) (new : State) : Type 0 where
  pub count : ℕ
  pub mid : State
  pub front : List Line
  pub rest : List Line
  pub lines_cut : lines ≡ front ++ rest
  pub going : Going f part old count front mid
  pub last : PlaysLast f mid (law_play (play_of part count)) (law_lines rest) new

-- Parts were done, one after the other, with these lines and this text.
abbrev pub AllDone : List Part → Form → State → List Line → List ℕ → State → Type 0
AllDone [] f old lines text new = (lines ≡ []) × (text ≡ []) × (new ≡ old)
AllDone (part ∷ parts) f old lines text new =
    (mid : State) × (front : List Line) × (rest : List Line) × (more : List ℕ) × (lines ≡ front ++ rest) × (text ≡ text_of part front ++ more)
    × PartDone f part old front mid × AllDone parts f mid rest more new

-- of parts that are left the first was begun
abbrev pub FirstBegun : List Part → Form → State → List Line → List ℕ → State → Type 0
FirstBegun [] f old lines text new = (lines ≡ []) × (text ≡ []) × (new ≡ old)
FirstBegun (part ∷ parts) f old lines text new = PartBegun f part old lines new × (text ≡ text_of part lines)

-- Parts were done as far as they came: those in front whole, and of the others the first was begun.
pub record AllCame (parts : List Part) (f : Form) (old : State) (lines : List Line) (text : List ℕ) (new : State) : Type 0 where
  pub done : List Part
  pub left : List Part
  pub cut : parts ≡ done ++ left
  pub mid : State
  pub front : List Line
  pub rest : List Line
  pub lines_cut : lines ≡ front ++ rest
  pub first : List ℕ
  pub more : List ℕ
  pub text_cut : text ≡ first ++ more
  pub whole : AllDone done f old front first mid
  pub begun : FirstBegun left f mid rest more new
