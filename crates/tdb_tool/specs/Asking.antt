-- What the text of a session asks for.
use Rattle.std.specs.Prelude.{◌≡◌, ◌≢◌, ◌+◌, ◌<◌, ◌≤◌, ℕ, List, [], ◌∷◌, ◌++◌, length, Option, None, Some}
use Rattle.tdb_script.specs.Lines.{lines_of, words_of, width}
use Rattle.tdb_tool.specs.declared.fault.SessionEnd.{SessionEnd}
use Rattle.tdb_tool.specs.declared.fault.SessionEnd.TheVariants.{Ended, Malformed}
use Rattle.tdb_tool.specs.declared.limits.TheConstants.{LONGEST_LINE, LONGEST_SESSION}
use Rattle.tdb_tool.specs.declared.order.Order.{Order}
use Rattle.tdb_tool.specs.Orders.{IsOrder}

-- a line that begins at this place isn't too long, and ends within the longest session
pub record Fits (at : ℕ) (line : List ℕ) : Type 0 where
  pub short : length line ≤ LONGEST_LINE
  pub within : at + length line < LONGEST_SESSION

-- words say nothing, where there are none, or an order
abbrev pub WordsSay : List (List ℕ) → Option Order → Type 0
WordsSay words None = words ≡ []
WordsSay words (Some order) = IsOrder words order

-- a line that begins at this place says this
pub record Says (at : ℕ) (line : List ℕ) (said : Option Order) : Type 0 where
  pub fits : Fits at line
  pub words : WordsSay (words_of line) said

-- it says nothing that a line may say
abbrev pub IsBad : ℕ → List ℕ → Type 0
IsBad at line = (said : Option Order) → Says at line said → ⊥

-- an order in front of others, if there is one
abbrev pub with_said : Option Order → List Order → List Order
with_said None orders = orders
with_said (Some order) orders = order ∷ orders

-- lines, of which the first begins at this place, ask for these orders, in order, and none of them says `quit`
abbrev pub LinesAsk : ℕ → List (List ℕ) → List Order → Type 0
LinesAsk at [] orders = orders ≡ []
LinesAsk at (line ∷ lines) orders =
    (said : Option Order) × (rest : List Order) × Says at line said × (said ≢ Some Order.Quit) × LinesAsk (at + length line + 1) lines rest × (orders ≡ with_said said rest)

-- A session ends before these lines, of which the first begins at this place: there is none, or it says `quit`; or it
-- is bad.
abbrev pub EndsBefore : ℕ → List (List ℕ) → SessionEnd → Type 0
EndsBefore at [] Ended = Unit {0}
EndsBefore at [] (Malformed place) = ⊥
EndsBefore at (line ∷ lines) Ended = Says at line (Some Order.Quit)
EndsBefore at (line ∷ lines) (Malformed place) = IsBad at line × (place ≡ at)

-- The text of a session: its lines ask for these orders, and then it ends so.
pub record Session (text : List ℕ) (orders : List Order) (end : SessionEnd) : Type 0 where
  pub before : List (List ℕ)
  pub after : List (List ℕ)
  pub lines : lines_of text ≡ before ++ after
  pub ask : LinesAsk 0 before orders
  pub ends : EndsBefore (width before) after end

-- A text that begins by asking for these orders.
pub record BeginsBy (text : List ℕ) (orders : List Order) : Type 0 where
  pub before : List (List ℕ)
  pub after : List (List ℕ)
  pub lines : lines_of text ≡ before ++ after
  pub ask : LinesAsk 0 before orders
