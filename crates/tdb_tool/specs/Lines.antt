-- The lines that a reader has still to give.
use Rattle.std.specs.Prelude.{◌≡◌, ◌-◌, ◌<◌, ◌⊎◌, ℕ, Bool, true, false, List, [], ◌∷◌, ◌++◌, length, take, drop, if◌then◌else◌}
use Rattle.std.specs.List.{All}
use Rattle.tdb_script.specs.Lines.{is_newline, lines_of}
use Rattle.tdb_tool.specs.declared.limits.TheConstants.{LONGEST_LINE}
use Rattle.tdb_tool.specs.declared.reader.LineReader.{LineReader}

-- bytes without a newline
abbrev pub IsBare : List ℕ → Type 0
IsBare bytes = All (λ b. is_newline b ≡ false) bytes

-- the bytes at hand that belong to no line yet
abbrev pub unread : LineReader → List ℕ
unread r = take (r.end - r.start) (drop r.start r.piece.items)

-- the lines that are left, where these bytes are left of the source
abbrev pub lines_left : LineReader → List ℕ → List (List ℕ)
lines_left r left = if r.over then [] else lines_of (unread r ++ left)

-- No more of the source is needed to give the next line: it is at hand with its newline, or the last line was given.
abbrev pub NeedsNoMore : LineReader → Type 0
NeedsNoMore r = (r.over ≡ true) ⊎ ((front rest : List ℕ) × (unread r ≡ front ++ 10 ∷ rest))

-- nothing was read yet
pub record IsFresh (r : LineReader) : Type 0 where
  pub unread : unread r ≡ []
  pub place : r.at ≡ 0
  pub more : r.over ≡ false

-- The bytes at hand were moved to the end of a line: those up to the first newline, which is used up, or all where
-- there is none.
abbrev pub MovedOn : LineReader → LineReader → List ℕ → List ℕ → Bool → Type 0
MovedOn old new before after true = (front : List ℕ) × IsBare front × (unread old ≡ front ++ 10 ∷ unread new) × (after ≡ before ++ front)
MovedOn old new before after false = IsBare (unread old) × (after ≡ before ++ unread old) × (new.start ≡ new.end)

-- The first line of a text, and those behind it; or a part of it that is too long.
abbrev pub FirstLine : List ℕ → List ℕ → List (List ℕ) → Type 0
FirstLine text line rest =
    (lines_of text ≡ line ∷ rest)
    ⊎ ((LONGEST_LINE < length line) × (more : List ℕ) × (others : List (List ℕ)) × (lines_of text ≡ (line ++ more) ∷ others))
