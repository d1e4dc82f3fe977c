-- Which openers have a command that isn't done.
use Rattle.std.specs.Prelude.{ℕ, zero, suc, ◌≡◌, ◌⊎◌, List, [], ◌∷◌, length, None}
use Rattle.tdb_law.specs.World.{State}
use Rattle.tdb_commands.specs.declared.line.Line.{Line}
use Rattle.tdb_commands.specs.declared.line.Line.TheVariants.{Unfinished}
use Rattle.tdb_world.specs.Whole.{Whole}
use Rattle.tdb_world.specs.Steps.{HasCommand}

-- of so many openers of a world, counted from the place o on, each that has a command which isn't done gives a line, in
-- order
abbrev pub AreUnfinished : Whole → ℕ → ℕ → List Line → Type 0
AreUnfinished w o zero lines = lines ≡ []
AreUnfinished w o (suc n) lines =
    (HasCommand w (suc o) × (rest : List Line) × (lines ≡ Unfinished (suc o) ∷ rest) × AreUnfinished w (suc o) n rest)
    ⊎ ((HasCommand w (suc o) → ⊥) × AreUnfinished w (suc o) n lines)

-- the lines of all openers of a world
abbrev pub IsEnd : Whole → List Line → Type 0
IsEnd w lines = AreUnfinished w 0 (length w.openers.openers) lines

-- and so of a state of the law
abbrev pub TellsUnfinished : State → ℕ → ℕ → List Line → Type 0
TellsUnfinished s o zero lines = lines ≡ []
TellsUnfinished s o (suc n) lines =
    ((s.task o ≡ None → ⊥) × (rest : List Line) × (lines ≡ Unfinished (suc o) ∷ rest) × TellsUnfinished s (suc o) n rest)
    ⊎ ((s.task o ≡ None) × TellsUnfinished s (suc o) n lines)

abbrev pub EndsWith : State → List Line → Type 0
EndsWith s lines = TellsUnfinished s 0 s.joined lines
