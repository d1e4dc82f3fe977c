-- The list of the records on which cursors stand.
use Rattle.std.specs.Prelude.{◌==◌, ◌∷◌, [], List, if◌then◌else◌, ℕ}

-- the list without the first entry of an offset
abbrev pub without_first : ℕ → List ℕ → List ℕ
without_first off [] = []
without_first off (spot ∷ spots) = if spot == off then spots else (spot ∷ without_first off spots)
