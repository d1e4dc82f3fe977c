-- What is ahead of a walk along a list of records.
use Rattle.std.specs.Prelude.{◌≡◌, ℕ, ◌≤◌, List, [], ◌∷◌, length, Option, None, Some}
use Rattle.tdb_words.specs.Record.{rec_at}
use Rattle.tdb_space.specs.Form.{Form}
use Rattle.tdb_space.specs.Chain.{Linked}
use Rattle.tdb_rewrite.specs.declared.walk.Listed.{Listed}
use Rattle.tdb_rewrite.specs.declared.walk.ListWalk.{ListWalk}

-- records that stand whole at these offsets follow one another from an offset on, whatever their magics are
abbrev pub IsWholeList : Form → List ℕ → ℕ → List ℕ → Type 0
IsWholeList f img at offs = Linked f (λ _. Unit {0}) img at offs

-- the records at these offsets are ahead of the walk, and it may read them all
pub record Ahead (f : Form) (img offs : List ℕ) (walk : ListWalk) : Type 0 where
  pub linked : IsWholeList f img walk.at offs
  pub room : length offs ≤ walk.left

-- Of the records that were ahead the walk gives the first, with the header that the image has there, and the others are
-- ahead of it then. It gives none where none was ahead.
abbrev pub Gives : Form → List ℕ → List ℕ → Option Listed → ListWalk → Type 0
Gives f img offs None walk = offs ≡ []
Gives f img offs (Some found) walk = (rest : List ℕ) × (offs ≡ found.off ∷ rest) × (found.rec ≡ rec_at f.order img found.off) × Ahead f img rest walk
