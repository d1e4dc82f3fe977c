-- A world over what a file is read as.
use Rattle.std.specs.Prelude.{◌≡◌, ℕ, List}
use Rattle.tdb_words.specs.Word.{word}
use Rattle.tdb_words.specs.Header.{sequence_at}
use Rattle.tdb_disk.specs.History.{History, seen}
use Rattle.tdb_space.specs.Form.{Form}
use Rattle.tdb_law.specs.Beginning.{IsLoaded}
use Rattle.tdb_law.specs.Images.{image_map}
use Rattle.tdb_law.specs.World.{State}
use Rattle.tdb_commands.specs.InLaw.{options_of}
use Rattle.tdb_world.specs.Whole.{Whole, form_at, options_at}
use Rattle.tdb_world.specs.States.{IsStateOf}

-- the state is one of a world whose file has these bytes
pub record IsOver (f : Form) (img : List ℕ) (w : State) : Type 0 where
  pub file : w.file ≡ image_map f img
  pub number : w.number ≡ word f.order img sequence_at

-- The state is one of a world that is just loaded over what its file holds.
pub record IsJustLoaded (w : Whole) (h : History) (state : State) : Type 0 where
  pub of_world : IsStateOf w h state
  pub loaded : IsLoaded (form_at w) state (options_of (options_at w))
  pub over : IsOver (form_at w) (seen h) state
