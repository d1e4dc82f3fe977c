-- What a file opens to while no command on the map is in the middle of a change.
use Rattle.std.specs.Prelude.{◌≡◌, ◌⊎◌, ℕ, List}
use Rattle.tdb_space.specs.Form.{Form}
use Rattle.tdb_space.specs.Undoing.{Reopens}
use Rattle.tdb_law.specs.Commands.{Command}
use Rattle.tdb_law.specs.Commands.Command.{OnGroup}
use Rattle.tdb_law.specs.Images.{image_map}
use Rattle.tdb_law.specs.Openers.{Map}

-- a command on the transaction
abbrev pub IsGroup : Command → Type 0
IsGroup (OnGroup g) = Unit {0}
IsGroup c = ⊥

-- An image opens to this map, read in this form; or to one of two.
pub record OpensToMap (f : Form) (m : Map) (c : List ℕ) : Type 0 where
  pub image : List ℕ
  pub reopens : Reopens image c
  pub map : m ≡ image_map f image

abbrev pub OpensToEither : Form → Map → Map → List ℕ → Type 0
OpensToEither f m n c = OpensToMap f m c ⊎ OpensToMap f n c
