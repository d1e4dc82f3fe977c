-- Where the gate word of an undo area stands.
use Rattle.std.specs.Prelude.{ℕ, List, length}
use Rattle.tdb_space.specs.Form.{Form}
use Rattle.tdb_space.specs.Standing.{HeaderStands}
use Rattle.tdb_space.specs.Undoing.{area_at}

-- the header of an undo area can stand where the word at 44 leads
abbrev pub HasGate : Form → List ℕ → Type 0
HasGate f a = HeaderStands f.chains (length a) (area_at f a)
