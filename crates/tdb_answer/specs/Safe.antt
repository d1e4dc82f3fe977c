-- What stops of the machine leave of a file while it is opened, and from then on; and as whose file what is left is
-- read.
use Rattle.std.specs.Prelude.{◌⊎◌, ℕ, List}
use Rattle.tdb_disk.specs.History.{History, seen}
use Rattle.tdb_disk.specs.Stop.{Quiet}
use Rattle.tdb_space.specs.Accepted.{Shut}
use Rattle.tdb_space.specs.Form.{Form, form_of}
use Rattle.tdb_space.specs.Opening.{Mild}
use Rattle.tdb_law.specs.Lines.{Line as LawLine}
use Rattle.tdb_law.specs.World.{State}
use Rattle.tdb_world.specs.Loaded.{IsOver}
use Rattle.tdb_open.specs.Opening.{opened_bytes}
use Rattle.tdb_world.specs.Died.{IsReadAs}
use Rattle.tdb_world.specs.Courses.Stops.{IsTransacted, OpensAndStays}

-- Since a file had one history, each stop until it has another leaves a file that opens on the way that these lines
-- tell from a state, and what they tell stays: where all of it was on the medium at first, its undo, if it has to be
-- undone, changes no byte by which its header is known, and in no state that the lines pass an opener is in the middle
-- of a change outside a transaction.
abbrev pub StopsSince : Form → History → History → State → List LawLine → Type 0
StopsSince f old now start lines = Quiet old → Shut (form_of (seen old)) (seen old) ⊎ Mild (seen old) → IsTransacted f start lines → OpensAndStays f old now start lines

-- An image is read as the file of a state: an open gate is undone in this form, or in the one that the image has, where
-- its undo changes that.
abbrev pub IsLeftAs : Form → List ℕ → State → Type 0
IsLeftAs f img state = IsReadAs f img state ⊎ IsOver f (opened_bytes img) state
