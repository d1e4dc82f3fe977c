-- The image behind a world: it is accepted with the hands of all unfinished commands, and its map is the file's.
use Rattle.std.specs.Prelude.{ℕ, ◌≡◌, ◌≢◌, ◌≤◌, List, [], ◌++◌, None}
use Rattle.std.specs.FinMap.{get, from_entries}
use Rattle.tdb_space.specs.Form.{Form}
use Rattle.tdb_space.specs.Pairs.{joined, order_of, map_of}
use Rattle.tdb_space.specs.Extents.{HandPair}
use Rattle.tdb_space.specs.Accepted.{AcceptWith}
use Rattle.tdb_law.specs.Commands.{Turn}
use Rattle.tdb_law.specs.Openers.{Map, Task}
use Rattle.tdb_law.specs.Refusals.{chain_byte}
use Rattle.tdb_law.specs.World.{State, IsSound}
use Rattle.tdb_law.specs.Turned.{Turned}
use Rattle.tdb_law.specs.Replay.{Replay}
use Rattle.tdb_law.specs.Standing.{Stands}

-- the finite map of an image: it answers as `map_of` does
abbrev pub image_map : Form → List ℕ → Map
image_map f img = from_entries (order_of f img)

abbrev pub ImageMapAnswers : Type 0
ImageMapAnswers = (f : Form) (img k : List ℕ) → get (image_map f img) k ≡ map_of f img k

-- The image behind a world, an open gate undone: it is accepted with the hands of all openers, an opener without a
-- command has none, and its map is the world's.
pub record HasImage (f : Form) (w : State) (img : List ℕ) (hands : ℕ → List HandPair) : Type 0 where
  pub accepted : AcceptWith f img (joined w.joined hands)
  pub idle : (o : ℕ) → w.task o ≡ None → hands o ≡ []
  pub map : (k : List ℕ) → get w.file k ≡ map_of f img k

-- What a turn does to the image and to the hands: whatever the others' hands are, the image stays accepted with them
-- and with the opener's own; a command that has ended leaves none; and the map is the world's.
pub record ImageTurned (f : Form) (new : State) (who : ℕ) (a b : List ℕ) (before after : ℕ → List HandPair) : Type 0 where
  pub others : (o : ℕ) → o ≢ who → after o ≡ before o
  pub made : (rest : List HandPair) → AcceptWith f a (before who ++ rest) → AcceptWith f b (after who ++ rest)
  pub idle : new.task who ≡ None → after who ≡ []
  pub map : (k : List ℕ) → get new.file k ≡ map_of f b k

-- So the image is accepted with all hands also after the turn, whatever other commands are in the middle of.
abbrev pub TurnKeepsImage : Type 0
TurnKeepsImage = (f : Form) (old new : State) (who : ℕ) (task : Task) (turn : Turn) (a b : List ℕ) (before after : ℕ → List HandPair) → IsSound f old → Turned f old who task turn new
    → HasImage f old a before → ImageTurned f new who a b before after → HasImage f new b after

-- At a key whose chain nobody holds for writing the image gives what the committed map gives.
abbrev pub ImageIsPlain : Type 0
ImageIsPlain = (f : Form) (w : State) (s : Replay) (img : List ℕ) (hands : ℕ → List HandPair) → IsSound f w → Stands f w s → HasImage f w img hands
    → (k : List ℕ) → ((o : ℕ) → w.table o (chain_byte f k) ≤ 1) → map_of f img k ≡ get s.map k

-- Where every opener is idle no hand is out.
abbrev pub IdleIsAccepted : Type 0
IdleIsAccepted = (f : Form) (w : State) (img : List ℕ) (hands : ℕ → List HandPair) → HasImage f w img hands → ((o : ℕ) → w.task o ≡ None) → AcceptWith f img []
