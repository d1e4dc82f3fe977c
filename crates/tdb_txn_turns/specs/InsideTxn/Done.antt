-- What a command on the map has come to, which is done from its first step to its reply without a pause.
use Rattle.std.specs.Prelude.{ℕ, ◌≡◌, List, [], Bool, true, ◌&&◌}
use Rattle.tdb_space.specs.Form.{Form}
use Rattle.tdb_space.specs.Accepted.{AcceptWith}
use Rattle.tdb_space.specs.Stays.{FrontStays}
use Rattle.tdb_law.specs.Commands.{MapCommand, Reply, is_done}
use Rattle.tdb_law.specs.Commands.Reply.{Done, Full, Memory}
use Rattle.tdb_law.specs.Openers.{Map}
use Rattle.tdb_law.specs.MapCommands.{reply, after, map_changes, map_fills}
use Rattle.tdb_law.specs.Counting.{raised}
use Rattle.tdb_law.specs.Images.{image_map}
use Rattle.tdb_steps.specs.Turns.{number_of}

-- A command on map m, which is n afterwards, with this reply: the reply and the map are those of the command; or memory
-- was wanting; or space was, for a value that would have been stored. In both of these the map is as it was.
pub data MapDone (c : MapCommand) (m n : Map) (r : Reply) : Type 0 where
  answers : r ≡ reply c m → n ≡ after c m → MapDone c m n r
  starves : r ≡ Memory → n ≡ m → MapDone c m n r
  is_full : (len need : ℕ) → r ≡ Full len need → map_fills c ≡ true → reply c m ≡ Done → n ≡ m → MapDone c m n r

-- It led from image a to image b, which no hand is out of: b is accepted, its header stays but for the sequence number,
-- and so does its undo area; the number is raised where changes count and the command is done that may change the map.
pub record ImageDone (f : Form) (a b : List ℕ) (c : MapCommand) (counting : Bool) (r : Reply) : Type 0 where
  pub accepted : AcceptWith f b []
  pub front : FrontStays f a b
  pub map : MapDone c (image_map f a) (image_map f b) r
  pub number : number_of f b ≡ raised (is_done r && (map_changes c && counting)) (number_of f a)

-- From image a to image b, which no hand is out of, the map stays: b is accepted, and the header, the undo area and the
-- sequence number stay too.
pub record ImageKept (f : Form) (a b : List ℕ) : Type 0 where
  pub accepted : AcceptWith f b []
  pub front : FrontStays f a b
  pub map : image_map f b ≡ image_map f a
  pub number : number_of f b ≡ number_of f a
