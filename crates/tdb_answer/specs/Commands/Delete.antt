-- The command that deletes a key: its record goes to the free list.
use Rattle.std.specs.Prelude.{ℕ, if◌then◌else◌, List, None, is_some}
use Rattle.tdb_disk.specs.History.{History, seen}
use Rattle.tdb_disk.specs.Stop.{Quiet}
use Rattle.tdb_space.specs.Form.{form_of}
use Rattle.tdb_space.specs.Pairs.{map_of}
use Rattle.tdb_edit.specs.Edited.{KeyChanged, BrokenOff}
use Rattle.tdb_answer.specs.declared.ending.Reply.{Reply}
use Rattle.tdb_answer.specs.declared.ending.Reply.TheVariants.{Done, KeyMissing}

-- what is replied over a file that is read as these bytes: that it is done, or that the map has no such key
abbrev pub delete_reply : List ℕ → List ℕ → Reply
delete_reply key img = if is_some (map_of (form_of img) img key) then Done else KeyMissing

-- What a delete that was done leaves of a file that had this history: an accepted file of the same form, whose map is
-- the old one without the key. All of it is on the medium.
pub record Deletes (key : List ℕ) (old now : History) : Type 0 where
  pub changed : KeyChanged (form_of (seen old)) (seen old) (seen now) key None
  pub quiet : Quiet now

-- and what a call that failed in its midst leaves
abbrev pub DeleteBroken : List ℕ → History → History → Type 0
DeleteBroken key old now = BrokenOff (form_of (seen old)) (seen old) (seen now) key None
