-- The command that stores a value for a key, in place of the one that the key has.
use Rattle.std.specs.Prelude.{◌≡◌, ◌⊎◌, ◌+◌, ℕ, if◌then◌else◌, List, length, Some}
use Rattle.tdb_disk.specs.History.{History, seen}
use Rattle.tdb_disk.specs.Stop.{Quiet}
use Rattle.tdb_space.specs.Form.{form_of}
use Rattle.tdb_space.specs.NewRecord.{rec_len_for}
use Rattle.tdb_free.specs.Growth.{grown_length}
use Rattle.tdb_edit.specs.Edited.{KeyChanged, OnlyKeyChanges}
use Rattle.tdb_edit.specs.Stored.{has_room}
use Rattle.tdb_answer.specs.declared.ending.Reply.{Reply}
use Rattle.tdb_answer.specs.declared.ending.Reply.TheVariants.{Done, Full}

-- how many bytes a new record takes, with its header
abbrev pub need_for : List ℕ → List ℕ → ℕ
need_for key value = 24 + rec_len_for (length key) (length value)

-- what is replied over a file that is read as these bytes and may have so many: that it is done, where the file has
-- room for a new record, or that it hasn't
abbrev pub store_reply : ℕ → List ℕ → List ℕ → List ℕ → Reply
store_reply limit key value img =
    if has_room (form_of img) img (rec_len_for (length key) (length value)) limit then Done
    else Full (length img) (need_for key value)

-- a file that had these bytes and may have so many is as long as before, or as long as a growth for `need` bytes makes
-- it
abbrev pub GrewFor : ℕ → ℕ → List ℕ → List ℕ → Type 0
GrewFor limit need old now = (length now ≡ length old) ⊎ (grown_length (length old) need limit ≡ Some (length now))

-- What a store that was done leaves of a file that had this history: an accepted file of the same form, whose map is
-- the old one with the value at the key, and which grew at most once, for one record. All of it is on the medium.
pub record Stores (limit : ℕ) (key value : List ℕ) (old now : History) : Type 0 where
  pub changed : KeyChanged (form_of (seen old)) (seen old) (seen now) key (Some value)
  pub grown : GrewFor limit (need_for key value) (seen old) (seen now)
  pub quiet : Quiet now

-- And what a call that failed in its midst leaves: a file that isn't shorter, of which at most the key's chain changed,
-- the free list, their heads, the sequence number, and bytes that no record holds.
abbrev pub StoreBroken : List ℕ → History → History → Type 0
StoreBroken key old now = OnlyKeyChanges (form_of (seen old)) (seen old) (seen now) key
