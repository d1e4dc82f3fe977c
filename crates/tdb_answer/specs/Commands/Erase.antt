-- The command that takes all keys out of a file.
use Rattle.std.specs.Prelude.{ℕ, List}
use Rattle.tdb_disk.specs.History.{History, seen}
use Rattle.tdb_disk.specs.Stop.{Quiet}
use Rattle.tdb_space.specs.Form.{form_of}
use Rattle.tdb_steps.specs.Wiped.{Wiped, WipeStopped}
use Rattle.tdb_answer.specs.declared.ending.Reply.{Reply}
use Rattle.tdb_answer.specs.declared.ending.Reply.TheVariants.{Done}

-- what is replied over a file that is read as these bytes: that it is done
abbrev pub erase_reply : List ℕ → Reply
erase_reply img = Done

-- What an erase leaves of a file that had this history: an accepted file without a key, in which all is free that its
-- undo area doesn't hold. All of it is on the medium.
pub record Erases (old now : History) : Type 0 where
  pub wiped : Wiped (form_of (seen old)) (seen old) (seen now)
  pub quiet : Quiet now

-- and what a call that failed in its midst leaves
abbrev pub EraseBroken : History → History → Type 0
EraseBroken old now = WipeStopped (form_of (seen old)) (seen old) (seen now)
