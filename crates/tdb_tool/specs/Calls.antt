-- The calls of which the lines of a report tell, from a world that was just loaded over a file.
use Rattle.std.specs.Prelude.{ℕ, ◌≡◌, List, length}
use Rattle.tdb_disk.specs.History.{History, seen}
use Rattle.tdb_law.specs.World.{State}
use Rattle.tdb_space.specs.Form.{Form}
use Rattle.tdb_commands.specs.declared.line.Line.{Line}
use Rattle.tdb_commands.specs.declared.options.Options.{Options}
use Rattle.tdb_world.specs.Courses.Led.{CallsTell}
use Rattle.tdb_world.specs.Courses.Stopped.{StoppedCall}
use Rattle.tdb_world.specs.Loaded.{IsJustLoaded}
use Rattle.tdb_world.specs.Whole.{Whole, form_at, options_at}

-- Lines tell the calls that were made in a world over its file, and in those that they left, where the file had the
-- first of two lengths. Where the disk is sound the last call left the file as it is now, with the other length; else
-- the file is what that call left, but for what the call may have changed that failed then.
pub record CallsFrom (w : Whole) (old now : History) (from to : ℕ) (sound : Type 0) (lines : List Line) : Type 0 where
  pub count : ℕ
  pub last : Whole
  pub left : History
  pub size : ℕ
  pub calls : CallsTell count w old from lines last left size
  pub ends : sound → (left ≡ now) × (size ≡ to)
  pub stopped : StoppedCall last left size now

-- Each line of a report that tells of a turn stands for a call that took one of the command that is told, in a world
-- that the calls before it left, and over a file of the length that the lines before it tell. It leads from each state
-- of that world to a state of the next, and it ends with Full exactly where the image that its opener sees has no room
-- for what the command stores, with those numbers (`Calls` of `tdb_world`). The first call was made in a world with
-- these options that was just loaded over a file of this form; the last one left the file as it is now, but for what
-- the call may have changed at which the disk failed.
pub record TellsCalls (f : Form) (asked : Options) (old now : History) (sound : Type 0) (lines : List Line) : Type 0 where
  pub world : Whole
  pub form : form_at world ≡ f
  pub options : options_at world ≡ asked
  pub state : State
  pub just : IsJustLoaded world old state
  pub from : CallsFrom world old now (length (seen old)) (length (seen now)) sound lines
