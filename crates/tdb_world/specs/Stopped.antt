-- What a turn of a world leaves of the file where it fails.
use Rattle.std.specs.Prelude.{ℕ, ◌≡◌, ◌⊎◌, List, true, Some}
use Rattle.tdb_disk.specs.History.{History, seen}
use Rattle.tdb_disk.specs.Stop.{Leaves, LeavesOnly}
use Rattle.tdb_space.specs.Stays.{FrontStays}
use Rattle.tdb_law.specs.OneAside.Sides.{Past, Side}
use Rattle.tdb_law.specs.World.{State}
use Rattle.tdb_commands.specs.InLaw.{law_opener}
use Rattle.tdb_txn_owner.specs.Holders.{HolderState, StageMayLeave}
use Rattle.tdb_openers.specs.Laws.{other_hands}
use Rattle.tdb_openers.specs.Stopped.{JobStopped}
use Rattle.tdb_openers.specs.declared.job.Task.{Task}
use Rattle.tdb_openers.specs.declared.opener.Opener.{Opener}
use Rattle.tdb_world.specs.Room.{HasFile}
use Rattle.tdb_world.specs.States.{IsAside, IsStateOf}
use Rattle.tdb_world.specs.Steps.{IsAmong}
use Rattle.tdb_world.specs.Whole.{Whole, form_at, is_starting}

-- A turn of an opener that has this task outside a transaction failed, and led from image a to image b. The file
-- doesn't become shorter, each byte of the header stays but for the sequence number, and so does each byte of the undo
-- area. Behind the header at most the chain of the command's key changed, the free list, their heads, and the record
-- that the command holds, or what a wipe or a purge of the opener's cursor may write to.
pub record StoppedInFile (w : Whole) (a b : List ℕ) (who : ℕ) (x : Opener) (t : Task) : Type 0 where
  pub front : FrontStays (form_at w) a b
  pub left : JobStopped (form_at w) a b x.walk.cursor t.job t.steps (other_hands w.openers.openers (law_opener who))

-- A turn of the one aside failed: no call changed the file, or each stop in the turn and behind it leaves what its
-- stage says, by the images that are known of the file and of its transaction. What is read of the file then is one
-- such image.
abbrev pub StoppedAside : Whole → HolderState → History → History → Type 0
StoppedAside w holder h g =
    (g ≡ h) ⊎ ((image : List ℕ) (past : Past) (s : Side) (A : IsAside w holder h image past s) → LeavesOnly h g (StageMayLeave holder.stage h A.known))

-- A turn of an opener failed: outside a transaction, of the one aside, or the first of a Start, of which a stop leaves
-- what one might have left before; or of an opener that is shut out, which changes nothing.
pub data StoppedTurn (w : Whole) (h g : History) (who : ℕ) : Type 0 where
  stopped_in_file : (x : Opener) (t : Task) → HasFile w who x t → StoppedInFile w (seen h) (seen g) who x t → StoppedTurn w h g who
  stopped_aside : (holder : HolderState) → w.aside ≡ Some holder → who ≡ holder.owner → StoppedAside w holder h g → StoppedTurn w h g who
  stopped_at_start : IsAmong w who → is_starting w.starts (law_opener who) ≡ true → LeavesOnly h g (Leaves h) → StoppedTurn w h g who
  stopped_shut_out : g ≡ h → StoppedTurn w h g who

-- So it is in a world that has a state over this history of its file.
abbrev pub StopsRightly : Whole → History → History → ℕ → Type 0
StopsRightly w h g who = (state : State) → IsStateOf w h state → StoppedTurn w h g who
