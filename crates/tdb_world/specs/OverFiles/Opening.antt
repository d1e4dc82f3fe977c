-- A file that was made or opened, with a world over it; or the refusal, with the disk.
use Rattle.std.specs.Prelude.{ℕ, ◌≡◌, ◌≤◌, ◌<◌, List, [], Bool, IsTrue, None, Result, Ok, Err, false}
use Rattle.tdb_disk.specs.Count.{HasCauseOf}
use Rattle.tdb_disk.specs.History.{History, seen}
use Rattle.tdb_disk.specs.declared.disk.Disk.{Ghosts}
use Rattle.tdb_space.specs.Accepted.{AcceptWith}
use Rattle.tdb_space.specs.Form.{form_of}
use Rattle.tdb_law.specs.World.{State}
use Rattle.tdb_log.specs.Logs.{Logged}
use Rattle.tdb_commands.specs.declared.options.Options.{Options}
use Rattle.tdb_open.specs.Creating.{new_length, new_file_header, IsMade, MadeInPart}
use Rattle.tdb_open.specs.Loading.{OpenedToTurn, TurnOpeningHeard}
use Rattle.tdb_open.specs.Opening.{IsCheckedOn, OpensSafely}
use Rattle.tdb_open.specs.declared.creating.NewForm.{NewForm}
use Rattle.tdb_open.specs.declared.halt.Halt.{Halt}
use Rattle.tdb_open.specs.declared.opening.Opened.{Opened}
use Rattle.tdb_world.specs.declared.creating.CreateRefusal.{CreateRefusal}
use Rattle.tdb_world.specs.declared.creating.CreateRefusal.TheVariants.{Device, TooLong}
use Rattle.tdb_world.specs.Whole.{form_at}
use Rattle.tdb_world.specs.Loaded.{IsJustLoaded}
use Rattle.tdb_world.specs.OverFile.{OverFile}

-- A world with these options over an accepted file, in which nobody has joined.
pub record IsBegun (tells : Bool) (asked : Options) (w : OverFile) : Type 0 where
  pub options : w.world.openers.options ≡ asked
  pub nobody : w.world.openers.openers ≡ []
  pub aside : w.world.aside ≡ None
  pub fresh : w.world.stale ≡ false
  pub unspent : w.spent ≡ false
  pub form : IsTrue tells → form_at w.world ≡ form_of (seen w.history)
  pub accepted : IsTrue tells → AcceptWith (form_at w.world) (seen w.history) []
  pub state : IsTrue tells → (state : State) × IsJustLoaded w.world w.history state

-- the count of faults of a disk that comes back with a refusal: it rose where the refusal is this fault, and only there
abbrev pub IsCauseOf : {E : Type 0} → E → ℕ → ℕ → E → Type 0
IsCauseOf fault before now refusal = HasCauseOf {V = Unit {0}} fault before now (Err refusal)

-- A new file of this form was made on a disk with so many faults, and a world over it.
pub record IsNewWorld (tells : Bool) (form : NewForm) (asked : Options) (before : ℕ) (w : OverFile) : Type 0 where
  pub begun : IsBegun tells asked w
  pub made : IsTrue tells → IsMade form.size form.order form.hash w.history
  pub length : w.size ≡ new_length form
  pub short : new_length form ≤ asked.limit
  pub header : w.world.openers.header ≡ new_file_header form
  pub faults : w.faults ≡ before

-- None was made, and the disk comes back: as it was, where the file would be too long; else empty, or with the full
-- length of the file.
pub record IsNotMade {D : Type 0} (g : Ghosts D) (form : NewForm) (options : Options) (old now : D) (refusal : CreateRefusal) : Type 0 where
  pub too_long : (len : ℕ) → refusal ≡ TooLong len → (len ≡ new_length form) × (options.limit < len) × (now ≡ old)
  pub in_part : refusal ≡ Device → IsTrue g.tells → MadeInPart form.size (seen (g.history now))
  pub cause : IsCauseOf Device (g.faults old) (g.faults now) refusal

-- What an opening of a file with these options answers, what it leaves of the file, and what the logs heard of it.
pub record OpenedSo (tells : Bool) (options : Options) (old now : History) (logs later : List Logged) (answer : Result Opened Halt) : Type 0 where
  pub opened : IsTrue tells → OpenedToTurn options old now answer
  pub heard : IsTrue tells → TurnOpeningHeard options (seen old) logs later answer
  pub stops : IsTrue tells → OpensSafely old now

-- A file was opened, and this is what is known of it, and the world over it.
pub record IsLoadedWorld (tells : Bool) (asked : Options) (w : OverFile) (opened : Opened) : Type 0 where
  pub begun : IsBegun tells asked w
  pub checked : IsTrue tells → IsCheckedOn (seen w.history) opened
  pub length : opened.len ≡ w.size
  pub short : opened.len ≤ asked.limit
  pub header : w.world.openers.header ≡ opened.header
