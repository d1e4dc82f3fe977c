-- What openers with options open, and what an opening for them answers and leaves.
use Rattle.std.specs.Prelude.{◌≡◌, ◌⊎◌, ℕ, ◌<◌, ◌≤◌, Bool, true, false, List, length, Result, Ok, Err}
use Rattle.tdb_disk.specs.History.{History, seen}
use Rattle.tdb_space.specs.Form.{form_of}
use Rattle.tdb_space.specs.Opening.{is_open}
use Rattle.tdb_log.specs.Logs.{Logged}
use Rattle.tdb_commands.specs.declared.options.Options.{Options}
use Rattle.tdb_open.specs.declared.halt.Refusal.{Refusal}
use Rattle.tdb_open.specs.declared.halt.Refusal.TheVariants.{TooLong}
use Rattle.tdb_open.specs.declared.halt.Halt.{Halt}
use Rattle.tdb_open.specs.declared.halt.Halt.TheVariants as H
use Rattle.tdb_open.specs.declared.opening.Opened.{Opened}
use Rattle.tdb_open.specs.Notices.{IsTooLong, OpeningHeard, ReadingHeard}
use Rattle.tdb_open.specs.Opening.{opened_bytes, CanOpen, IsRefused, IsRefusedToRead, SameOrUndone, UndoneIfOpen}

-- a file with these bytes is opened with these options: it isn't too long for them, and where it is to be read alone
-- its undo gate isn't open
pub record OpensToTurn (options : Options) (img : List ℕ) : Type 0 where
  pub can_open : CanOpen img
  pub within : length img ≤ options.limit
  pub shut : options.read_only ≡ true → is_open (form_of img) img ≡ false

-- it is refused so: it is too long for them, or any other opening to read it, or to change it, refuses it so
abbrev pub RefusedBy : Bool → List ℕ → Refusal → Type 0
RefusedBy true img refusal = IsRefusedToRead img refusal
RefusedBy false img refusal = IsRefused img refusal

abbrev pub IsRefusedToTurn : Options → List ℕ → Refusal → Type 0
IsRefusedToTurn options img refusal =
    ((refusal ≡ TooLong (length img)) × (options.limit < length img)) ⊎ ((length img ≤ options.limit) × RefusedBy options.read_only img refusal)

-- what an opening leaves of a file: where it is to be read alone, or is too long, what it was; and else it was undone,
-- where it is one to be undone
abbrev pub TurnOpened : Options → History → History → Type 0
TurnOpened options old now =
    (((options.read_only ≡ true) ⊎ (options.limit < length (seen old))) × (now ≡ old)) ⊎ UndoneIfOpen old now

-- A file was opened with these options.
pub record IsOpened (options : Options) (old opened : History) : Type 0 where
  pub left : TurnOpened options old opened
  pub reads : seen opened ≡ opened_bytes (seen old)

-- It was opened with these options, or wasn't.
abbrev pub OpenedToTurn : Options → History → History → Result Opened Halt → Type 0
OpenedToTurn options old now (Ok o) = OpensToTurn options (seen old) × IsOpened options old now
OpenedToTurn options old now (Err (H.Refused refusal)) = IsRefusedToTurn options (seen old) refusal × TurnOpened options old now
OpenedToTurn options old now (Err H.Device) = Unit {0}
OpenedToTurn options old now (Err H.Memory) = SameOrUndone old now
OpenedToTurn options old now (Err H.Log) = SameOrUndone old now

-- What logs heard of an opening of a file with these bytes with these options, by its answer: of reading it alone, or
-- of any other opening. A file that is too long isn't looked into, and they hear nothing of it.
abbrev pub OpeningHeardBy : Bool → List ℕ → List Logged → List Logged → Result Opened Halt → Type 0
OpeningHeardBy true = ReadingHeard
OpeningHeardBy false = OpeningHeard

abbrev pub TurnOpeningHeard : Options → List ℕ → List Logged → List Logged → Result Opened Halt → Type 0
TurnOpeningHeard options img logs later answer =
    ((options.limit < length img) × (later ≡ logs) × IsTooLong img answer)
    ⊎ ((length img ≤ options.limit) × OpeningHeardBy options.read_only img logs later answer)

-- what was opened where a world was loaded
abbrev pub opened_of : {W : Type 0} → Result (W × Opened) Halt → Result Opened Halt
opened_of (Ok loaded) = Ok loaded.1
opened_of (Err halt) = Err halt
