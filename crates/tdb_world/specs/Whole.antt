-- What contracts see of a world: its openers, which of them have a Start that has had no turn, and the one that has a
-- transaction.
use Rattle.std.specs.Prelude.{ℕ, ◌≡◌, ◌≤◌, List, Bool, true, false, Option, None, Some, slice_get, length}
use Rattle.tdb_locks.specs.declared.kind.Kind.{Kind}
use Rattle.tdb_locks.specs.declared.kind.Kind.TheVariants.{Read, Write}
use Rattle.tdb_commands.specs.InLaw.{law_opener}
use Rattle.tdb_commands.specs.declared.options.Options.{Options}
use Rattle.tdb_space.specs.Form.{Form, form_in}
use Rattle.tdb_openers.specs.Aside.{IsBare}
use Rattle.tdb_openers.specs.Worlds.{World, IsNumber, Stands}
use Rattle.tdb_openers.specs.declared.opener.Opener.{Opener}
use Rattle.tdb_txn_owner.specs.Holders.{HolderState}
use Rattle.tdb_txn_owner.specs.Stages.{stage_records, IsFit}

-- The openers, in whose lock table the one aside holds all records as it does; for each opener whether it has a Start
-- that has had no turn; the one aside, with its transaction or its Start; and the sequence number of the file while the
-- one aside holds all records for writing.
pub record Whole : Type 0 where
  pub openers : World
  pub starts : List Bool
  pub aside : Option HolderState
  pub number : ℕ
  pub stale : Bool

abbrev pub form_at : Whole → Form
form_at w = form_in w.openers.header

abbrev pub options_at : Whole → Options
options_at w = w.openers.options

-- an opener has a Start that has had no turn
abbrev pub is_yes : Option Bool → Bool
is_yes None = false
is_yes (Some b) = b

abbrev pub is_starting : List Bool → ℕ → Bool
is_starting starts o = is_yes (slice_get starts o)

-- Among the openers the one aside has no command, no cursor and no lock but that of all records, which it holds for
-- writing where its stage does, and for reading or writing where its stage does for reading. Its stage fits the file's
-- length.
pub record HolderFits (w : Whole) (h : HolderState) (size : ℕ) : Type 0 where
  pub opener : Opener
  pub number : IsNumber w.openers h.owner opener
  pub bare : IsBare opener
  pub writes : stage_records h.stage ≡ Some Write → opener.held.all ≡ Some (Write, 1)
  pub reads : stage_records h.stage ≡ Some Read → (kind : Kind) × (opener.held.all ≡ Some (kind, 1))
  pub fit : IsFit h.stage w.openers.header w.openers.options.limit size
  pub begun : is_starting w.starts (law_opener h.owner) ≡ false

abbrev pub AsideFits : Whole → Option HolderState → ℕ → Type 0
AsideFits w None size = Unit {0}
AsideFits w (Some h) size = HolderFits w h size

-- An opener that has a Start without a turn has nothing else, and may change the file.
pub record StartFits (w : Whole) (o : ℕ) : Type 0 where
  pub opener : Opener
  pub there : slice_get w.openers.openers o ≡ Some opener
  pub bare : IsBare opener
  pub none : opener.held.all ≡ None
  pub writes : w.openers.options.read_only ≡ false

-- In a stale world nobody is aside, and since no command holds a record the openers stand over a file of any length up
-- to the limit.
pub record StaleFits (w : Whole) : Type 0 where
  pub nobody : w.aside ≡ None
  pub lengths : (img : List ℕ) (size : ℕ) → size ≤ w.openers.options.limit → Stands w.openers img size

-- What holds of a world between any two calls whatever the bytes of its file are, where the file has this length.
pub record WorldFits (w : Whole) (img : List ℕ) (size : ℕ) : Type 0 where
  pub openers : Stands w.openers img size
  pub each : length w.starts ≡ length w.openers.openers
  pub starts : (o : ℕ) → is_starting w.starts o ≡ true → StartFits w o
  pub aside : AsideFits w w.aside size
  pub stale : w.stale ≡ true → StaleFits w
