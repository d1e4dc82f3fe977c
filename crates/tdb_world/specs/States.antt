-- The state of a world in the law's words (`tdb_law`), by what is known of its file.
use Rattle.std.specs.Prelude.{ℕ, ◌≡◌, List, [], Bool, true, false, Option, None, Some, is_some}
use Rattle.tdb_disk.specs.History.{History, seen}
use Rattle.tdb_space.specs.Accepted.{AcceptWith}
use Rattle.tdb_space.specs.Form.{form_of}
use Rattle.tdb_space.specs.Opening.{restored}
use Rattle.tdb_space.specs.Undoing.{Reopens}
use Rattle.tdb_locks.specs.declared.kind.Kind.{Kind}
use Rattle.tdb_locks.specs.declared.kind.Kind.TheVariants.{Write}
use Rattle.tdb_law.specs.World.{State, IsSound}
use Rattle.tdb_steps.specs.Turns.{number_of}
use Rattle.tdb_law.specs.OneAside.Sides.{Past, Side, alone, whole}
use Rattle.tdb_law.specs.OneAside.Starts.{with_starts}
use Rattle.tdb_openers.specs.Aside.{LocksNoRecord}
use Rattle.tdb_openers.specs.ShutOut.{heads_in}
use Rattle.tdb_openers.specs.Worlds.{state_in, BytesStand, IsNumber}
use Rattle.tdb_openers.specs.declared.opener.Opener.{Opener}
use Rattle.tdb_txn_owner.specs.Holders.{HolderState}
use Rattle.tdb_txn_owner.specs.Stages.{stage_records, Known, KnowsFile, IsSide}
use Rattle.tdb_world.specs.Whole.{Whole, form_at, options_at, is_starting}

-- an opener at a stage shuts all others out: it holds all records for writing
abbrev pub writes_all : Option Kind → Bool
writes_all (Some Write) = true
writes_all all = false

-- all records, locked once
abbrev pub once : Option Kind → Option (Kind × ℕ)
once None = None
once (Some kind) = Some (kind, 1)

-- The image of the file as the others see it, where nobody shuts them out: its bytes stand with what they have.
pub record IsSeen (w : Whole) (h : History) (img : List ℕ) : Type 0 where
  pub image : img ≡ seen h
  pub bytes : BytesStand w.openers img

-- The one aside is this side of the state, by what is known of the file, which has the map and the number of the image.
-- Among the openers it holds all records as its stage says. While it shuts the others out the heads of the file are all
-- that they may read.
pub record IsAside (w : Whole) (holder : HolderState) (h : History) (img : List ℕ) (past : Past) (s : Side) : Type 0 where
  pub known : Known
  pub image : img ≡ known.file
  pub side : IsSide (form_at w) (options_at w) holder.owner holder.locks holder.stage known past s
  pub file : KnowsFile (form_at w) holder.stage h known
  pub records : (x : Opener) → IsNumber w.openers holder.owner x → x.held.all ≡ once (stage_records holder.stage)
  pub shuts : s.shuts ≡ writes_all (stage_records holder.stage)
  pub accepted : is_some (stage_records holder.stage) ≡ true → AcceptWith (form_at w) img []
  pub others : writes_all (stage_records holder.stage) ≡ false → IsSeen w h img
  pub number : writes_all (stage_records holder.stage) ≡ true → s.table 48 ≡ 0 → w.number ≡ number_of (form_at w) img
  pub heads : writes_all (stage_records holder.stage) ≡ true → s.heads ≡ heads_in (form_at w) (seen h)

abbrev pub SideIs : Whole → Option HolderState → History → List ℕ → Past → Option Side → Type 0
SideIs w None h img past None = IsSeen w h img
SideIs w (Some holder) h img past (Some s) = IsAside w holder h img past s
SideIs w holder h img past s = ⊥

abbrev pub state_with : Whole → List ℕ → Past → Option Side → State
state_with w img past side = with_starts (is_starting w.starts) (whole (state_in w.openers img) past side)

-- A state of a world in which no gate stands open that somebody left.
pub record IsWholeState (w : Whole) (h : History) (state : State) : Type 0 where
  pub fresh : w.stale ≡ false
  pub image : List ℕ
  pub past : Past
  pub side : Option Side
  pub is_side : SideIs w w.aside h image past side
  pub sound : IsSound (form_at w) (whole (state_in w.openers image) past side)
  pub is : state ≡ state_with w image past side

-- A state of a stale world: nobody is aside, no command and no cursor holds a record, and the image is that of the file
-- once its gate is undone.
pub record IsStaleState (w : Whole) (h : History) (state : State) : Type 0 where
  pub stale : w.stale ≡ true
  pub nobody : w.aside ≡ None
  pub image : List ℕ
  pub past : Past
  pub undone : image ≡ restored (form_at w) (seen h)
  pub form : form_of (seen h) ≡ form_at w
  pub reopens : Reopens image (seen h)
  pub accepted : AcceptWith (form_at w) image []
  pub apart : (o : ℕ) → LocksNoRecord (form_at w) (state_in w.openers image) o
  pub sound : IsSound (form_at w) (record (alone (state_in w.openers image) past) { stale = true })
  pub is : state ≡ with_starts (is_starting w.starts) (record (alone (state_in w.openers image) past) { stale = true })

-- a state of the world, where its file has had this history
pub data IsStateOf (w : Whole) (h : History) (state : State) : Type 0 where
  of_whole : IsWholeState w h state → IsStateOf w h state
  of_stale : IsStaleState w h state → IsStateOf w h state
