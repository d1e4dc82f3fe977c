-- What one turn of an opener with a transaction leads to, in the words of the law.
use Rattle.std.specs.Prelude.{◌≡◌, ◌≢◌, ℕ, ◌+◌, List, [], Bool, true, false, Option, None, Some, not}
use Rattle.tdb_disk.specs.History.{History, seen}
use Rattle.tdb_disk.specs.Stop.{Quiet}
use Rattle.tdb_space.specs.Accepted.{AcceptWith}
use Rattle.tdb_space.specs.Form.{Form}
use Rattle.tdb_locks.specs.declared.kind.Kind.TheVariants.{Write}
use Rattle.tdb_locks.specs.declared.piece.Piece.{Piece}
use Rattle.tdb_law.specs.Commands.{Turn}
use Rattle.tdb_law.specs.Commands.GroupCommand.{Commit}
use Rattle.tdb_law.specs.Commands.Command.{OnGroup}
use Rattle.tdb_law.specs.Commands.Turn.{Step}
use Rattle.tdb_law.specs.Openers.{Task, Txn, ended}
use Rattle.tdb_law.specs.Outcomes.{moves}
use Rattle.tdb_law.specs.Rows.{is_changed}
use Rattle.tdb_law.specs.Effects.{IsFree}
use Rattle.tdb_law.specs.Images.{image_map}
use Rattle.tdb_steps.specs.Turns.{number_of}
use Rattle.tdb_txn_turns.specs.declared.starting.Starting.TheVariants.{Reading}
use Rattle.tdb_law.specs.OneAside.Sides.{Past, Side}
use Rattle.tdb_law.specs.OneAside.Own.{OwnTurned, side_wants}
use Rattle.tdb_commands.specs.declared.options.Options.{Options}
use Rattle.tdb_txn_owner.specs.declared.stage.Stage.{Stage}
use Rattle.tdb_txn_owner.specs.declared.stage.Stage.TheVariants as At
use Rattle.tdb_txn_owner.specs.Ends.{HoldsIn}
use Rattle.tdb_commands.specs.InLaw.{options_of}
use Rattle.tdb_txn_owner.specs.Stages.{is_closing, stage_records, Known, KnowsFile, IsSide}
use Rattle.tdb_txn_owner.specs.Waits.{IsAlone}

-- Nobody else stands in the way of the turn of a side, which holds among all what it holds by itself.
pub record MayTurn (f : Form) (table : ℕ → ℕ → ℕ) (s : Side) (t : Task) : Type 0 where
  pub in_table : (b : ℕ) → table s.here b ≡ s.table b
  pub free : IsFree table s.here (side_wants f s t)

-- The last turn of a Start is taken on an accepted file of this form, on which no other opener is in the middle of a
-- change.
abbrev pub BeginsOn : Form → Stage → List ℕ → Type 0
BeginsOn f (At.Starting Reading) file = AcceptWith f file []
BeginsOn f stage file = Unit {0}

-- The file is accepted, on a quiet disk, and has the map and the number of image r.
pub record RestsLike (f : Form) (h : History) (r : List ℕ) : Type 0 where
  pub quiet : Quiet h
  pub accepted : AcceptWith f (seen h) []
  pub map : image_map f (seen h) ≡ image_map f r
  pub number : number_of f (seen h) ≡ number_of f r

-- The opener has no transaction any more. It has no explicit lock and no cursor, and holds nothing; it is live, unless
-- it has ended.
pub record IsBackAs (o : Options) (stays : Bool) (owner : ℕ) (ps : List Piece) (s : Side) : Type 0 where
  pub here : owner ≡ s.here + 1
  pub alone : IsAlone owner ps
  pub table : HoldsIn ps owner s
  pub nothing : (b : ℕ) → s.table b ≡ 0
  pub task : s.task ≡ None
  pub own : ended s.own ≡ s.own
  pub live : s.own.live ≡ stays
  pub options : s.own.options ≡ options_of o

-- what is left after a turn from a stage: the opener at another one, or back among the others
abbrev pub IsLeft : Form → Options → ℕ → List Piece → Stage → Option Stage → Known → Past → Side → Type 0
IsLeft f o owner ps before None k past s = IsBackAs o (not (is_closing before)) owner ps s
IsLeft f o owner ps before (Some stage) k past s = IsSide f o owner ps stage k past s

-- and of the file: where others could read it, the end of a transaction makes no call that changes it
abbrev pub KnowsLeft : Form → Stage → Option Stage → History → History → Known → Type 0
KnowsLeft f (At.Starting s) None old new k = new ≡ old
KnowsLeft f before None old new k = RestsLike f new k.file × (stage_records before ≢ Some Write → new ≡ old)
KnowsLeft f before (Some stage) old new k = KnowsFile f stage new k

-- The image that the file is read as stays by a turn; or the turn shuts the gate of a Commit, and the transaction's
-- image, which is accepted, takes its place.
pub data KeepsFile (f : Form) (s : Side) (t : Task) (turn : Turn) (old new : Known) : Type 0 where
  keeps : new.file ≡ old.file → KeepsFile f s t turn old new
  brings : (txn : Txn) → t.command ≡ OnGroup Commit → turn ≡ Step → s.own.txn ≡ Some txn → txn.image ≡ image_map f old.image → is_changed f t.command s.own (t.steps + 1) ≡ true
      → AcceptWith f old.image [] → new.file ≡ old.image → KeepsFile f s t turn old new

-- by the turn after which the opener is back its cursor doesn't move
abbrev pub IsStill : Form → Side → Task → Option Stage → Type 0
IsStill f s t None = moves f t.command s.own ≡ false
IsStill f s t (Some stage) = Unit {0}

-- A turn from side s, at a stage with what is known of the file, to another side and stage, in a file that had one
-- history and has the other: it is a turn of the law by itself.
pub record StageTurned (f : Form) (o : Options) (table : ℕ → ℕ → ℕ) (owner : ℕ) (rs : List Piece) (before : Stage) (after : Option Stage) (old new : History) (k : Known) (past : Past) (s : Side) (t : Task) (turn : Turn) : Type 0 where
  pub known : Known
  pub later : Past
  pub side : Side
  pub left : IsLeft f o owner rs before after known later side
  pub file : KnowsLeft f before after old new known
  pub kept : KeepsFile f s t turn k known
  pub still : IsStill f s t after
  pub turned : OwnTurned f table (image_map f k.file) (image_map f known.file) (number_of f k.file) (number_of f known.file) past later s side t turn
