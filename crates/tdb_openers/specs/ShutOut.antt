-- Turns of openers whom another one shuts out: that one is aside of the world, and holds all records for writing.
use Rattle.std.specs.Prelude.{ℕ, ◌+◌, ◌-◌, ◌*◌, ◌/◌, ◌≡◌, ◌≤◌, ◌==◌, ◌&&◌, List, [], Bool, true, false, not, nat_lt, length, Option, None, Some}
use Rattle.tdb_words.specs.Word.{word}
use Rattle.tdb_space.specs.Accepted.{AcceptWith}
use Rattle.tdb_space.specs.Form.{Form, form_in, data_start, chain_head}
use Rattle.tdb_space.specs.Pairs.{home}
use Rattle.tdb_locks.specs.HeldLocks.{nothing_held}
use Rattle.tdb_locks.specs.declared.kind.Kind.TheVariants.{Write}
use Rattle.tdb_locks.specs.declared.turn.Reply.{Reply}
use Rattle.tdb_locks.specs.declared.turn.Turn.{Turn}
use Rattle.tdb_locks.specs.declared.turn.Turn.TheVariants.{Blocked, Done}
use Rattle.tdb_law.specs.Commands.{Turn as LawTurn}
use Rattle.tdb_law.specs.Images.{image_map}
use Rattle.tdb_law.specs.Openers.{Task as LawTask}
use Rattle.tdb_law.specs.World.{IsSound}
use Rattle.tdb_law.specs.Turned.{Turned}
use Rattle.tdb_law.specs.OneAside.Sides.{Past, Side, beside, StandsAside}
use Rattle.tdb_law.specs.OneAside.Passing.{HeadsTell}
use Rattle.tdb_law.specs.OneAside.Turns.{past_after}
use Rattle.tdb_commands.specs.InLaw.{law_opener}
use Rattle.tdb_steps.specs.LockRows.{start_of, rows_of}
use Rattle.tdb_walk.specs.Passing.{PassesTo, PassesWithin, enters, walk_passed}
use Rattle.tdb_walk.specs.Way.{lock_byte}
use Rattle.tdb_openers.specs.declared.opener.Opener.{Opener}
use Rattle.tdb_openers.specs.declared.job.Job.{Job}
use Rattle.tdb_openers.specs.declared.job.Job.TheVariants.{Refused, Plain, Check, Locking, Seqnum, Walk}
use Rattle.tdb_openers.specs.declared.job.Locking.{Locking as LockingCommand}
use Rattle.tdb_openers.specs.declared.job.Locking.TheVariants as Locks
use Rattle.tdb_openers.specs.declared.job.Walking.{Walking}
use Rattle.tdb_openers.specs.declared.job.Walking.TheVariants as Walks
use Rattle.tdb_openers.specs.Aside.{IsBare}
use Rattle.tdb_openers.specs.Laws.{IsPut}
use Rattle.tdb_openers.specs.Worlds.{World, state_in, IsNumber}

-- The opener aside, which has this number, shuts the others out of a world over these bytes.
pub record ShutsOut (w : World) (img : List ℕ) (past : Past) (s : Side) (holder : ℕ) : Type 0 where
  pub counted : holder ≡ s.here + 1
  pub shuts : s.shuts ≡ true
  pub sound : IsSound (form_in w.header) (beside (state_in w img) past s)
  pub aside : StandsAside (state_in w img) s

-- The opener with this number has nothing but all records, which it holds for writing: nobody else holds one then.
pub record HoldsAll (w : World) (holder : ℕ) : Type 0 where
  pub opener : Opener
  pub number : IsNumber w holder opener
  pub bare : IsBare opener
  pub count : ℕ
  pub all : opener.held.all ≡ Some (Write, count)

-- A turn of one of the others leads from one world to another over the same bytes: it is a turn of the whole state, and
-- who is aside stands so afterwards.
pub record IsTurnBeside (old new : World) (img : List ℕ) (past : Past) (s : Side) (who : ℕ) (t : LawTask) (turn : LawTurn) : Type 0 where
  pub turned : Turned (form_in old.header) (beside (state_in old img) past s) who t turn (beside (state_in new img) (past_after (form_in old.header) (state_in old img) who t turn past) s)
  pub aside : StandsAside (state_in new img) s

-- An opener is this one afterwards, and all else is as it was.
pub record IsReplaced (old : World) (who : ℕ) (y : Opener) (new : World) : Type 0 where
  pub put : IsPut old.openers (law_opener who) y new.openers
  pub rest : record new { openers = old.openers } ≡ old

-- The turn of a command on explicit locks, where another opener of this number holds all records for writing: a lock is
-- blocked at the first byte that it wants, or is busy there. An unlock has no such turn, since its opener holds no
-- record.
abbrev pub LockingMeets : Form → LockingCommand → ℕ → Turn → Type 0
LockingMeets f (Locks.Chain key) holder turn = turn ≡ Blocked holder (168 + 4 * home f key)
LockingMeets f (Locks.ChainNb key) holder turn = turn ≡ Done (Reply.Busy holder (168 + 4 * home f key))
LockingMeets f Locks.All holder turn = turn ≡ Blocked holder 168
LockingMeets f Locks.AllRead holder turn = turn ≡ Blocked holder 168
LockingMeets f unlock holder turn = ⊥

-- A cursor that stands on no record ends at once. A move looks at the heads of the chains, and is apart.
abbrev pub WalkMeets : Walking → Turn → Type 0
WalkMeets Walks.First turn = ⊥
WalkMeets Walks.Next turn = ⊥
WalkMeets Walks.EndWalk turn = turn ≡ Done Reply.Ok
WalkMeets Walks.Close turn = turn ≡ Done Reply.Ok

-- So of each job; who asks for the sequence number wants no record, and isn't shut out.
abbrev pub JobMeets : Form → Job → ℕ → Turn → Type 0
JobMeets f (Refused command reply) holder turn = turn ≡ Done reply
JobMeets f (Plain doing) holder turn = turn ≡ Blocked holder (start_of (rows_of doing.command doing.chain).first.region)
JobMeets f (Check checking) holder turn = turn ≡ Blocked holder 168
JobMeets f (Locking locking) holder turn = LockingMeets f locking holder turn
JobMeets f Seqnum holder turn = ⊥
JobMeets f (Walk walking) holder turn = WalkMeets walking turn

-- a job with such a turn
abbrev pub MayMeet : Job → Type 0
MayMeet (Locking (Locks.Unchain key)) = ⊥
MayMeet (Locking Locks.UnlockAll) = ⊥
MayMeet Seqnum = ⊥
MayMeet (Walk Walks.First) = ⊥
MayMeet (Walk Walks.Next) = ⊥
MayMeet job = Unit {0}

-- a job by which a cursor moves
abbrev pub IsMove : Job → Type 0
IsMove (Walk Walks.First) = Unit {0}
IsMove (Walk Walks.Next) = Unit {0}
IsMove job = ⊥

-- the opener whose job has ended: by a Close it has ended too
abbrev pub after_job : Job → Opener → Opener
after_job (Walk Walks.Close) x = record x { live = false; held = nothing_held; task = None }
after_job job x = record x { task = None }

-- and after a turn, by which it may also be blocked
abbrev pub opener_after : Turn → Job → Opener → Opener
opener_after (Done reply) job x = after_job job x
opener_after turn job x = x

-- whether a lock byte is that of a chain whose head in an image isn't 0
abbrev pub is_head : Form → List ℕ → ℕ → Bool
is_head f img j = nat_lt j f.chains && not (word f.order img (chain_head j) == 0)

abbrev pub heads_in : Form → List ℕ → ℕ → Bool
heads_in f img b = (b == lock_byte ((b - 168) / 4)) && is_head f img ((b - 168) / 4)

-- What a move reads of the file: the heads of its chains. They are those of the side that shuts the others out, and
-- tell what they have to of the image that others see, which is accepted.
pub record HeadsShow (w : World) (img file : List ℕ) (s : Side) : Type 0 where
  pub accepted : AcceptWith (form_in w.header) img []
  pub reaches : data_start (form_in w.header) ≤ length file
  pub heads : s.heads ≡ heads_in (form_in w.header) file
  pub tell : HeadsTell (form_in w.header) (image_map (form_in w.header) img) s

-- The turn of a move that comes to the first chain whose head isn't 0, or to none; and the opener after it.
abbrev pub passed_turn : ℕ → Option ℕ → Turn
passed_turn holder None = Done Reply.End
passed_turn holder (Some chain) = Blocked holder (168 + 4 * chain)

abbrev pub opener_passed : Option ℕ → Opener → Opener
opener_passed None x = record x { task = None; walk = walk_passed None x.walk }
opener_passed (Some chain) x = record x { walk = walk_passed (Some chain) x.walk }

-- The opener's move has passed over the chains whose heads are 0, in a file of these bytes, where it told them.
pub record HasPassed (told : Type 0) (f : Form) (img : List ℕ) (size holder : ℕ) (x y : Opener) (turn : Turn) : Type 0 where
  pub found : Option ℕ
  pub says : turn ≡ passed_turn holder found
  pub after : y ≡ opener_passed found x
  pub within : PassesWithin f (enters x.walk.cursor.place) found
  pub passed : told → data_start f ≤ size → PassesTo f img (enters x.walk.cursor.place) found

-- So it is of the opener with this number, and all else is as it was.
pub record IsPassed (told : Type 0) (f : Form) (img : List ℕ) (size : ℕ) (old : World) (who holder : ℕ) (x : Opener) (new : World) (turn : Turn) : Type 0 where
  pub later : Opener
  pub passed : HasPassed told f img size holder x later turn
  pub replaced : IsReplaced old who later new
