-- Where a cursor stands, what it holds, and what each of its turns does.
use Rattle.std.specs.Prelude.{◌≡◌, ℕ, ◌%◌, ◌≤◌, ◌<◌, ◌^◌, Bool, true, false, List, Option, Some, None, Contains, MatchBool, if◌then◌else◌, ◌==◌, ◌||◌}
use Rattle.tdb_words.specs.declared.record.TheConstants.{USED}
use Rattle.tdb_space.specs.Form.{Form, data_start}
use Rattle.tdb_space.specs.Record.{key_at, data_at, magic_of}
use Rattle.tdb_space.specs.Chain.{chain_of, Member}
use Rattle.tdb_space.specs.Pairs.{home}
use Rattle.tdb_space.specs.Extents.{HandPair}
use Rattle.tdb_space.specs.Accepted.{AcceptWith}
use Rattle.tdb_locks.specs.HeldLocks.{HeldLocks}
use Rattle.tdb_locks.specs.LockTable.{held}
use Rattle.tdb_locks.specs.declared.kind.Kind.{Kind}
use Rattle.tdb_locks.specs.declared.kind.Kind.TheVariants.{Read, Write}
use Rattle.tdb_locks.specs.declared.piece.Piece.{Piece}
use Rattle.tdb_locks.specs.declared.turn.Reply.{Reply}
use Rattle.tdb_locks.specs.declared.turn.Turn.{Turn}
use Rattle.tdb_locks.specs.declared.turn.Turn.TheVariants.{Step, Blocked, Done}
use Rattle.tdb_walk.specs.declared.live.Live.{Live}
use Rattle.tdb_walk.specs.declared.standing.Standing.{Standing}
use Rattle.tdb_walk.specs.declared.standing.Standing.TheVariants.{Before, On, Past}
use Rattle.tdb_walk.specs.declared.stage.Stage.{Stage}
use Rattle.tdb_walk.specs.declared.stage.Stage.TheVariants.{Rested, Reading, Writing, Freeing}
use Rattle.tdb_walk.specs.declared.stage.Goal.{Goal}
use Rattle.tdb_walk.specs.declared.stage.Goal.TheVariants.{First, Next, Leave}
use Rattle.tdb_walk.specs.declared.stage.StepLock.{StepLock}
use Rattle.tdb_walk.specs.declared.stage.StepLock.TheVariants.{ReadChain, WriteChain, FreeList}
use Rattle.tdb_walk.specs.declared.stage.Act.{Act}
use Rattle.tdb_walk.specs.declared.stage.Act.TheVariants.{Lock, Move, End}
use Rattle.tdb_walk.specs.declared.way.Way.TheVariants as Way
use Rattle.tdb_walk.specs.declared.purging.DeadRecord.{DeadRecord}
use Rattle.tdb_walk.specs.NextLive.{place_of}
use Rattle.tdb_walk.specs.Purging.{IsDeadIn, IsPurged, PurgeBroken}
use Rattle.tdb_walk.specs.Way.{IsWay, lock_byte, next_chain, reads_chain}
use Rattle.tdb_walk.specs.ByteLocks.{Holding, with_byte, reads_all, only_reads, CanHold, IsKeptFrom}

-- where a cursor stands, and how far it is with the turns of a command
pub record At : Type 0 where
  pub place : Standing
  pub stage : Stage

-- a place at which no command is under way
abbrev pub rested : Standing → At
rested place = record { place = place; stage = Rested }

-- a record stands at a multiple of 4, in the room of an offset
abbrev pub IsPlaced : Standing → Type 0
IsPlaced (On chain off) = (off % 4 ≡ 0) × (off < 2 ^ 32)
IsPlaced (Before chain) = Unit {0}
IsPlaced Past = Unit {0}

-- the record on which a cursor stands
abbrev pub spot_of : Standing → Option ℕ
spot_of (On chain off) = Some off
spot_of (Before chain) = None
spot_of Past = None

-- the dead record that a cursor purges at its next turn: the one on which it stands, once its chain and the free list
-- are locked
abbrev pub dead_of : Standing → Stage → Option DeadRecord
dead_of (On chain off) Rested = None
dead_of (On chain off) Reading = None
dead_of (On chain off) Writing = None
dead_of (On chain off) Freeing = Some (record { chain = chain; off = off })
dead_of (Before chain) stage = None
dead_of Past stage = None

-- A record has to be purged by the cursor that leaves it: it is dead, no other cursor stands on it, and the file may be
-- changed, which an opener that holds all records for reading may not either.
pub record IsToPurge (f : Form) (img : List ℕ) (own : HeldLocks) (stood_on : List ℕ) (read_only : Bool) (off : ℕ) : Type 0 where
  pub dead : magic_of f.order img off ≡ USED → ⊥
  pub alone : Contains stood_on off → ⊥
  pub writable : read_only ≡ false
  pub writes : only_reads own ≡ false

-- A cursor has to purge the record on which it stands. This is decided at the first turn of a command, before any lock.
abbrev pub HasToPurge : Form → List ℕ → HeldLocks → List ℕ → Bool → Standing → Stage → Type 0
HasToPurge f img own stood_on read_only (On chain off) Rested = IsToPurge f img own stood_on read_only off
HasToPurge f img own stood_on read_only (On chain off) Reading = ⊥
HasToPurge f img own stood_on read_only (On chain off) Writing = ⊥
HasToPurge f img own stood_on read_only (On chain off) Freeing = ⊥
HasToPurge f img own stood_on read_only (Before chain) stage = ⊥
HasToPurge f img own stood_on read_only Past stage = ⊥

-- What is known of the image where a cursor stands: its record is one of its chain, and a dead one where the cursor is
-- going to purge it.
abbrev pub Knows : Form → List ℕ → Standing → Stage → Type 0
Knows f img (On chain off) Rested = (chain < f.chains) × Member off (chain_of f img chain)
Knows f img (On chain off) Reading = (chain < f.chains) × Member off (chain_of f img chain)
Knows f img (On chain off) Writing = (chain < f.chains) × IsDeadIn f img chain off
Knows f img (On chain off) Freeing = (chain < f.chains) × IsDeadIn f img chain off
Knows f img (Before chain) stage = Unit {0}
Knows f img Past stage = Unit {0}

-- the byte of the free list
abbrev pub free_byte : ℕ
free_byte = 164

-- which byte a lock of a turn is of, how strong it is, whether the opener's explicit locks cover it, and how far the
-- cursor is with it
abbrev pub byte_of : StepLock → ℕ
byte_of (ReadChain chain) = lock_byte chain
byte_of (WriteChain chain) = lock_byte chain
byte_of FreeList = free_byte

abbrev pub kind_of : StepLock → Kind
kind_of (ReadChain chain) = Read
kind_of (WriteChain chain) = Write
kind_of FreeList = Write

abbrev pub covers : HeldLocks → StepLock → Bool
covers own (ReadChain chain) = reads_chain own chain
covers own (WriteChain chain) = reads_chain own chain
covers own FreeList = false

abbrev pub stage_of : StepLock → Stage
stage_of (ReadChain chain) = Reading
stage_of (WriteChain chain) = Writing
stage_of FreeList = Freeing

-- Where the move of a command goes from: First from before the first chain, or from where its move was blocked; Next
-- from where the cursor stands.
abbrev pub from_of : Goal → Standing → Standing
from_of First (Before chain) = Before chain
from_of First (On chain off) = Before 0
from_of First Past = Before 0
from_of Next place = place
from_of Leave place = place

-- Where a cursor stands after a command for which memory was wanting: First and Next end it, and a leave leaves it
-- where it stood.
abbrev pub spared_of : Goal → Standing → Standing
spared_of First place = Past
spared_of Next place = Past
spared_of Leave place = place

-- what the last turn of a command does
abbrev pub last_of : Goal → Standing → Act
last_of First place = Move (from_of First place)
last_of Next place = Move (from_of Next place)
last_of Leave place = End

-- what the first turn does on a record that isn't to be purged
abbrev pub first_of : Goal → ℕ → Standing → Act
first_of First chain place = Move (from_of First place)
first_of Next chain place = Lock (ReadChain chain)
first_of Leave chain place = End

-- What the next turn of a command does, where it is told whether the cursor has to purge the record on which it stands.
-- If so, the chain and then the free list are locked for writing before anything else; else Next locks the chain for
-- reading.
abbrev pub act_of : Goal → Standing → Stage → Bool → Act
act_of goal (On chain off) Rested due = if due then Lock (WriteChain chain) else first_of goal chain (On chain off)
act_of goal (On chain off) Reading due = last_of goal (On chain off)
act_of goal (On chain off) Writing due = Lock FreeList
act_of goal (On chain off) Freeing due = last_of goal (On chain off)
act_of goal (Before chain) stage due = last_of goal (Before chain)
act_of goal Past stage due = last_of goal Past

-- a cursor that stands there stands on the record at this offset
abbrev pub is_on : Standing → ℕ → Bool
is_on (On chain at) off = at == off
is_on (Before chain) off = false
is_on Past off = false

-- What is held once a cursor has left for a place what it held: it has let go of the byte of its record, unless it
-- stands on that again, and of those of its chain and of the free list as far as its command locked them.
abbrev pub let_go : HeldLocks → ℕ → Standing → Stage → Standing → Holding → Holding
let_go own owner (On chain off) Rested later h = with_byte (reads_all own || is_on later off) owner off None h
let_go own owner (On chain off) Reading later h = with_byte (reads_chain own chain) owner (lock_byte chain) None (with_byte (reads_all own || is_on later off) owner off None h)
let_go own owner (On chain off) Writing later h = with_byte (reads_chain own chain) owner (lock_byte chain) None (with_byte (reads_all own || is_on later off) owner off None h)
let_go own owner (On chain off) Freeing later h =
    with_byte false owner free_byte None (with_byte (reads_chain own chain) owner (lock_byte chain) None (with_byte (reads_all own || is_on later off) owner off None h))
let_go own owner (Before chain) stage later h = h
let_go own owner Past stage later h = h

-- What is held after a move: the byte of the record that it comes to, and of what the cursor held before it nothing
-- else; where another opener holds the byte of that record for writing, nothing changes.
abbrev pub held_moved : HeldLocks → ℕ → At → Standing → Turn → Holding → Holding
held_moved own owner at (On chain off) Step h = h
held_moved own owner at (On chain off) (Blocked other byte) h = h
held_moved own owner at (On chain off) (Done reply) h = let_go own owner at.place at.stage (On chain off) (with_byte (reads_all own) owner off (Some Read) h)
held_moved own owner at (Before chain) turn h = let_go own owner at.place at.stage (Before chain) h
held_moved own owner at Past turn h = let_go own owner at.place at.stage Past h

-- what is held after a turn that takes a lock, where the cursor stands at this place then
abbrev pub held_locked : HeldLocks → ℕ → At → Standing → StepLock → Turn → Holding → Holding
held_locked own owner at place lock Step h = with_byte (covers own lock) owner (byte_of lock) (Some (kind_of lock)) h
held_locked own owner at place lock (Blocked other byte) h = h
held_locked own owner at place lock (Done reply) h = let_go own owner at.place at.stage place h

-- what is held after a turn that led from one place to another
abbrev pub held_after : HeldLocks → ℕ → Act → At → At → Turn → Holding → Holding
held_after own owner (Lock lock) at later turn h = held_locked own owner at later.place lock turn h
held_after own owner (Move from) at later turn h = held_moved own owner at later.place turn h
held_after own owner End at later turn h = let_go own owner at.place at.stage later.place h

-- A turn that takes a lock: it is taken or was covered, and the cursor is so much further; or the turn is blocked by
-- the first conflict, and the cursor is as it was; or memory is wanting, and the cursor is at the place where it is
-- spared.
abbrev pub LockLed : List Piece → ℕ → HeldLocks → StepLock → Standing → At → At → Turn → Type 0
LockLed ps owner own lock spared at later Step = (later ≡ record at { stage = stage_of lock }) × CanHold (covers own lock) ps owner (byte_of lock) (kind_of lock)
LockLed ps owner own lock spared at later (Blocked other byte) = (later ≡ at) × IsKeptFrom (covers own lock) ps owner (byte_of lock) (kind_of lock) other byte
LockLed ps owner own lock spared at later (Done reply) = (reply ≡ Reply.Memory) × (later ≡ rested spared)

-- A turn in which a cursor leaves its record for a place: it does so; or memory is wanting for the purge, and the
-- cursor is at the place where it is spared.
pub data LeaveLed (dead : Option DeadRecord) (place spared : Standing) (told : Turn) (later : At) (turn : Turn) : Type 0 where
  leaves : turn ≡ told → later ≡ rested place → LeaveLed dead place spared told later turn
  cannot : (dead ≡ None → ⊥) → turn ≡ Done Reply.Memory → later ≡ rested spared → LeaveLed dead place spared told later turn

-- A turn at a record to which a move has come: the cursor stands there, reads the record's byte, and the reply is the
-- record's pair; or another opener holds that byte for writing, and the cursor is as it was; or memory is wanting, and
-- the cursor has ended.
pub data Came (f : Form) (img : List ℕ) (ps : List Piece) (owner : ℕ) (own : HeldLocks) (live : Live) (at later : At) (turn : Turn) : Type 0 where
  shown : turn ≡ Done (Reply.Pair (key_at f.order img live.off) (data_at f.order img live.off)) → later ≡ rested (On live.chain live.off) → CanHold (reads_all own) ps owner live.off Read → Came f img ps owner own live at later turn
  barred : (other byte : ℕ) → turn ≡ Blocked other byte → later ≡ at → IsKeptFrom (reads_all own) ps owner live.off Read other byte → Came f img ps owner own live at later turn
  wants : turn ≡ Done Reply.Memory → later ≡ rested Past → Came f img ps owner own live at later turn

-- A turn that moves on from a place comes to the next live record; or it is blocked before a chain, where the cursor
-- stands then; or no live record is left, and the cursor has ended; or memory is wanting, and the cursor has ended.
pub data MoveLed (f : Form) (img : List ℕ) (ps : List Piece) (owner : ℕ) (own : HeldLocks) (from : Standing) (at later : At) (turn : Turn) : Type 0 where
  comes : (live : Live) → IsWay f img ps owner own (place_of from) (next_chain f from) (Way.Met live) → Came f img ps owner own live at later turn → MoveLed f img ps owner own from at later turn
  stops : (chain other byte : ℕ) → IsWay f img ps owner own (place_of from) (next_chain f from) (Way.Blocked chain other byte) → turn ≡ Blocked other byte → later ≡ rested (Before chain) → MoveLed f img ps owner own from at later turn
  ends : IsWay f img ps owner own (place_of from) (next_chain f from) Way.End → turn ≡ Done Reply.End → later ≡ rested Past → MoveLed f img ps owner own from at later turn
  gives_up : turn ≡ Done Reply.Memory → later ≡ rested Past → MoveLed f img ps owner own from at later turn

-- A turn that moves on, whatever the bytes of the file are. It shows a pair, and the cursor stands behind the heads of
-- all chains, on a record of the chain in which the pair's key is filed, and reads the record's byte; or another opener
-- holds what it wants, and the cursor is as it was, or stands before a chain; or it ends, or memory is wanting, and the
-- cursor has ended.
pub data WentTo (f : Form) (ps : List Piece) (owner : ℕ) (own : HeldLocks) (at later : At) (turn : Turn) : Type 0 where
  arrives : (key value : List ℕ) (off : ℕ) → turn ≡ Done (Reply.Pair key value) → later ≡ rested (On (home f key) off) → data_start f ≤ off → CanHold (reads_all own) ps owner off Read → WentTo f ps owner own at later turn
  held_up : (other byte : ℕ) → turn ≡ Blocked other byte → later ≡ at → WentTo f ps owner own at later turn
  halts : (chain other byte : ℕ) → turn ≡ Blocked other byte → later ≡ rested (Before chain) → WentTo f ps owner own at later turn
  finishes : turn ≡ Done Reply.End → later ≡ rested Past → WentTo f ps owner own at later turn
  lacks : turn ≡ Done Reply.Memory → later ≡ rested Past → WentTo f ps owner own at later turn

-- what a turn does whatever the bytes of the file are
abbrev pub StepLed : Form → List Piece → ℕ → HeldLocks → Act → Standing → At → At → Turn → Type 0
StepLed f ps owner own (Lock lock) spared at later turn = LockLed ps owner own lock spared at later turn
StepLed f ps owner own (Move from) spared at later turn = WentTo f ps owner own at later turn
StepLed f ps owner own End spared at later turn = LeaveLed (dead_of at.place at.stage) Past spared (Done Reply.Ok) later turn

-- where a turn moves to
abbrev pub StepMoved : Form → List ℕ → List Piece → ℕ → HeldLocks → Act → At → At → Turn → Type 0
StepMoved f img ps owner own (Lock lock) at later turn = Unit {0}
StepMoved f img ps owner own (Move from) at later turn = MoveLed f img ps owner own from at later turn
StepMoved f img ps owner own End at later turn = Unit {0}

-- A turn of a cursor, over an image that a contract may see: whether the record on which the cursor stands has to be
-- purged is decided where no command is under way yet, never where its opener may change no chain, and the turn does
-- what follows from that, from the place, and from how far the command is.
pub record StepTaken (told : Type 0) (f : Form) (img : List ℕ) (ps now : List Piece) (owner : ℕ) (own : HeldLocks) (stood_on : List ℕ) (goal : Goal) (read_only : Bool) (at later : At) (turn : Turn) : Type 0 where
  pub due : Bool
  pub led : StepLed f ps owner own (act_of goal at.place at.stage due) (spared_of goal at.place) at later turn
  pub writes : due ≡ true → only_reads own ≡ false
  pub holds : (o b : ℕ) → held now o b ≡ held_after own owner (act_of goal at.place at.stage due) at later turn (held ps) o b
  pub decided : told → (hands : List HandPair) → AcceptWith f img hands → Knows f img at.place at.stage
      → MatchBool due (HasToPurge f img own stood_on read_only at.place at.stage) (HasToPurge f img own stood_on read_only at.place at.stage → ⊥)
  pub moved : told → (hands : List HandPair) → AcceptWith f img hands → Knows f img at.place at.stage → StepMoved f img ps owner own (act_of goal at.place at.stage due) at later turn

-- What a turn makes of the image: it keeps it where the cursor leaves no dead record that it has to purge; else it
-- purges that one, and no command is under way then; or it is blocked at the record to which the move comes, and the
-- cursor is as it was; or memory is wanting. Nothing changes in the last two cases.
pub data StepMade (f : Form) (a b : List ℕ) (hands : List HandPair) (at later : At) (turn : Turn) : Type 0 where
  keeps : dead_of at.place at.stage ≡ None → b ≡ a → StepMade f a b hands at later turn
  purges : (d : DeadRecord) → dead_of at.place at.stage ≡ Some d → later.stage ≡ Rested → (turn ≡ Done Reply.Memory → ⊥) → IsPurged f a b d.chain d.off hands → StepMade f a b hands at later turn
  waits : (other byte : ℕ) → turn ≡ Blocked other byte → later ≡ at → b ≡ a → StepMade f a b hands at later turn
  starves : turn ≡ Done Reply.Memory → b ≡ a → StepMade f a b hands at later turn

-- what a turn of a cursor leaves where it fails: nothing has changed, but where the turn was to purge a record
abbrev pub StepStops : Form → List ℕ → List ℕ → At → Type 0
StepStops f a b at =
    (hands : List HandPair) → AcceptWith f a hands → Knows f a at.place at.stage → PurgeBroken f a b (dead_of at.place at.stage) hands

-- The key of the pair that was shown last, after a turn: that of its reply, where it shows one.
abbrev pub shown_after : List ℕ → Turn → List ℕ
shown_after old (Done (Reply.Pair key value)) = key
shown_after old turn = old
