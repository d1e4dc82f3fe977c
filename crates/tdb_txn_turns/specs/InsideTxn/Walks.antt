-- What a command that is done in one turn inside its opener's own transaction does to the walk of the opener's own
-- cursor, in the words of the law (`tdb_law`).
use Rattle.std.specs.Prelude.{ℕ, ◌≡◌, ◌≤◌, ◌<◌, ◌⊎◌, List, [], Bool, true, false, Option, Some, None, is_some, Contains, if◌then◌else◌}
use Rattle.std.specs.FinMap.{get}
use Rattle.tdb_space.specs.Form.{Form}
use Rattle.tdb_space.specs.Pairs.{home}
use Rattle.tdb_space.specs.Accepted.{AcceptWith}
use Rattle.tdb_law.specs.Commands.{Command, WalkCommand, Reply, is_first}
use Rattle.tdb_law.specs.Commands.WalkCommand.{First, Next, EndWalk}
use Rattle.tdb_law.specs.Commands.Command.{OnWalk}
use Rattle.tdb_law.specs.Commands.Reply.{Done, End, Memory, Pair}
use Rattle.tdb_law.specs.Commands.Turn.{Ends}
use Rattle.tdb_law.specs.Openers.{Own, Map, Mark, has, nowhere}
use Rattle.tdb_law.specs.Outcomes.{moves}
use Rattle.tdb_law.specs.Walks.{Lost, Shift, begins}
use Rattle.tdb_law.specs.Images.{image_map}
use Rattle.tdb_law.specs.Layout.{chains_in, mark_of}
use Rattle.tdb_locks.specs.HeldLocks.{HeldLocks}
use Rattle.tdb_locks.specs.declared.kind.Kind.TheVariants.{Write}
use Rattle.tdb_walk.specs.declared.stage.Goal.{Goal}
use Rattle.tdb_walk.specs.declared.stage.Goal.TheVariants as Goals
use Rattle.tdb_walk.specs.declared.standing.Standing.{Standing}
use Rattle.tdb_walk.specs.declared.standing.Standing.TheVariants.{On}
use Rattle.tdb_walk.specs.NextLive.{place_of}
use Rattle.tdb_walk.specs.Purging.{IsDeadIn, IsPurged}
use Rattle.tdb_walk.specs.Cursors.{Knows}
use Rattle.tdb_walk.specs.Again.{RestsAt}
use Rattle.tdb_walk.specs.declared.walk.Walk.{Walk}
use Rattle.tdb_txn_turns.specs.declared.inside_txn.own_txn.OwnTxn.{OwnTxn}
use Rattle.tdb_txn_turns.specs.InsideTxn.Done.{ImageKept}
use Rattle.tdb_txn_turns.specs.InsideTxn.OwnTxns.{form_of, image_of, own_inside}

-- Between two commands a cursor rests on a record of the chain of the key that it has shown last, which is one of the
-- image's chain; or it has ended, and shows none.
pub record RestsIn (f : Form) (img : List ℕ) (walk : Walk) : Type 0 where
  pub rests : RestsAt f walk.shown walk.cursor.place walk.cursor.stage
  pub knows : Knows f img walk.cursor.place walk.cursor.stage

-- The image of a transaction over a file with these bytes is accepted, and the cursor of its opener rests in it.
pub record RestsInside (t : OwnTxn) (base : List ℕ) (walk : Walk) : Type 0 where
  pub accepted : AcceptWith (form_of t) (image_of t base) []
  pub cursor : RestsIn (form_of t) (image_of t base) walk

-- the record on which it rests is one of these
abbrev pub IsEntered : List ℕ → Standing → Type 0
IsEntered stood_on (On chain off) = Contains stood_on off
IsEntered stood_on place = Unit {0}

-- where its walk has come in an image
abbrev pub mark_in : Form → List ℕ → Walk → Mark
mark_in f img walk = mark_of f (chains_in f img) (place_of walk.cursor.place)

-- the opener whose cursor it is
abbrev pub with_cursor : Own → Walk → Own
with_cursor x walk = record x { cursor = walk.shown }

-- the command by which a cursor is asked for something
abbrev pub command_for : Goal → WalkCommand
command_for Goals.First = First
command_for Goals.Next = Next
command_for Goals.Leave = EndWalk

-- The key that a cursor has shown last once it was asked for something and got this reply: that of the pair, none where
-- it has ended, and the same where memory was wanting for a leave.
abbrev pub shown_by : Goal → Reply → Option (List ℕ) → Option (List ℕ)
shown_by Goals.Leave Memory key = key
shown_by Goals.Leave r key = None
shown_by goal (Pair k v) key = Some k
shown_by goal r key = None

-- the keys of map m that a move must come to: each where it begins a walk, else those further on
abbrev pub DueInside : Map → Mark → Bool → List ℕ → Type 0
DueInside m mark start k = (if start then has m k else mark.ahead k) ≡ true

-- A move has gone on and has come to a key, in a chain that it has entered: the key was further on, and is so no
-- longer. Each other key that was due is further on still, and none has come to be so.
pub record ArrivesInside (f : Form) (m : Map) (mark later : Mark) (start : Bool) (key : List ℕ) : Type 0 where
  pub further : start ≡ false → mark.reached ≤ later.reached
  pub fewer : start ≡ false → (k : List ℕ) → later.ahead k ≡ true → mark.ahead k ≡ true
  pub kept : (k : List ℕ) → DueInside m mark start k → (key ≡ k) ⊎ (later.ahead k ≡ true)
  pub was : start ≡ false → mark.ahead key ≡ true
  pub behind : later.ahead key ≡ false
  pub reached : home f key < later.reached

-- it finds nothing that is due
abbrev pub FinishesInside : Map → Mark → Bool → Type 0
FinishesInside m mark start = (k : List ℕ) → DueInside m mark start k → ⊥

-- What a command with this reply, of an opener x who is y afterwards, does to the walk of its cursor, which has come to
-- `mark` before it and to `later` after it, in an image with the map m before it. A walk that isn't moved shifts; one
-- that ends is of no more account.
pub data WalkedInside (f : Form) (m : Map) (mark later : Mark) (x y : Own) (c : Command) (r : Reply) : Type 0 where
  shifts : moves f c x ≡ false → (is_some y.cursor ≡ true → Shift f (Lost f c 0 x (Ends r) true mark) mark later) → WalkedInside f m mark later x y c r
  arrives : (k v : List ℕ) → r ≡ Pair k v → moves f c x ≡ true → ArrivesInside f m mark later (begins f c x nowhere) k → WalkedInside f m mark later x y c r
  finishes : r ≡ End → moves f c x ≡ true → FinishesInside m mark (begins f c x nowhere) → WalkedInside f m mark later x y c r
  fails : r ≡ Memory → moves f c x ≡ true → WalkedInside f m mark later x y c r

-- The opener x has this transaction and this cursor before a command with this reply, and those after it, over a file
-- with these bytes: what the command does to the walk of the cursor, and that the cursor rests again.
pub record WalksInside (x : Own) (old new : OwnTxn) (base : List ℕ) (was now : Walk) (c : Command) (r : Reply) : Type 0 where
  pub walked : WalkedInside (form_of old) (image_map (form_of old) (image_of old base)) (mark_in (form_of old) (image_of old base) was) (mark_in (form_of old) (image_of new base) now)
      (own_inside (with_cursor x was) old base) (own_inside (with_cursor x now) new base) c r
  pub rests : RestsInside new base now

-- the locks of an opener that holds all records for writing, once
abbrev pub all_written : HeldLocks
all_written = record { chains = []; all = Some (Write, 1) }

-- a cursor is asked to leave
abbrev pub is_leave : Goal → Bool
is_leave Goals.First = false
is_leave Goals.Next = false
is_leave Goals.Leave = true

-- What a cursor comes to that is asked for something, from its first turn to the reply, in an image with map m. Its
-- walk has come to `mark` before it and to `later` after it, and it had shown the key `was` last, and then `now`. comes
-- a move comes to the pair of the next record passes   no record is further on, and the cursor has ended starves
-- memory is wanting for a move, and the cursor has ended leaves   the cursor has ended by a leave stays    memory is
-- wanting for a leave, and the walk is where it was
pub data CursorCame (f : Form) (m : Map) (goal : Goal) (mark later : Mark) (was now : Option (List ℕ)) (r : Reply) : Type 0 where
  comes : (k v : List ℕ) → r ≡ Pair k v → is_leave goal ≡ false → now ≡ Some k → get m k ≡ Some v → ArrivesInside f m mark later (is_first (OnWalk (command_for goal))) k → CursorCame f m goal mark later was now r
  passes : r ≡ End → is_leave goal ≡ false → now ≡ None → FinishesInside m mark (is_first (OnWalk (command_for goal))) → CursorCame f m goal mark later was now r
  starves : r ≡ Memory → is_leave goal ≡ false → now ≡ None → CursorCame f m goal mark later was now r
  leaves : r ≡ Done → is_leave goal ≡ true → now ≡ None → CursorCame f m goal mark later was now r
  stays : r ≡ Memory → is_leave goal ≡ true → is_some was ≡ true → now ≡ was → later ≡ mark → CursorCame f m goal mark later was now r

-- What a cursor that stood at this place makes of image a, which is b then: a dead record on which it stood is purged,
-- unless memory was wanting; else nothing changes.
pub data PurgesDead (f : Form) (a b : List ℕ) (place : Standing) (r : Reply) : Type 0 where
  purges : (chain off : ℕ) → place ≡ On chain off → IsDeadIn f a chain off → IsPurged f a b chain off [] → PurgesDead f a b place r
  keeps : ((chain off : ℕ) → place ≡ On chain off → IsDeadIn f a chain off → r ≡ Memory) → b ≡ a → PurgesDead f a b place r

-- So it has from image a to image b, and it rests.
pub record CursorDone (f : Form) (a b : List ℕ) (goal : Goal) (old new : Walk) (r : Reply) : Type 0 where
  pub came : CursorCame f (image_map f a) goal (mark_in f a old) (mark_in f b new) old.shown new.shown r
  pub purge : PurgesDead f a b old.cursor.place r
  pub image : ImageKept f a b
  pub rests : RestsIn f b new
