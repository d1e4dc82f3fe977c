-- A cursor in the words of the law (`tdb_law`): what the law sees of an opener that has one outside a transaction, and
-- what each of its turns is there. The law counts openers from 0, the lock table from 1.
use Rattle.std.specs.Prelude.{ℕ, IsTrue, ◌+◌, ◌≡◌, ◌≢◌, ◌≤◌, ◌<◌, ◌⊎◌, Bool, true, false, not, zero, suc, ◌-◌, ◌/◌, ◌==◌, ◌&&◌, nat_eq, nat_le, nat_lt, is_none, List, Option, Some, None, MatchBool, if◌then◌else◌}
use Rattle.std.specs.List.{list_any}
use Rattle.tdb_words.specs.declared.record.TheConstants.{USED}
use Rattle.tdb_words.specs.Header.{sequence_at}
use Rattle.tdb_words.specs.Word.{word}
use Rattle.tdb_space.specs.Form.{Form, data_start, chain_head}
use Rattle.tdb_space.specs.Record.{magic_of}
use Rattle.tdb_space.specs.Pairs.{home}
use Rattle.tdb_space.specs.Extents.{HandPair}
use Rattle.tdb_space.specs.Accepted.{AcceptWith}
use Rattle.tdb_locks.specs.HeldLocks.{HeldLocks, count_of}
use Rattle.tdb_locks.specs.LockTable.{held}
use Rattle.tdb_locks.specs.declared.kind.Kind.{Kind}
use Rattle.tdb_locks.specs.declared.piece.Piece.{Piece}
use Rattle.tdb_locks.specs.declared.turn.Reply.{Reply}
use Rattle.tdb_locks.specs.declared.turn.Turn.{Turn}
use Rattle.tdb_locks.proofs.Strengths.{strength}
use Rattle.tdb_law.specs.Commands.{Command, WalkCommand, Reply as LawReply, Turn as LawTurn}
use Rattle.tdb_law.specs.Commands.WalkCommand.{First, Next, EndWalk, Close}
use Rattle.tdb_law.specs.Commands.Command.{OnWalk}
use Rattle.tdb_law.specs.Openers.{AllLock, Own, Map, Spot, View, count_at, nowhere}
use Rattle.tdb_law.specs.Ends.{IsRow, walk_ends}
use Rattle.tdb_law.specs.Outcomes.{walk_moves, own_after, own_spared}
use Rattle.tdb_law.specs.Refusals.{chain_byte}
use Rattle.tdb_law.specs.Held.{holding, wanted, decided}
use Rattle.tdb_law.specs.World.{State, HasFewChains}
use Rattle.tdb_law.specs.Effects.{Effect, IsFree, IsFirstConflict, Finds, SpotLeft, task_left}
use Rattle.tdb_law.specs.Walks.{Lost, Shift, Walked}
use Rattle.tdb_law.specs.Turned.{number_next}
use Rattle.tdb_law.specs.Images.{image_map}
use Rattle.tdb_law.specs.Layout.{Chains, Place, chains_in, mark_of}
use Rattle.tdb_law.specs.Layout.Place.{on_record}
use Rattle.tdb_walk.specs.declared.standing.Standing.{Standing}
use Rattle.tdb_walk.specs.declared.standing.Standing.TheVariants.{Before, On, Past}
use Rattle.tdb_walk.specs.declared.stage.Stage.{Stage}
use Rattle.tdb_walk.specs.declared.stage.Stage.TheVariants.{Rested, Reading, Writing, Freeing}
use Rattle.tdb_walk.specs.declared.stage.Goal.{Goal}
use Rattle.tdb_walk.specs.declared.stage.Goal.TheVariants as Goals
use Rattle.tdb_walk.specs.declared.purging.DeadRecord.{DeadRecord}
use Rattle.tdb_walk.specs.NextLive.{NoneLive, first_live, left_in, place_of}
use Rattle.tdb_walk.specs.Way.{IsFilled, SameOthers, lock_byte, next_chain}
use Rattle.tdb_walk.specs.ByteLocks.{only_reads}
use Rattle.tdb_walk.specs.Cursors.{At, IsPlaced, HasToPurge, Knows, StepTaken, StepMade, dead_of, free_byte, from_of, spot_of}

-- what a cursor is asked for by a command: both an EndWalk and a Close leave
abbrev pub goal_of : WalkCommand → Goal
goal_of First = Goals.First
goal_of Next = Goals.Next
goal_of EndWalk = Goals.Leave
goal_of Close = Goals.Leave

-- a reply of a cursor, and a turn of it
abbrev pub IsReply : Reply → LawReply → Type 0
IsReply Reply.Ok r = r ≡ LawReply.Done
IsReply (Reply.Pair key value) r = r ≡ LawReply.Pair key value
IsReply Reply.End r = r ≡ LawReply.End
IsReply Reply.Memory r = r ≡ LawReply.Memory
IsReply reply r = ⊥

abbrev pub IsTurn : Turn → LawTurn → Type 0
IsTurn Turn.Step turn = turn ≡ LawTurn.Step
IsTurn (Turn.Blocked other byte) turn = (o : ℕ) × (other ≡ o + 1) × (turn ≡ LawTurn.Blocked o byte)
IsTurn (Turn.Done reply) turn = (r : LawReply) × IsReply reply r × (turn ≡ LawTurn.Ends r)

-- The explicit locks of an opener: all records with this strength; each chain so often, by its lock byte; and no other
-- byte.
abbrev pub IsAll : Option (Kind × ℕ) → Option AllLock → Type 0
IsAll None all = all ≡ None
IsAll (Some a) all = (count : ℕ) × (all ≡ Some (record { strength = strength (Some a.0); count = count }))

pub record HoldsExplicit (own : HeldLocks) (x : Own) : Type 0 where
  pub chains : (j : ℕ) → count_at x (lock_byte j) ≡ count_of own j
  pub free : count_at x free_byte ≡ 0
  pub all : IsAll own.all x.all

-- A cursor stands on a record of the chain of the key that was shown last.
pub record IsShown (f : Form) (cursor : Option (List ℕ)) (chain off : ℕ) : Type 0 where
  pub key : List ℕ
  pub shown : cursor ≡ Some key
  pub filed : home f key ≡ chain
  pub above : data_start f ≤ off

-- A cursor that is asked for something stands so after n steps of the command. On a record it has had as many as its
-- stage tells, and is going to purge that only where its opener may change a chain. Before a chain a move of it was
-- blocked, after one of the steps after which it moves; or it is new. Past the last chain it has shown no pair, and a
-- Next is replied End without it.
abbrev pub StandsAfter : Form → HeldLocks → Own → WalkCommand → Standing → Stage → Bool → ℕ → Type 0
StandsAfter f own x w (On chain off) Rested gone n = IsShown f x.cursor chain off × (gone ≡ false) × (n ≡ 0)
StandsAfter f own x w (On chain off) Reading gone n = IsShown f x.cursor chain off × (gone ≡ false) × (n ≡ 1) × (w ≡ Next)
StandsAfter f own x w (On chain off) Writing gone n = IsShown f x.cursor chain off × (gone ≡ false) × (n ≡ 1) × (only_reads own ≡ false)
StandsAfter f own x w (On chain off) Freeing gone n = IsShown f x.cursor chain off × (gone ≡ false) × (n ≡ 2) × (only_reads own ≡ false)
StandsAfter f own x w (Before chain) stage gone n =
    (stage ≡ Rested) × (((gone ≡ true) × (walk_moves w x ≡ true) × (walk_ends w x.cursor n ≡ true)) ⊎ ((gone ≡ false) × (chain ≡ 0) × (x.cursor ≡ None) × (w ≡ First) × (n ≡ 0)))
StandsAfter f own x w Past stage gone n = (stage ≡ Rested) × (x.cursor ≡ None) × (gone ≡ false) × (n ≡ 0) × (w ≡ Next → ⊥)

-- A chain with records that a move from a place on reads: it isn't entered yet, and no chain before it has a live
-- record left.
pub record IsOnWay (f : Form) (img : List ℕ) (from : Standing) (j : ℕ) : Type 0 where
  pub entered : next_chain f from ≤ j
  pub below : j < f.chains
  pub filled : IsFilled f img j
  pub passed : NoneLive (chains_in f img) (place_of from) j

-- What the file adds: whether the cursor has to purge the record on which it stands, and the lock bytes of the chains
-- that its move reads.
pub record IsView (f : Form) (img : List ℕ) (own : HeldLocks) (stood_on : List ℕ) (read_only : Bool) (goal : Goal) (place : Standing) (v : View) : Type 0 where
  pub must : MatchBool v.must (HasToPurge f img own stood_on read_only place Rested) (HasToPurge f img own stood_on read_only place Rested → ⊥)
  pub way : (j : ℕ) → IsOnWay f img (from_of goal place) j → v.way (lock_byte j) ≡ true
  pub ways : (b : ℕ) → v.way b ≡ true → (j : ℕ) × (b ≡ lock_byte j) × IsOnWay f img (from_of goal place) j

-- The view of an opener with a cursor, as two tests: whether it has to purge its record, and whether a byte is that of
-- a chain which its move reads.
abbrev pub must_purge : Form → List ℕ → HeldLocks → List ℕ → Bool → Standing → Bool
must_purge f img own stood_on read_only (On chain off) = not (magic_of f.order img off == USED) && (not (list_any (nat_eq off) stood_on) && (not read_only && not (only_reads own)))
must_purge f img own stood_on read_only place = false

abbrev pub none_live : Chains → Place → ℕ → Bool
none_live cs place zero = true
none_live cs place (suc n) = none_live cs place n && is_none (first_live (left_in cs place n))

abbrev pub is_on_way : Form → List ℕ → Standing → ℕ → Bool
is_on_way f img from j = nat_le (next_chain f from) j && (nat_lt j f.chains && (not (word f.order img (chain_head j) == 0) && none_live (chains_in f img) (place_of from) j))

abbrev pub view_of : Form → List ℕ → HeldLocks → List ℕ → Bool → Goal → Standing → View
view_of f img own stood_on read_only goal place = record {
  must = must_purge f img own stood_on read_only place;
  way = λ b. (b == lock_byte ((b - 168) / 4)) && is_on_way f img (from_of goal place) ((b - 168) / 4);
}

-- It is the view.
abbrev pub ViewIsSo : Type 0
ViewIsSo = (f : Form) (img : List ℕ) (own : HeldLocks) (stood_on : List ℕ) (read_only : Bool) (goal : Goal) (place : Standing) → IsView f img own stood_on read_only goal place (view_of f img own stood_on read_only goal place)

-- what only the world knows of the opener: the record on which its cursor stands, whether it is going to purge that,
-- and whether a move was blocked
abbrev pub is_purging : Stage → Bool
is_purging Rested = false
is_purging Reading = false
is_purging Writing = true
is_purging Freeing = true

abbrev pub spot_in : At → Bool → Spot
spot_in at gone = record { stands = spot_of at.place; purging = is_purging at.stage; gone = gone }

-- what each opener holds, in the law's numbers
abbrev pub strengths : List Piece → ℕ → ℕ → ℕ
strengths ps o b = strength (held ps (o + 1) b)

-- Before a turn of a cursor, whose opener is x and has had n steps of a command, whatever the bytes of the file are:
-- the cursor stands as after these steps, what its opener holds is what the law says, and others' locks don't conflict
-- with that.
pub record CursorReady (f : Form) (own : HeldLocks) (x : Own) (w : WalkCommand) (at : At) (gone : Bool) (n who : ℕ) (ps : List Piece) : Type 0 where
  pub few : HasFewChains f
  pub outside : x.txn ≡ None
  pub explicit : HoldsExplicit own x
  pub placed : IsPlaced at.place
  pub stands : StandsAfter f own x w at.place at.stage gone n
  pub holds : (b : ℕ) → strengths ps who b ≡ holding f x (spot_in at gone) (Some (record { command = OnWalk w; steps = n })) b
  pub apart : (o b : ℕ) → o ≢ who → strengths ps who b + strengths ps o b ≤ 2

-- Over an image that a contract may see: besides, who holds a record's byte for writing holds every chain's so, and the
-- image is accepted, and is as the cursor knows it.
pub record CursorBefore (f : Form) (own : HeldLocks) (x : Own) (w : WalkCommand) (at : At) (gone : Bool) (n who : ℕ) (ps : List Piece) (img : List ℕ) (hands : List HandPair) (stood_on : List ℕ) (read_only : Bool) (v : View) : Type 0 where
  pub ready : CursorReady f own x w at gone n who ps
  pub view : IsView f img own stood_on read_only (goal_of w) at.place v
  pub wide : (o b : ℕ) (k : List ℕ) → o ≢ who → data_start f ≤ b → 2 ≤ strengths ps o b → 2 ≤ strengths ps o (chain_byte f k)
  pub accepted : AcceptWith f img hands
  pub known : Knows f img at.place at.stage

-- After it: the opener as its command leaves it; what only the world knows, where a Close drops the cursor; and what
-- the opener holds, where a Close drops all.
abbrev pub own_next : Form → WalkCommand → ℕ → Own → Map → LawTurn → Own
own_next f w n x m (LawTurn.Ends LawReply.Memory) = own_spared (OnWalk w) x
own_next f w n x m (LawTurn.Ends r) = own_after f (OnWalk w) x n r m
own_next f w n x m turn = x

abbrev pub is_before : Standing → Bool
is_before (Before chain) = true
is_before place = false

abbrev pub gone_next : LawTurn → Standing → Bool
gone_next (LawTurn.Blocked o b) place = is_before place
gone_next turn place = false

abbrev pub is_close : WalkCommand → Bool
is_close Close = true
is_close w = false

abbrev pub spot_next : LawTurn → WalkCommand → At → Spot
spot_next (LawTurn.Ends r) w later = if is_close w then nowhere else spot_in later false
spot_next turn w later = spot_in later (gone_next turn later.place)

abbrev pub held_next : LawTurn → WalkCommand → ℕ → ℕ
held_next (LawTurn.Ends r) w s = if is_close w then 0 else s
held_next turn w s = s

-- A turn of a cursor is one of the law, over this view, where y is the opener after it, m the map and q the sequence
-- number of the file before it, m2 and q2 those after it: the row of its command allows it; what its opener holds then
-- is what the law says, and others hold what they held; and its effect and where the cursor stands are of the law's
-- kinds.
pub record CursorTurned (f : Form) (x y : Own) (w : WalkCommand) (n who : ℕ) (a z : Spot) (v : View) (old new : ℕ → ℕ → ℕ) (m m2 : Map) (q q2 : ℕ) (turn : LawTurn) : Type 0 where
  pub row : IsRow f (OnWalk w) x n turn
  pub holds : (b : ℕ) → held_next turn w (new who b) ≡ holding f y z (task_left (OnWalk w) n turn) b
  pub others : (o b : ℕ) → o ≢ who → new o b ≡ old o b
  pub leaves_spot : SpotLeft f (old who) (wanted f (OnWalk w) x (decided a v n) v n) (OnWalk w) n x y a v z turn
  pub effect : Effect f (IsFree old who (wanted f (OnWalk w) x (decided a v n) v n)) (IsFirstConflict old who (wanted f (OnWalk w) x (decided a v n) v n))
      (Finds f (old who) (wanted f (OnWalk w) x (decided a v n) v n) m) q (OnWalk w) n x m turn y m2
  pub number : q2 ≡ number_next f (OnWalk w) n x turn q 0

-- Each turn of a cursor is so, whatever other commands are in the middle of.
abbrev pub CursorIsLawful : Type 0
CursorIsLawful =
    (f : Form) (own : HeldLocks) (x : Own) (w : WalkCommand) (at later : At) (gone : Bool) (n who : ℕ) (ps qs : List Piece) (a b : List ℕ) (hands : List HandPair) (stood_on : List ℕ) (read_only : Bool) (v : View) (did : Turn) (turn : LawTurn) (tells : Bool)
    → IsTrue tells → CursorBefore f own x w at gone n who ps a hands stood_on read_only v → StepTaken (IsTrue tells) f a ps qs (who + 1) own stood_on (goal_of w) read_only at later did → StepMade f a b hands at later did
    → SameOthers (who + 1) ps qs → IsPlaced later.place → IsTurn did turn
    → CursorTurned f x (own_next f w n x (image_map f a) turn) w n who (spot_in at gone) (spot_next turn w later) v (strengths ps) (strengths qs)
    (image_map f a) (image_map f b) (word f.order a sequence_at) (word f.order b sequence_at) turn

-- A turn of a cursor leaves each walk where it is, and all keys further on that were so, but for a walk that stands on
-- the record which it purges. Nothing is lost by it.
abbrev pub OthersStay : Type 0
OthersStay =
    (f : Form) (a b : List ℕ) (hands : List HandPair) (at later : At) (did : Turn) (place : Place) (c : Command) (n : ℕ) (x : Own) (turn : LawTurn) (mine : Bool)
    → StepMade f a b hands at later did → ((d : DeadRecord) → dead_of at.place at.stage ≡ Some d → place ≡ on_record d.chain d.off → ⊥)
    → Shift f (Lost f c n x turn mine (mark_of f (chains_in f a) place)) (mark_of f (chains_in f a) place) (mark_of f (chains_in f b) place)

-- a Close that ends drops the cursor
abbrev pub is_dropped : LawTurn → WalkCommand → Bool
is_dropped (LawTurn.Ends r) w = is_close w
is_dropped turn w = false

-- Two states of the law show such a turn: the opener before it and after it, where its cursor stands and what its walk
-- has further on in the images, its locks, and the map of the file.
pub record ShowsTurn (f : Form) (x : Own) (w : WalkCommand) (at later : At) (gone : Bool) (n who : ℕ) (ps : List Piece) (a b : List ℕ) (turn : LawTurn) (old new : State) : Type 0 where
  pub own : old.own who ≡ x
  pub own_later : new.own who ≡ own_next f w n x (image_map f a) turn
  pub spot : old.spot who ≡ spot_in at gone
  pub spot_later : new.spot who ≡ spot_next turn w later
  pub mark : old.mark who ≡ mark_of f (chains_in f a) (place_of at.place)
  pub mark_later : is_dropped turn w ≡ false → new.mark who ≡ mark_of f (chains_in f b) (place_of later.place)
  pub locks : (z : ℕ) → old.table who z ≡ strengths ps who z
  pub file : old.file ≡ image_map f a

-- What a turn does to the walk of its own cursor is of the law's kinds too.
abbrev pub WalkIsLawful : Type 0
WalkIsLawful =
    (f : Form) (own : HeldLocks) (x : Own) (w : WalkCommand) (at later : At) (gone : Bool) (n who : ℕ) (ps qs : List Piece) (a b : List ℕ) (hands : List HandPair) (stood_on : List ℕ) (read_only : Bool) (v : View) (did : Turn) (turn : LawTurn) (tells : Bool) (old new : State)
    → IsTrue tells → CursorBefore f own x w at gone n who ps a hands stood_on read_only v → StepTaken (IsTrue tells) f a ps qs (who + 1) own stood_on (goal_of w) read_only at later did → StepMade f a b hands at later did
    → SameOthers (who + 1) ps qs → IsPlaced later.place → IsTurn did turn → ShowsTurn f x w at later gone n who ps a b turn old new → Walked f old new who (OnWalk w) n turn
