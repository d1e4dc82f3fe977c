-- The turns of a cursor one after the other, where nobody else holds a lock.
use Rattle.std.proofs.Common.{◌≡◌, ℕ, ◌+◌, ◌<◌, ◌≤◌, List, [], Bool, true, false, Option, Some, None, is_some, refl, sym, ◌∙◌, ap, subst, inl, inr, arith}
use Rattle.std.specs.Prelude.{MatchBool}
use Rattle.std.proofs.lemmas.Bool.{false≢true}
use Rattle.tdb_space.specs.Form.{Form}
use Rattle.tdb_space.specs.Pairs.{home}
use Rattle.tdb_space.specs.Record.{key_at, data_at, magic_of}
use Rattle.tdb_space.specs.Accepted.{AcceptWith}
use Rattle.tdb_locks.specs.declared.turn.Reply.{Reply}
use Rattle.tdb_locks.specs.declared.turn.Reply.TheVariants as Replies
use Rattle.tdb_locks.specs.declared.turn.Turn.{Turn}
use Rattle.tdb_locks.specs.declared.turn.Turn.TheVariants as Turns
use Rattle.tdb_law.specs.Commands.{is_first}
use Rattle.tdb_law.specs.Commands.Command.{OnWalk}
use Rattle.tdb_law.specs.Openers.{Map, Mark}
use Rattle.tdb_law.specs.Images.{image_map}
use Rattle.tdb_law.specs.Layout.{Place, ahead_of, chains_in, mark_of, reached_of}
use Rattle.tdb_law.specs.Layout.Place.{off_chains, before_chain, on_record}
use Rattle.tdb_law.proofs.HandsOut.{image_answers}
use Rattle.tdb_law.proofs.Maps.{maps_equal}
use Rattle.tdb_locks.specs.declared.piece.Piece.{Piece}
use Rattle.tdb_walk.specs.declared.walk.Walk.{Walk}
use Rattle.tdb_steps.specs.Turns.{number_of}
use Rattle.tdb_steps.specs.PlainCommands.{reply_of}
use Rattle.tdb_walk.specs.declared.live.Live.{Live}
use Rattle.tdb_walk.specs.declared.purging.DeadRecord.{DeadRecord}
use Rattle.tdb_walk.specs.declared.standing.Standing.{Standing}
use Rattle.tdb_walk.specs.declared.standing.Standing.TheVariants.{Before, On, Past}
use Rattle.tdb_walk.specs.declared.stage.Stage.{Stage}
use Rattle.tdb_walk.specs.declared.stage.Stage.TheVariants.{Rested, Reading, Writing, Freeing}
use Rattle.tdb_walk.specs.declared.stage.Goal.{Goal}
use Rattle.tdb_walk.specs.declared.stage.Goal.TheVariants.{First, Next, Leave}
use Rattle.tdb_walk.specs.declared.stage.Act.{Act}
use Rattle.tdb_walk.specs.declared.stage.Act.TheVariants.{Lock, Move, End}
use Rattle.tdb_walk.specs.NextLive.{IsNext, NoneLive, place_of}
use Rattle.tdb_walk.specs.Purging.{IsDeadIn, IsDeadRecord, IsPurged}
use Rattle.tdb_walk.specs.Cursors.{At, HasToPurge, Knows, LeaveLed, MoveLed, StepLed, StepMoved, StepMade, StepTaken, WentTo, act_of, dead_of, rested, spared_of}
use Rattle.tdb_walk.specs.Cursors.LeaveLed.{leaves as left, cannot}
use Rattle.tdb_walk.specs.Cursors.Came.{shown, barred, wants}
use Rattle.tdb_walk.specs.Cursors.MoveLed.{comes as came_to, stops, ends, gives_up}
use Rattle.tdb_walk.specs.Cursors.WentTo.{arrives as went, held_up, halts, finishes as passed, lacks}
use Rattle.tdb_walk.specs.Cursors.StepMade.{keeps, purges, waits, starves as unwritten}
use Rattle.tdb_walk.specs.InLaw.{IsShown}
use Rattle.tdb_walk.specs.Again.{RestsAt, shown_there}
use Rattle.tdb_walk.proofs.Again.{cursor_leaves}
use Rattle.tdb_walk.proofs.Ahead.{none_some}
use Rattle.tdb_walk.proofs.Arrived.{met_member}
use Rattle.tdb_walk.proofs.Coming.{met_used, comes_rightly}
use Rattle.tdb_walk.proofs.Going.{ends_rightly}
use Rattle.tdb_walk.proofs.Making.{dead_known}
use Rattle.tdb_walk.proofs.MoveTurned.{mapped}
use Rattle.tdb_walk.proofs.WalkShown.{ahead_same, mapped_ahead}
use Rattle.tdb_txn_turns.specs.InsideTxn.Walks.{CursorCame, CursorDone, DueInside, FinishesInside, RestsIn, all_written, command_for, shown_by, is_leave, mark_in, PurgesDead}
use Rattle.tdb_txn_turns.specs.InsideTxn.Walks.PurgesDead.{purges as purged, keeps as unpurged}
use Rattle.tdb_txn_turns.specs.InsideTxn.Walks.CursorCame.{comes, passes, starves, leaves, stays}

-- how far a cursor is with its turns, as a number that each step raises
abbrev pub far : Stage → ℕ
far Rested = 0
far Reading = 2
far Writing = 1
far Freeing = 2

reply_in : {p q : Reply} → Turns.Done p ≡ Turns.Done q → p ≡ q
reply_in e = cc

-- A step leads further on the same record, which isn't purged yet.
pub record Steps (place : Standing) (stage : Stage) (later : At) : Type 0 where
  pub here : later.place ≡ place
  pub further : far stage < far later.stage
  pub few : far later.stage ≤ 2
  pub nothing : dead_of place stage ≡ None

abbrev pub at_ : Standing → Stage → At
at_ place stage = record { place = place; stage = stage }

module _ (f : Form) (later : At) where
  abbrev pub Led : Goal → Standing → Stage → Bool → Turn → Type 0
  Led goal place stage due turn = StepLed f [] 1 all_written (act_of goal place stage due) (spared_of goal place) (at_ place stage) later turn

  -- neither a move nor a leave is a step
  move_ends : (at : At) → WentTo f [] 1 all_written at later Turns.Step → ⊥
  move_ends at (went k v off is there above can) = cc is
  move_ends at (held_up other byte is there) = cc is
  move_ends at (halts chain other byte is there) = cc is
  move_ends at (passed is there) = cc is
  move_ends at (lacks is there) = cc is

  leave_ends : {d : Option DeadRecord} {p s : Standing} → LeaveLed d p s (Turns.Done Replies.Ok) later Turns.Step → ⊥
  leave_ends (left is there) = cc is
  leave_ends (cannot dead is there) = cc is

  lock_steps : (place : Standing) (stage next : Stage) → far stage < far next → far next ≤ 2 → dead_of place stage ≡ None → later ≡ at_ place next → Steps place stage later
  lock_steps place stage next more few nothing is = record {
    here = ap (λ (l : At). l.place) is;
    further = subst (λ (l : At). far stage < far l.stage) (sym is) more;
    few = subst (λ (l : At). far l.stage ≤ 2) (sym is) few;
    nothing = nothing;
  }

  pub steps_on : (goal : Goal) (place : Standing) (stage : Stage) (due : Bool) → Led goal place stage due Turns.Step → Steps place stage later
  steps_on goal (On chain off) Rested true led = lock_steps (On chain off) Rested Writing (omega arith) (omega arith) refl led.0
  steps_on First (On chain off) Rested false led = absurd (move_ends _ led)
  steps_on Next (On chain off) Rested false led = lock_steps (On chain off) Rested Reading (omega arith) (omega arith) refl led.0
  steps_on Leave (On chain off) Rested false led = absurd (leave_ends led)
  steps_on First (On chain off) Reading due led = absurd (move_ends _ led)
  steps_on Next (On chain off) Reading due led = absurd (move_ends _ led)
  steps_on Leave (On chain off) Reading due led = absurd (leave_ends led)
  steps_on goal (On chain off) Writing due led = lock_steps (On chain off) Writing Freeing (omega arith) (omega arith) refl led.0
  steps_on First (On chain off) Freeing due led = absurd (move_ends _ led)
  steps_on Next (On chain off) Freeing due led = absurd (move_ends _ led)
  steps_on Leave (On chain off) Freeing due led = absurd (leave_ends led)
  steps_on First (Before chain) stage due led = absurd (move_ends _ led)
  steps_on Next (Before chain) stage due led = absurd (move_ends _ led)
  steps_on Leave (Before chain) stage due led = absurd (leave_ends led)
  steps_on First Past stage due led = absurd (move_ends _ led)
  steps_on Next Past stage due led = absurd (move_ends _ led)
  steps_on Leave Past stage due led = absurd (leave_ends led)

  -- nothing is in the way of a turn
  move_waits : (a : List ℕ) (from : Standing) (at : At) (other byte : ℕ) → MoveLed f a [] 1 all_written from at later (Turns.Blocked other byte) → ⊥
  move_waits a from at other byte (came_to live way (shown is there can)) = cc is
  move_waits a from at other byte (came_to live way (barred o b is there kept)) = cc kept.conflict.conflict.holds
  move_waits a from at other byte (came_to live way (wants is there)) = cc is
  move_waits a from at other byte (stops chain o b way is there) = cc way.off.conflict.conflict.holds
  move_waits a from at other byte (ends way is there) = cc is
  move_waits a from at other byte (gives_up is there) = cc is

  pub never_waits : (a : List ℕ) (act : Act) (spared : Standing) (at : At) (other byte : ℕ) → StepLed f [] 1 all_written act spared at later (Turns.Blocked other byte) → StepMoved f a [] 1 all_written act at later (Turns.Blocked other byte) → ⊥
  never_waits a (Lock lock) spared at other byte led moved = cc led.1.conflict.conflict.holds
  never_waits a (Move from) spared at other byte led moved = move_waits a from at other byte moved
  never_waits a End spared at other byte (left is there) moved = cc is
  never_waits a End spared at other byte (cannot dead is there) moved = cc is

  -- After the reply the cursor rests, whatever the bytes of the file are. It had shown this key last, and stood at
  -- rest.
  module _ (reply : Reply) (key : Option (List ℕ)) where
    abbrev Rests : Type 0
    Rests = RestsAt f (shown_there later.place reply key) later.place later.stage

    rests_as : (l : At) (r : Reply) → later ≡ l → Turns.Done reply ≡ Turns.Done r → RestsAt f (shown_there l.place r key) l.place l.stage → Rests
    rests_as l r there is R = subst (λ (z : At). RestsAt f (shown_there z.place reply key) z.place z.stage) (sym there) (subst (λ q. RestsAt f (shown_there l.place q key) l.place l.stage) (sym (reply_in is)) R)

    move_rests : (at : At) → WentTo f [] 1 all_written at later (Turns.Done reply) → Rests
    move_rests at (went k v off is there above can) = rests_as (rested (On (home f k) off)) (Replies.Pair k v) there is (record { key = k; shown = refl; filed = refl; above = above }, refl)
    move_rests at (held_up other byte is there) = cc is
    move_rests at (halts chain other byte is there) = cc is
    move_rests at (passed is there) = rests_as (rested Past) Replies.End there is (refl, refl)
    move_rests at (lacks is there) = rests_as (rested Past) Replies.Memory there is (refl, refl)

    spared_rests : (goal : Goal) (chain off : ℕ) → IsShown f key chain off → later ≡ rested (spared_of goal (On chain off)) → reply ≡ Replies.Memory → Rests
    spared_rests First chain off S there is = rests_as (rested Past) Replies.Memory there (ap Turns.Done is) (refl, refl)
    spared_rests Next chain off S there is = rests_as (rested Past) Replies.Memory there (ap Turns.Done is) (refl, refl)
    spared_rests Leave chain off S there is = rests_as (rested (On chain off)) Replies.Memory there (ap Turns.Done is) (S, refl)

    leave_rests : (place : Standing) (stage : Stage) → RestsAt f key place Rested → LeaveLed (dead_of place stage) Past (spared_of Leave place) (Turns.Done Replies.Ok) later (Turns.Done reply) → Rests
    leave_rests place stage R (left is there) = rests_as (rested Past) Replies.Ok there is (refl, refl)
    leave_rests (On chain off) stage R (cannot dead is there) = rests_as (rested (On chain off)) Replies.Memory there is R
    leave_rests (Before chain) stage R (cannot dead is there) = absurd R
    leave_rests Past stage R (cannot dead is there) = absurd (dead refl)

    pub rests_then : (goal : Goal) (place : Standing) (stage : Stage) (due : Bool) → RestsAt f key place Rested → Led goal place stage due (Turns.Done reply) → Rests
    rests_then goal (On chain off) Rested true R led = spared_rests goal chain off R.0 led.1 led.0
    rests_then First (On chain off) Rested false R led = move_rests _ led
    rests_then Next (On chain off) Rested false R led = spared_rests Next chain off R.0 led.1 led.0
    rests_then Leave (On chain off) Rested false R led = leave_rests (On chain off) Rested R led
    rests_then First (On chain off) Reading due R led = move_rests _ led
    rests_then Next (On chain off) Reading due R led = move_rests _ led
    rests_then Leave (On chain off) Reading due R led = leave_rests (On chain off) Reading R led
    rests_then goal (On chain off) Writing due R led = spared_rests goal chain off R.0 led.1 led.0
    rests_then First (On chain off) Freeing due R led = move_rests _ led
    rests_then Next (On chain off) Freeing due R led = move_rests _ led
    rests_then Leave (On chain off) Freeing due R led = leave_rests (On chain off) Freeing R led
    rests_then goal (Before chain) stage due R led = absurd R
    rests_then First Past stage due R led = move_rests _ led
    rests_then Next Past stage due R led = move_rests _ led
    rests_then Leave Past stage due R led = leave_rests Past stage R led

    -- and shows the key that its reply says
    abbrev Shows : Goal → Type 0
    Shows goal = shown_there later.place reply key ≡ shown_by goal (reply_of reply) key

    shows_as : (goal : Goal) (place : Standing) (r : Reply) → later ≡ rested place → Turns.Done reply ≡ Turns.Done r → shown_there place r key ≡ shown_by goal (reply_of r) key → Shows goal
    shows_as goal place r there is e = subst (λ (z : At). shown_there z.place reply key ≡ shown_by goal (reply_of reply) key) (sym there) (subst (λ q. shown_there place q key ≡ shown_by goal (reply_of q) key) (sym (reply_in is)) e)

    first_shows : (at : At) → WentTo f [] 1 all_written at later (Turns.Done reply) → Shows First
    first_shows at (went k v off is there above can) = shows_as First (On (home f k) off) (Replies.Pair k v) there is refl
    first_shows at (held_up other byte is there) = cc is
    first_shows at (halts chain other byte is there) = cc is
    first_shows at (passed is there) = shows_as First Past Replies.End there is refl
    first_shows at (lacks is there) = shows_as First Past Replies.Memory there is refl

    next_shows : (at : At) → WentTo f [] 1 all_written at later (Turns.Done reply) → Shows Next
    next_shows at (went k v off is there above can) = shows_as Next (On (home f k) off) (Replies.Pair k v) there is refl
    next_shows at (held_up other byte is there) = cc is
    next_shows at (halts chain other byte is there) = cc is
    next_shows at (passed is there) = shows_as Next Past Replies.End there is refl
    next_shows at (lacks is there) = shows_as Next Past Replies.Memory there is refl

    spared_shows : (goal : Goal) (chain off : ℕ) → later ≡ rested (spared_of goal (On chain off)) → reply ≡ Replies.Memory → Shows goal
    spared_shows First chain off there is = shows_as First Past Replies.Memory there (ap Turns.Done is) refl
    spared_shows Next chain off there is = shows_as Next Past Replies.Memory there (ap Turns.Done is) refl
    spared_shows Leave chain off there is = shows_as Leave (On chain off) Replies.Memory there (ap Turns.Done is) refl

    leave_shows : (place : Standing) (stage : Stage) → LeaveLed (dead_of place stage) Past (spared_of Leave place) (Turns.Done Replies.Ok) later (Turns.Done reply) → Shows Leave
    leave_shows place stage (left is there) = shows_as Leave Past Replies.Ok there is refl
    leave_shows (On chain off) stage (cannot dead is there) = shows_as Leave (On chain off) Replies.Memory there is refl
    leave_shows (Before chain) stage (cannot dead is there) = absurd (dead refl)
    leave_shows Past stage (cannot dead is there) = absurd (dead refl)

    pub shows_then : (goal : Goal) (place : Standing) (stage : Stage) (due : Bool) → Led goal place stage due (Turns.Done reply) → Shows goal
    shows_then goal (On chain off) Rested true led = spared_shows goal chain off led.1 led.0
    shows_then First (On chain off) Rested false led = first_shows _ led
    shows_then Next (On chain off) Rested false led = spared_shows Next chain off led.1 led.0
    shows_then Leave (On chain off) Rested false led = leave_shows (On chain off) Rested led
    shows_then First (On chain off) Reading due led = first_shows _ led
    shows_then Next (On chain off) Reading due led = next_shows _ led
    shows_then Leave (On chain off) Reading due led = leave_shows (On chain off) Reading led
    shows_then goal (On chain off) Writing due led = spared_shows goal chain off led.1 led.0
    shows_then First (On chain off) Freeing due led = first_shows _ led
    shows_then Next (On chain off) Freeing due led = next_shows _ led
    shows_then Leave (On chain off) Freeing due led = leave_shows (On chain off) Freeing led
    shows_then First (Before chain) stage due led = first_shows _ led
    shows_then Next (Before chain) stage due led = next_shows _ led
    shows_then Leave (Before chain) stage due led = leave_shows (Before chain) stage led
    shows_then First Past stage due led = first_shows _ led
    shows_then Next Past stage due led = next_shows _ led
    shows_then Leave Past stage due led = leave_shows Past stage led

  -- a leave is never blocked, whatever the bytes of the file are
  leave_waits : {d : Option DeadRecord} {p s : Standing} (other byte : ℕ) → LeaveLed d p s (Turns.Done Replies.Ok) later (Turns.Blocked other byte) → ⊥
  leave_waits other byte (left is there) = cc is
  leave_waits other byte (cannot dead is there) = cc is

  pub never_leave_waits : (place : Standing) (stage : Stage) (due : Bool) (other byte : ℕ) → Led Leave place stage due (Turns.Blocked other byte) → ⊥
  never_leave_waits (On chain off) Rested true other byte led = cc led.1.conflict.conflict.holds
  never_leave_waits (On chain off) Rested false other byte led = leave_waits other byte led
  never_leave_waits (On chain off) Reading due other byte led = leave_waits other byte led
  never_leave_waits (On chain off) Writing due other byte led = cc led.1.conflict.conflict.holds
  never_leave_waits (On chain off) Freeing due other byte led = leave_waits other byte led
  never_leave_waits (Before chain) stage due other byte led = leave_waits other byte led
  never_leave_waits Past stage due other byte led = leave_waits other byte led

-- What a cursor comes to with the reply, in an accepted image a that is b then. It stood at this place, and had shown
-- this key.
module _ (f : Form) (a b : List ℕ) (place : Standing) (stage : Stage) (later : At) (reply : Reply) (key : Option (List ℕ)) (few : 0 < f.chains) (A : AcceptWith f a []) (K : Knows f a place stage) (R : RestsAt f key place Rested)
    (M : StepMade f a b [] (at_ place stage) later (Turns.Done reply)) where
  abbrev m : Map
  m = image_map f a

  abbrev mark : Mark
  mark = mark_of f (chains_in f a) (place_of place)

  abbrev Came_ : Goal → Standing → Reply → Type 0
  Came_ goal to r = CursorCame f m goal mark (mark_of f (chains_in f b) (place_of to)) key (shown_there to r key) (reply_of r)

  abbrev Came : Goal → Type 0
  Came goal = Came_ goal later.place reply

  came_as : (goal : Goal) (to : Standing) (r : Reply) → later ≡ rested to → Turns.Done reply ≡ Turns.Done r → Came_ goal to r → Came goal
  came_as goal to r there is C = subst (λ (z : At). Came_ goal z.place reply) (sym there) (subst (Came_ goal to) (sym (reply_in is)) C)

  -- for want of memory nothing is written
  same_image : Turns.Done reply ≡ Turns.Done Replies.Memory → b ≡ a
  same_image is = go M
    where
      go : StepMade f a b [] (at_ place stage) later (Turns.Done reply) → b ≡ a
      go (keeps none same) = same
      go (purges d e over never_memory gone) = absurd (never_memory is)
      go (waits other byte e still same) = same
      go (unwritten e same) = same

  -- a move from a place, which begins a walk or goes on from where the cursor stands
  module _ (goal : Goal) (moving : is_leave goal ≡ false) (from : Standing) where
    abbrev start : Bool
    start = is_first (OnWalk (command_for goal))

    module _ (on : start ≡ false → from ≡ place) (due : (k : List ℕ) → DueInside m mark start k → ahead_of f (chains_in f a) (place_of from) k ≡ true) where
      -- the record to which it comes isn't the one that it purges
      live_apart : (live : Live) → IsNext f a (place_of from) (Some live) → (d : DeadRecord) → dead_of place stage ≡ Some d → on_record live.chain live.off ≡ on_record d.chain d.off → ⊥
      live_apart live next d is same =
          let dead = (subst (IsDeadRecord f a) is (dead_known f a place stage K)).1 in
          dead.dead (ap (magic_of f.order a) (sym (ap off_in same)) ∙ met_used f a (place_of from) live next)
        where
          off_in : Place → ℕ
          off_in off_chains = 0
          off_in (before_chain i) = 0
          off_in (on_record i p) = p

      met : (live : Live) → IsNext f a (place_of from) (Some live) → Came_ goal (On live.chain live.off) (Replies.Pair (key_at f.order a live.off) (data_at f.order a live.off))
      met live next =
          let C = comes_rightly f a [] (place_of from) live A next in
          let there = met_member f a (place_of from) live next in
          let k = key_at f.order a live.off in
          let same = ahead_same f a b [] (at_ place stage) later (Turns.Done reply) (on_record live.chain live.off) M (live_apart live next) in
          comes k (data_at f.order a live.off) refl moving refl (mapped f a [] live.chain live.off A there.0 there.1 (met_used f a (place_of from) live next))
          (record {
            further = λ e. subst (λ p. reached_of (place_of p) ≤ live.chain + 1) (on e) C.goes.reached;
            fewer = λ e q ahead. subst (λ p. ahead_of f (chains_in f a) (place_of p) q ≡ true) (on e) (C.goes.fewer q (sym (same q) ∙ ahead));
            kept = λ q d. elim (C.goes.kept q (due q d)) [ inl here ↦ inl (key_in here) | inr ahead ↦ inr (same q ∙ ahead) ];
            was = λ e. subst (λ p. ahead_of f (chains_in f a) (place_of p) k ≡ true) (on e) C.was;
            behind = same k ∙ C.behind;
            reached = C.reached;
          })
        where
          key_in : {p q : List ℕ} → ◌≡◌ {A = Option (List ℕ)} (Some p) (Some q) → p ≡ q
          key_in e = cc

      none_left : NoneLive (chains_in f a) (place_of from) f.chains → FinishesInside m mark start
      none_left none q d = false≢true (sym (ends_rightly f (chains_in f a) (place_of from) q few none) ∙ due q d)

      move_came : MoveLed f a [] 1 all_written from (at_ place stage) later (Turns.Done reply) → Came goal
      move_came (came_to live way (shown is there can)) = came_as goal (On live.chain live.off) _ there is (met live way.0)
      move_came (came_to live way (barred other byte is there kept)) = cc is
      move_came (came_to live way (wants is there)) = came_as goal Past Replies.Memory there is (starves refl moving refl)
      move_came (stops chain other byte way is there) = cc is
      move_came (ends way is there) = came_as goal Past Replies.End there is (passes refl moving refl (none_left way.0))
      move_came (gives_up is there) = came_as goal Past Replies.Memory there is (starves refl moving refl)

  first_came : MoveLed f a [] 1 all_written (Before 0) (at_ place stage) later (Turns.Done reply) → Came First
  first_came = move_came First refl (Before 0) (λ e. absurd (false≢true (sym e))) (λ k d. mapped_ahead f a [] A k d)

  next_came : MoveLed f a [] 1 all_written place (at_ place stage) later (Turns.Done reply) → Came Next
  next_came = move_came Next refl place (λ e. refl) (λ k d. d)

  -- want of memory
  spared_came : (goal : Goal) (chain off : ℕ) → place ≡ On chain off → later ≡ rested (spared_of goal place) → reply ≡ Replies.Memory → Came goal
  spared_came First chain off here there is = came_as First Past Replies.Memory there (ap Turns.Done is) (starves refl refl refl)
  spared_came Next chain off here there is = came_as Next Past Replies.Memory there (ap Turns.Done is) (starves refl refl refl)
  spared_came Leave chain off here there is =
      let S = subst (λ p. RestsAt f key p Rested) here R in
      came_as Leave place Replies.Memory there (ap Turns.Done is)
      (stays refl refl (ap is_some S.0.shown) (ap (λ p. shown_there p Replies.Memory key) here) (ap (λ img. mark_of f (chains_in f img) (place_of place)) (same_image (ap Turns.Done is))))

  leave_came : LeaveLed (dead_of place stage) Past (spared_of Leave place) (Turns.Done Replies.Ok) later (Turns.Done reply) → Came Leave
  leave_came (left is there) = came_as Leave Past Replies.Ok there is (leaves refl refl refl)
  leave_came (cannot dead is there) = go place refl
    where
      go : (p : Standing) → place ≡ p → Came Leave
      go (On chain off) here = spared_came Leave chain off here there (reply_in is)
      go (Before chain) here = absurd (dead (ap (λ p. dead_of p stage) here))
      go Past here = absurd (dead (ap (λ p. dead_of p stage) here))

pub came_then : (f : Form) (a b : List ℕ) (goal : Goal) (place : Standing) (stage : Stage) (due : Bool) (later : At) (reply : Reply) (key : Option (List ℕ)) → 0 < f.chains → AcceptWith f a [] → Knows f a place stage → RestsAt f key place Rested
    → StepMade f a b [] (at_ place stage) later (Turns.Done reply) → Led f later goal place stage due (Turns.Done reply)
    → StepMoved f a [] 1 all_written (act_of goal place stage due) (at_ place stage) later (Turns.Done reply)
    → CursorCame f (image_map f a) goal (mark_of f (chains_in f a) (place_of place)) (mark_of f (chains_in f b) (place_of later.place)) key (shown_there later.place reply key) (reply_of reply)
came_then f a b goal (On chain off) Rested true later reply key few A K R M led moved = spared_came f a b (On chain off) Rested later reply key few A K R M goal chain off refl led.1 led.0
came_then f a b First (On chain off) Rested false later reply key few A K R M led moved = first_came f a b (On chain off) Rested later reply key few A K R M moved
came_then f a b Next (On chain off) Rested false later reply key few A K R M led moved = spared_came f a b (On chain off) Rested later reply key few A K R M Next chain off refl led.1 led.0
came_then f a b Leave (On chain off) Rested false later reply key few A K R M led moved = leave_came f a b (On chain off) Rested later reply key few A K R M led
came_then f a b First (On chain off) Reading due later reply key few A K R M led moved = first_came f a b (On chain off) Reading later reply key few A K R M moved
came_then f a b Next (On chain off) Reading due later reply key few A K R M led moved = next_came f a b (On chain off) Reading later reply key few A K R M moved
came_then f a b Leave (On chain off) Reading due later reply key few A K R M led moved = leave_came f a b (On chain off) Reading later reply key few A K R M led
came_then f a b goal (On chain off) Writing due later reply key few A K R M led moved = spared_came f a b (On chain off) Writing later reply key few A K R M goal chain off refl led.1 led.0
came_then f a b First (On chain off) Freeing due later reply key few A K R M led moved = first_came f a b (On chain off) Freeing later reply key few A K R M moved
came_then f a b Next (On chain off) Freeing due later reply key few A K R M led moved = next_came f a b (On chain off) Freeing later reply key few A K R M moved
came_then f a b Leave (On chain off) Freeing due later reply key few A K R M led moved = leave_came f a b (On chain off) Freeing later reply key few A K R M led
came_then f a b goal (Before chain) stage due later reply key few A K R M led moved = absurd R
came_then f a b First Past stage due later reply key few A K R M led moved = first_came f a b Past stage later reply key few A K R M moved
came_then f a b Next Past stage due later reply key few A K R M led moved = next_came f a b Past stage later reply key few A K R M moved
came_then f a b Leave Past stage due later reply key few A K R M led moved = leave_came f a b Past stage later reply key few A K R M led

pub far_few : (stage : Stage) → far stage ≤ 2
far_few Rested = omega arith
far_few Reading = omega arith
far_few Writing = omega arith
far_few Freeing = omega arith

-- a cursor that rests has no command under way
pub at_rest : (f : Form) (key : Option (List ℕ)) (place : Standing) (stage : Stage) → RestsAt f key place stage → RestsAt f key place Rested
at_rest f key (On chain off) stage R = (R.0, refl)
at_rest f key (Before chain) stage R = R
at_rest f key Past stage R = (R.0, refl)

-- what a turn leaves of the map and of the sequence number
same_map : (f : Form) (a b : List ℕ) (at later : At) (turn : Turn) → StepMade f a b [] at later turn → image_map f b ≡ image_map f a
same_map f a b at later turn (keeps none same) = ap (image_map f) same
same_map f a b at later turn (purges d is over never gone) = maps_equal (image_map f b) (image_map f a) (λ k. image_answers f b k ∙ gone.map k ∙ sym (image_answers f a k))
same_map f a b at later turn (waits other byte is still same) = ap (image_map f) same
same_map f a b at later turn (unwritten is same) = ap (image_map f) same

same_number : (f : Form) (a b : List ℕ) (at later : At) (turn : Turn) → StepMade f a b [] at later turn → number_of f b ≡ number_of f a
same_number f a b at later turn (keeps none same) = ap (number_of f) same
same_number f a b at later turn (purges d is over never gone) = gone.number
same_number f a b at later turn (waits other byte is still same) = ap (number_of f) same
same_number f a b at later turn (unwritten is same) = ap (number_of f) same

-- A cursor that has only its chain locked for reading stands on a record that isn't dead.
abbrev pub IsAlive : Form → List ℕ → Standing → Stage → Type 0
IsAlive f a (On chain off) Reading = IsDeadIn f a chain off → ⊥
IsAlive f a place stage = Unit {0}

-- whether it has to purge its record
abbrev IsDue : Form → List ℕ → Standing → Stage → Bool → Type 0
IsDue f a place stage due = MatchBool due (HasToPurge f a all_written [] false place stage) (HasToPurge f a all_written [] false place stage → ⊥)

-- one that hasn't to, where nobody else stands on it, isn't dead
not_due : (f : Form) (a : List ℕ) (chain off : ℕ) → IsDue f a (On chain off) Rested false → IsDeadIn f a chain off → ⊥
not_due f a chain off isnt D = isnt (record { dead = D.dead; alone = λ c. omega (arith, c.1); writable = refl; writes = refl })

-- so it is where no command is under way
pub alive_first : (f : Form) (a : List ℕ) (walk : Walk) → RestsIn f a walk → IsAlive f a walk.cursor.place walk.cursor.stage
alive_first f a walk R = go walk.cursor.place walk.cursor.stage R.rests
  where
    go : (place : Standing) (stage : Stage) → RestsAt f walk.shown place stage → IsAlive f a place stage
    go (On chain off) stage rests = subst (IsAlive f a (On chain off)) (sym rests.1) tt
    go (Before chain) stage rests = tt
    go Past stage rests = tt

module _ (f : Form) (a : List ℕ) (later : At) where
  alive_as : (place : Standing) (stage : Stage) → later ≡ at_ place stage → IsAlive f a place stage → IsAlive f a later.place later.stage
  alive_as place stage is alive = subst (λ (l : At). IsAlive f a l.place l.stage) (sym is) alive

  pub alive_on : (goal : Goal) (place : Standing) (stage : Stage) (due : Bool) → IsDue f a place stage due → Led f later goal place stage due Turns.Step → IsAlive f a later.place later.stage
  alive_on goal (On chain off) Rested true decided led = alive_as (On chain off) Writing led.0 tt
  alive_on First (On chain off) Rested false decided led = absurd (move_ends f later _ led)
  alive_on Next (On chain off) Rested false decided led = alive_as (On chain off) Reading led.0 (not_due f a chain off decided)
  alive_on Leave (On chain off) Rested false decided led = absurd (leave_ends f later led)
  alive_on First (On chain off) Reading due decided led = absurd (move_ends f later _ led)
  alive_on Next (On chain off) Reading due decided led = absurd (move_ends f later _ led)
  alive_on Leave (On chain off) Reading due decided led = absurd (leave_ends f later led)
  alive_on goal (On chain off) Writing due decided led = alive_as (On chain off) Freeing led.0 tt
  alive_on First (On chain off) Freeing due decided led = absurd (move_ends f later _ led)
  alive_on Next (On chain off) Freeing due decided led = absurd (move_ends f later _ led)
  alive_on Leave (On chain off) Freeing due decided led = absurd (leave_ends f later led)
  alive_on First (Before chain) stage due decided led = absurd (move_ends f later _ led)
  alive_on Next (Before chain) stage due decided led = absurd (move_ends f later _ led)
  alive_on Leave (Before chain) stage due decided led = absurd (leave_ends f later led)
  alive_on First Past stage due decided led = absurd (move_ends f later _ led)
  alive_on Next Past stage due decided led = absurd (move_ends f later _ led)
  alive_on Leave Past stage due decided led = absurd (leave_ends f later led)

  -- a dead record that is left without a purge is left for want of memory
  left_dead : (goal : Goal) (chain off : ℕ) (stage : Stage) (due : Bool) (reply : Reply) → IsDue f a (On chain off) stage due → IsAlive f a (On chain off) stage → dead_of (On chain off) stage ≡ None
      → Led f later goal (On chain off) stage due (Turns.Done reply) → IsDeadIn f a chain off → reply ≡ Replies.Memory
  left_dead goal chain off Rested true reply decided alive none led D = led.0
  left_dead goal chain off Rested false reply decided alive none led D = absurd (not_due f a chain off decided D)
  left_dead goal chain off Reading due reply decided alive none led D = absurd (alive D)
  left_dead goal chain off Writing due reply decided alive none led D = led.0
  left_dead goal chain off Freeing due reply decided alive none led D = absurd (none_some (sym none))

  pub purges_dead : (b : List ℕ) (goal : Goal) (place : Standing) (stage : Stage) (due : Bool) (reply : Reply) → IsDue f a place stage due → IsAlive f a place stage → Knows f a place stage → Led f later goal place stage due (Turns.Done reply)
      → StepMade f a b [] (at_ place stage) later (Turns.Done reply) → PurgesDead f a b place (reply_of reply)
  purges_dead b goal place stage due reply decided alive K led (keeps none same) = unpurged (λ chain off here D. ap reply_of (go chain off here D)) same
    where
      go : (chain off : ℕ) → place ≡ On chain off → IsDeadIn f a chain off → reply ≡ Replies.Memory
      go chain off here D =
          left_dead goal chain off stage due reply (subst (λ p. IsDue f a p stage due) here decided) (subst (λ p. IsAlive f a p stage) here alive) (sym (ap (λ p. dead_of p stage) here) ∙ none)
          (subst (λ p. Led f later goal p stage due (Turns.Done reply)) here led) D
  purges_dead b goal (On chain off) Freeing due reply decided alive K led (purges d is over never_memory gone) =
      purged chain off refl K.1 (subst (λ (e : DeadRecord). IsPurged f a b e.chain e.off []) (some_in (sym is)) gone)
    where
      some_in : {p q : DeadRecord} → ◌≡◌ {A = Option DeadRecord} (Some p) (Some q) → p ≡ q
      some_in e = cc
  purges_dead b goal (On chain off) Rested due reply decided alive K led (purges d is over never_memory gone) = absurd (none_some is)
  purges_dead b goal (On chain off) Reading due reply decided alive K led (purges d is over never_memory gone) = absurd (none_some is)
  purges_dead b goal (On chain off) Writing due reply decided alive K led (purges d is over never_memory gone) = absurd (none_some is)
  purges_dead b goal (Before chain) stage due reply decided alive K led (purges d is over never_memory gone) = absurd (none_some is)
  purges_dead b goal Past stage due reply decided alive K led (purges d is over never_memory gone) = absurd (none_some is)
  purges_dead b goal place stage due reply decided alive K led (waits other byte is still same) = cc is
  purges_dead b goal place stage due reply decided alive K led (unwritten is same) = unpurged (λ chain off here D. ap reply_of (reply_in is)) same

-- The last turn, of a cursor that has taken steps on the same record: it had this walk before them, and rested.
module _ (f : Form) (a b : List ℕ) (goal : Goal) (old mid new : Walk) (reply : Reply) (now : List Piece) (told : Type 0) (here : mid.cursor.place ≡ old.cursor.place) (same : mid.shown ≡ old.shown)
    (shows : new.shown ≡ shown_there new.cursor.place reply mid.shown) (T : StepTaken told f a [] now 1 all_written [] goal false mid.cursor new.cursor (Turns.Done reply)) where
  rested_mid : RestsAt f old.shown old.cursor.place old.cursor.stage → RestsAt f mid.shown mid.cursor.place Rested
  rested_mid R = subst (λ k. RestsAt f k mid.cursor.place Rested) (sym same) (subst (λ p. RestsAt f old.shown p Rested) (sym here) (at_rest f old.shown old.cursor.place old.cursor.stage R))

  pub rests_again : RestsAt f old.shown old.cursor.place old.cursor.stage → RestsAt f new.shown new.cursor.place new.cursor.stage
  rests_again R = subst (λ k. RestsAt f k new.cursor.place new.cursor.stage) (sym shows) (rests_then f new.cursor reply mid.shown goal mid.cursor.place mid.cursor.stage T.due (rested_mid R) T.led)

  pub cursor_done : told → AcceptWith f a [] → RestsIn f a old → Knows f a mid.cursor.place mid.cursor.stage → IsAlive f a mid.cursor.place mid.cursor.stage → StepMade f a b [] mid.cursor new.cursor (Turns.Done reply) → Knows f b new.cursor.place new.cursor.stage
      → CursorDone f a b goal old new (reply_of reply)
  cursor_done tells A R K alive M knows =
      let L = cursor_leaves f a b [] mid.cursor new.cursor (Turns.Done reply) A M in
      let C = came_then f a b goal mid.cursor.place mid.cursor.stage T.due new.cursor reply mid.shown A.some A K (rested_mid R.rests) M T.led (T.moved tells [] A K) in
      let m = image_map f a in
      let later = mark_in f b new in
      record {
        came = subst (λ p. CursorCame f m goal (mark_of f (chains_in f a) (place_of p)) later old.shown new.shown (reply_of reply)) here
            (subst (λ k. CursorCame f m goal (mark_of f (chains_in f a) (place_of mid.cursor.place)) later k new.shown (reply_of reply)) same
            (subst (λ k. CursorCame f m goal (mark_of f (chains_in f a) (place_of mid.cursor.place)) later mid.shown k (reply_of reply)) (sym shows) C));
        purge = subst (λ p. PurgesDead f a b p (reply_of reply)) here
            (purges_dead f a new.cursor b goal mid.cursor.place mid.cursor.stage T.due reply (T.decided tells [] A K) alive K T.led M);
        image = record { accepted = L.accepted; front = L.only.front; map = same_map f a b mid.cursor new.cursor (Turns.Done reply) M; number = same_number f a b mid.cursor new.cursor (Turns.Done reply) M };
        rests = record { rests = rests_again R.rests; knows = knows };
      }
