-- What a turn of a cursor does to its own walk is of the law's kinds.
use Rattle.std.proofs.Common.{◌≡◌, ℕ, ◌+◌, ◌<◌, ◌≤◌, List, Bool, true, false, cond, Option, Some, None, IsTrue, is_some, refl, sym, ◌∙◌, ap, subst, inl, inr, arith}
use Rattle.std.specs.Prelude.{◌&&◌, not, if◌then◌else◌}
use Rattle.std.proofs.lemmas.Bool.{false≢true}
use Rattle.tdb_space.specs.Form.{Form, data_start}
use Rattle.tdb_space.specs.Record.{key_at, data_at, magic_of}
use Rattle.tdb_words.specs.Header.{sequence_at}
use Rattle.tdb_words.specs.Word.{word}
use Rattle.tdb_locks.specs.declared.kind.Kind.TheVariants.{Read}
use Rattle.tdb_space.specs.Pairs.{home}
use Rattle.tdb_space.specs.Extents.{HandPair}
use Rattle.tdb_locks.specs.HeldLocks.{HeldLocks}
use Rattle.tdb_locks.specs.LockTable.{held}
use Rattle.tdb_locks.specs.declared.piece.Piece.{Piece}
use Rattle.tdb_locks.specs.declared.turn.Reply.{Reply}
use Rattle.tdb_locks.specs.declared.turn.Turn.{Turn}
use Rattle.tdb_locks.proofs.Strengths.{strength-le}
use Rattle.tdb_law.specs.Commands.{WalkCommand, Turn as LawTurn, Reply as LawReply, is_first}
use Rattle.tdb_law.specs.Commands.WalkCommand.{First, Next, EndWalk, Close}
use Rattle.tdb_law.specs.Commands.Command.{OnWalk}
use Rattle.tdb_law.specs.Openers.{Own, Mark, Spot, View, has, image_or, seen}
use Rattle.tdb_law.specs.Refusals.{chain_byte}
use Rattle.tdb_law.specs.Outcomes.{moves, walk_moves}
use Rattle.tdb_law.specs.Held.{holding, wanted, decided}
use Rattle.tdb_law.specs.World.{State}
use Rattle.tdb_law.specs.Walks.{Shift, Lost, Moves, Walked, Due, begins}
use Rattle.tdb_law.specs.Walks.Walked.{walk_steps, walk_rests, walk_ends, walk_arrives, walk_finishes, walk_halts, walk_fails}
use Rattle.tdb_law.specs.Effects.{Effect, IsFree, IsFirstConflict, Finds}
use Rattle.tdb_law.specs.Effects.Effect.{effect_waits, effect_goes_on, effect_changes, effect_answers, effect_shows, effect_starves, effect_is_full, effect_is_busy, effect_numbers, effect_finishes}
use Rattle.tdb_law.specs.Images.{image_map}
use Rattle.tdb_law.specs.Layout.{Place, chains_in, ahead_of, inside_of, reached_of, mark_of}
use Rattle.tdb_law.specs.Layout.Place.{off_chains, before_chain, on_record}
use Rattle.tdb_law.specs.Going.{GoesOn}
use Rattle.tdb_walk.specs.declared.live.Live.{Live}
use Rattle.tdb_walk.specs.declared.purging.DeadRecord.{DeadRecord}
use Rattle.tdb_walk.specs.declared.standing.Standing.{Standing}
use Rattle.tdb_walk.specs.declared.standing.Standing.TheVariants.{Before, On, Past}
use Rattle.tdb_walk.specs.declared.stage.Stage.{Stage}
use Rattle.tdb_walk.specs.declared.stage.Stage.TheVariants.{Rested, Reading, Writing, Freeing}
use Rattle.tdb_walk.specs.declared.stage.Goal.{Goal}
use Rattle.tdb_walk.specs.declared.stage.Goal.TheVariants as Goals
use Rattle.tdb_walk.specs.declared.stage.Act.{Act}
use Rattle.tdb_walk.specs.declared.stage.Act.TheVariants.{Lock, Move, End}
use Rattle.tdb_walk.specs.declared.stage.StepLock.{StepLock}
use Rattle.tdb_walk.specs.declared.stage.StepLock.TheVariants.{FreeList}
use Rattle.tdb_walk.specs.declared.way.Way.TheVariants as Way
use Rattle.tdb_walk.specs.NextLive.{IsNext, place_of}
use Rattle.tdb_walk.specs.Way.{IsWay, SameOthers, lock_byte, next_chain}
use Rattle.tdb_walk.specs.Laws.{IsUnentered}
use Rattle.tdb_walk.specs.ByteLocks.{IsKeptFrom, reads_all}
use Rattle.tdb_walk.specs.Purging.{IsDeadRecord}
use Rattle.tdb_walk.specs.Cursors.{At, IsPlaced, MoveLed, LeaveLed, LockLed, StepLed, StepMoved, StepTaken, StepMade, rested, act_of, dead_of, from_of, spared_of}
use Rattle.tdb_walk.specs.Cursors.LeaveLed.{leaves, cannot}
use Rattle.tdb_walk.specs.Cursors.Came.{shown, barred, wants}
use Rattle.tdb_walk.specs.Cursors.MoveLed.{comes, stops, ends, gives_up}
use Rattle.tdb_walk.specs.Cursors.StepMade.{keeps, purges, waits, starves}
use Rattle.tdb_walk.specs.InLaw.{CursorBefore, IsTurn, StandsAfter, ShowsTurn, WalkIsLawful, goal_of, is_before, is_dropped, spot_in, spot_next, own_next, strengths}
use Rattle.tdb_walk.proofs.Ahead.{none_some}
use Rattle.tdb_walk.proofs.Arrived.{met_member}
use Rattle.tdb_walk.proofs.Coming.{met_used, comes_rightly}
use Rattle.tdb_walk.proofs.Decided.{whole_in}
use Rattle.tdb_walk.proofs.Explicit.{one_at}
use Rattle.tdb_walk.proofs.Holding.{stage_is}
use Rattle.tdb_walk.proofs.Going.{blocks_rightly, ends_rightly}
use Rattle.tdb_walk.proofs.Making.{dead_known}
use Rattle.tdb_walk.proofs.HeldOn.{shown_of}
use Rattle.tdb_walk.proofs.HeldAfter.{memory_reply}
use Rattle.tdb_walk.proofs.Rows.{never, own_is, moves_close}
use Rattle.tdb_walk.proofs.Wanting.{moves_are}
use Rattle.tdb_walk.proofs.WalkShown.{ahead_same, mapped_ahead, want_high}
use Rattle.tdb_walk.proofs.Lawful.{cursor_is_lawful}

-- a command whose turn moves is one that moves, and so on
act_moves : (f : Form) (own : HeldLocks) (x : Own) (w : WalkCommand) (place : Standing) (stage : Stage) (over due : Bool) (n : ℕ) (from : Standing) → StandsAfter f own x w place stage over n → act_of (goal_of w) place stage due ≡ Move from → walk_moves w x ≡ true
act_moves f own x First place stage over due n from S is = refl
act_moves f own x Next (On chain off) stage over due n from S is = ap is_some (shown_of f own x Next chain off stage over n S).0.shown
act_moves f own x Next (Before chain) stage over due n from (resting, inl gone) is = gone.1
act_moves f own x Next (Before chain) stage over due n from (resting, inr new) is = absurd (not_first new.3)
  where
    not_first : Next ≡ First → ⊥
    not_first e = cc
act_moves f own x Next Past stage over due n from S is = absurd (S.4 refl)
act_moves f own x EndWalk place stage over due n from S is = absurd (leave_stays place stage due from is)
  where
    leave_stays : (place : Standing) (stage : Stage) (due : Bool) (from : Standing) → act_of Goals.Leave place stage due ≡ Move from → ⊥
    leave_stays (On chain off) Rested true from e = cc
    leave_stays (On chain off) Rested false from e = cc
    leave_stays (On chain off) Reading due from e = cc
    leave_stays (On chain off) Writing due from e = cc
    leave_stays (On chain off) Freeing due from e = cc
    leave_stays (Before chain) stage due from e = cc
    leave_stays Past stage due from e = cc
act_moves f own x Close place stage over due n from S is = absurd (leave_stays place stage due from is)
  where
    leave_stays : (place : Standing) (stage : Stage) (due : Bool) (from : Standing) → act_of Goals.Leave place stage due ≡ Move from → ⊥
    leave_stays (On chain off) Rested true from e = cc
    leave_stays (On chain off) Rested false from e = cc
    leave_stays (On chain off) Reading due from e = cc
    leave_stays (On chain off) Writing due from e = cc
    leave_stays (On chain off) Freeing due from e = cc
    leave_stays (Before chain) stage due from e = cc
    leave_stays Past stage due from e = cc

-- a turn that takes a lock is one on a record that isn't purged in it
record IsLocking (place : Standing) (stage : Stage) (over : Bool) : Type 0 where
  on : is_before place ≡ false
  isnt : over ≡ false
  none : dead_of place stage ≡ None

act_locks : (f : Form) (own : HeldLocks) (x : Own) (w : WalkCommand) (place : Standing) (stage : Stage) (over due : Bool) (n : ℕ) (lock : StepLock) → StandsAfter f own x w place stage over n → act_of (goal_of w) place stage due ≡ Lock lock → IsLocking place stage over
act_locks f own x w (On chain off) Rested over due n lock S is = record { on = refl; isnt = S.1; none = refl }
act_locks f own x w (On chain off) Reading over due n lock S is = record { on = refl; isnt = S.1; none = refl }
act_locks f own x w (On chain off) Writing over due n lock S is = record { on = refl; isnt = S.1; none = refl }
act_locks f own x First (On chain off) Freeing over due n lock S is = cc
act_locks f own x Next (On chain off) Freeing over due n lock S is = cc
act_locks f own x EndWalk (On chain off) Freeing over due n lock S is = cc
act_locks f own x Close (On chain off) Freeing over due n lock S is = cc
act_locks f own x First (Before chain) stage over due n lock S is = cc
act_locks f own x Next (Before chain) stage over due n lock S is = cc
act_locks f own x EndWalk (Before chain) stage over due n lock S is = cc
act_locks f own x Close (Before chain) stage over due n lock S is = cc
act_locks f own x First Past stage over due n lock S is = cc
act_locks f own x Next Past stage over due n lock S is = cc
act_locks f own x EndWalk Past stage over due n lock S is = cc
act_locks f own x Close Past stage over due n lock S is = cc

-- so its opener has shown a pair
act_shown : (f : Form) (own : HeldLocks) (x : Own) (w : WalkCommand) (place : Standing) (stage : Stage) (over : Bool) (n : ℕ) → StandsAfter f own x w place stage over n → is_before place ≡ false → (place ≡ Past → ⊥) → is_some x.cursor ≡ true
act_shown f own x w (On chain off) stage over n S isnt apart = ap is_some (shown_of f own x w chain off stage over n S).0.shown
act_shown f own x w (Before chain) stage over n S isnt apart = absurd (never (sym isnt))
act_shown f own x w Past stage over n S isnt apart = absurd (apart refl)

-- a walk that is begun by the turn is begun before the first chain, and another goes on from where it stands
abbrev starts : WalkCommand → Bool → Bool
starts w over = is_first (OnWalk w) && (true && not over)

not_begun : (f : Form) (own : HeldLocks) (x : Own) (w : WalkCommand) (place : Standing) (stage : Stage) (over : Bool) (n : ℕ) → StandsAfter f own x w place stage over n → walk_moves w x ≡ true → starts w over ≡ false → from_of (goal_of w) place ≡ place
not_begun f own x Next place stage over n S moving e = refl
not_begun f own x EndWalk place stage over n S moving e = refl
not_begun f own x Close place stage over n S moving e = refl
not_begun f own x First (Before chain) stage over n S moving e = refl
not_begun f own x First (On chain off) stage over n S moving e = let isnt = (shown_of f own x First chain off stage over n S).1 in absurd (false≢true (sym e ∙ ap (λ o. not o) isnt))
not_begun f own x First Past stage over n S moving e = absurd (false≢true (sym e ∙ ap (λ o. not o) S.2))

begun_first : (f : Form) (own : HeldLocks) (x : Own) (w : WalkCommand) (place : Standing) (stage : Stage) (over : Bool) (n : ℕ) → StandsAfter f own x w place stage over n → starts w over ≡ true → from_of (goal_of w) place ≡ Before 0
begun_first f own x Next place stage over n S e = absurd (false≢true e)
begun_first f own x EndWalk place stage over n S e = absurd (false≢true e)
begun_first f own x Close place stage over n S e = absurd (false≢true e)
begun_first f own x First (On chain off) stage over n S e = refl
begun_first f own x First Past stage over n S e = refl
begun_first f own x First (Before chain) stage over n (resting, inl gone) e = absurd (false≢true (sym (ap (λ o. not o) gone.0) ∙ e))
begun_first f own x First (Before chain) stage over n (resting, inr new) e = ap Before new.1

-- a move along a chain in which the walk stands holds that
chain_held : (f : Form) (own : HeldLocks) (x : Own) (w : WalkCommand) (place : Standing) (stage : Stage) (over due : Bool) (n who : ℕ) (ps : List Piece) (from : Standing) → x.txn ≡ None → StandsAfter f own x w place stage over n
    → ((z : ℕ) → strengths ps who z ≡ holding f x (spot_in (record { place = place; stage = stage }) over) (Some (record { command = OnWalk w; steps = n })) z) → act_of (goal_of w) place stage due ≡ Move from → starts w over ≡ false
    → inside_of (place_of place) ≡ true → (k : List ℕ) → home f k + 1 ≡ reached_of (place_of place) → 1 ≤ strengths ps who (chain_byte f k)
chain_held f own x w (Before chain) stage over due n who ps from outside S holds act begun inside k here = absurd (false≢true inside)
chain_held f own x w Past stage over due n who ps from outside S holds act begun inside k here = absurd (false≢true inside)
chain_held f own x First (On chain off) stage over due n who ps from outside S holds act begun inside k here =
    let isnt = (shown_of f own x First chain off stage over n S).1 in absurd (false≢true (sym begun ∙ ap (λ o. not o) isnt))
chain_held f own x w (On chain off) Reading over due n who ps from outside S holds act begun inside k here =
    let is = holds (chain_byte f k) in
    let row = stage_is f own x outside w chain off Reading over n S (chain_byte f k) in
    let there = one_at (lock_byte chain) 1 (chain_byte f k) (omega (arith, here)) in
    omega (arith, is, row, there)
chain_held f own x w (On chain off) Freeing over due n who ps from outside S holds act begun inside k here =
    let is = holds (chain_byte f k) in
    let row = stage_is f own x outside w chain off Freeing over n S (chain_byte f k) in
    let there = one_at (lock_byte chain) 2 (chain_byte f k) (omega (arith, here)) in
    omega (arith, is, row, there)
chain_held f own x w (On chain off) Writing over due n who ps from outside S holds act begun inside k here = absurd (no_move (sym act))
  where
    no_move : Move from ≡ Lock FreeList → ⊥
    no_move e = cc
chain_held f own x w (On chain off) Rested over true n who ps from outside S holds act begun inside k here = cc
chain_held f own x Next (On chain off) Rested over false n who ps from outside S holds act begun inside k here = cc
chain_held f own x EndWalk (On chain off) Rested over false n who ps from outside S holds act begun inside k here = cc
chain_held f own x Close (On chain off) Rested over false n who ps from outside S holds act begun inside k here = cc

-- a place from which a move goes isn't past the chains
entered : (f : Form) (own : HeldLocks) (x : Own) (w : WalkCommand) (place : Standing) (stage : Stage) (over : Bool) (n : ℕ) (chain : ℕ) → StandsAfter f own x w place stage over n → walk_moves w x ≡ true → next_chain f (from_of (goal_of w) place) ≤ chain → chain < f.chains → IsUnentered (place_of (from_of (goal_of w) place)) chain
entered f own x First (On c off) stage over n chain S moving low high = omega (arith, low)
entered f own x First (Before c) stage over n chain S moving low high = low
entered f own x First Past stage over n chain S moving low high = omega (arith, low)
entered f own x Next (On c off) stage over n chain S moving low high = low
entered f own x Next (Before c) stage over n chain S moving low high = low
entered f own x Next Past stage over n chain S moving low high = absurd (omega (arith, low, high))
entered f own x EndWalk place stage over n chain S moving low high = absurd (never moving)
entered f own x Close place stage over n chain S moving low high = absurd (never moving)

-- a command that moves doesn't end by leaving
never_ends : (goal : Goal) → (goal ≡ Goals.Leave → ⊥) → (p : Standing) (s : Stage) (z : Bool) → act_of goal p s z ≡ End → ⊥
never_ends Goals.Leave apart p s z u = apart refl
never_ends Goals.First apart (On chain off) Rested true u = cc
never_ends Goals.First apart (On chain off) Rested false u = cc
never_ends Goals.First apart (On chain off) Reading z u = cc
never_ends Goals.First apart (On chain off) Writing z u = cc
never_ends Goals.First apart (On chain off) Freeing z u = cc
never_ends Goals.First apart (Before chain) s z u = cc
never_ends Goals.First apart Past s z u = cc
never_ends Goals.Next apart (On chain off) Rested true u = cc
never_ends Goals.Next apart (On chain off) Rested false u = cc
never_ends Goals.Next apart (On chain off) Reading z u = cc
never_ends Goals.Next apart (On chain off) Writing z u = cc
never_ends Goals.Next apart (On chain off) Freeing z u = cc
never_ends Goals.Next apart (Before chain) s z u = cc
never_ends Goals.Next apart Past s z u = cc

first_stays : Goals.First ≡ Goals.Leave → ⊥
first_stays e = cc

next_stays : Goals.Next ≡ Goals.Leave → ⊥
next_stays e = cc

-- past the last chain no Next is asked for
past_never : (f : Form) (own : HeldLocks) (x : Own) (w : WalkCommand) (over : Bool) (n : ℕ) (p : Standing) (s : Stage) → StandsAfter f own x w p s over n → w ≡ Next → p ≡ Past → ⊥
past_never f own x w over n Past s S next e = S.4 next
past_never f own x w over n (On chain off) s S next e = cc
past_never f own x w over n (Before chain) s S next e = cc

abbrev moved_from : Act → Standing
moved_from (Lock lock) = Past
moved_from (Move to) = to
moved_from End = Past

-- a move goes from the place that the goal and the cursor's place say
act_goes : (goal : Goal) (p : Standing) (s : Stage) (z : Bool) (to : Standing) → act_of goal p s z ≡ Move to → to ≡ from_of goal p
act_goes goal (On chain off) Rested true to e = cc
act_goes Goals.First (On chain off) Rested false to e = sym (ap moved_from e)
act_goes Goals.Next (On chain off) Rested false to e = cc
act_goes Goals.Leave (On chain off) Rested false to e = cc
act_goes Goals.First (On chain off) Reading z to e = sym (ap moved_from e)
act_goes Goals.Next (On chain off) Reading z to e = sym (ap moved_from e)
act_goes Goals.Leave (On chain off) Reading z to e = cc
act_goes goal (On chain off) Writing z to e = cc
act_goes Goals.First (On chain off) Freeing z to e = sym (ap moved_from e)
act_goes Goals.Next (On chain off) Freeing z to e = sym (ap moved_from e)
act_goes Goals.Leave (On chain off) Freeing z to e = cc
act_goes Goals.First (Before chain) s z to e = sym (ap moved_from e)
act_goes Goals.Next (Before chain) s z to e = sym (ap moved_from e)
act_goes Goals.Leave (Before chain) s z to e = cc
act_goes Goals.First Past s z to e = sym (ap moved_from e)
act_goes Goals.Next Past s z to e = sym (ap moved_from e)
act_goes Goals.Leave Past s z to e = cc

-- a block is neither a step nor an end
abbrev is_blocked : LawTurn → Bool
is_blocked (LawTurn.Blocked o b) = true
is_blocked t = false

not_step : {o b : ℕ} → LawTurn.Blocked o b ≡ LawTurn.Step → ⊥
not_step e = absurd (false≢true (sym (ap is_blocked e)))

not_end : {o b : ℕ} {r : LawReply} → LawTurn.Blocked o b ≡ LawTurn.Ends r → ⊥
not_end e = absurd (false≢true (sym (ap is_blocked e)))

module _ (f : Form) (own : HeldLocks) (x : Own) (w : WalkCommand) (at later : At) (over : Bool) (n who : ℕ) (ps qs : List Piece) (a b : List ℕ) (hands : List HandPair) (stood_on : List ℕ) (read_only : Bool) (v : View) (did : Turn) (turn : LawTurn) (tells : Bool) (old new : State)
    (told : IsTrue tells) (B : CursorBefore f own x w at over n who ps a hands stood_on read_only v) (T : StepTaken (IsTrue tells) f a ps qs (who + 1) own stood_on (goal_of w) read_only at later did) (M : StepMade f a b hands at later did)
    (O : SameOthers (who + 1) ps qs) (placed : IsPlaced later.place) (says : IsTurn did turn) (Z : ShowsTurn f x w at later over n who ps a b turn old new) where
  abbrev place : Place
  place = place_of at.place

  abbrev from : Standing
  from = from_of (goal_of w) at.place

  abbrev start : Bool
  start = begins f (OnWalk w) (old.own who) (old.spot who)

  moves_own : moves f (OnWalk w) (old.own who) ≡ walk_moves w x
  moves_own = ap (λ y. moves f (OnWalk w) y) Z.own ∙ moves_are f w x B.ready.outside

  old_ahead : (k : List ℕ) → (old.mark who).ahead k ≡ ahead_of f (chains_in f a) place k
  old_ahead k = ap (λ (m : Mark). m.ahead k) Z.mark

  -- where the walk stays
  stays : later.place ≡ at.place → is_dropped turn w ≡ false → ((k : List ℕ) → ahead_of f (chains_in f b) place k ≡ ahead_of f (chains_in f a) place k) → Shift f (Lost f (OnWalk w) n (old.own who) turn true (old.mark who)) (old.mark who) (new.mark who)
  stays here kept same =
      let now : new.mark who ≡ mark_of f (chains_in f b) place = Z.mark_later kept ∙ ap (λ p. mark_of f (chains_in f b) (place_of p)) here in
      record {
        inside = ap (λ (m : Mark). m.inside) now ∙ sym (ap (λ (m : Mark). m.inside) Z.mark);
        reached = ap (λ (m : Mark). m.reached) now ∙ sym (ap (λ (m : Mark). m.reached) Z.mark);
        fewer = λ k e. inl (old_ahead k ∙ sym (same k) ∙ sym (ap (λ (m : Mark). m.ahead k) now) ∙ e);
        kept = λ k e. inl (ap (λ (m : Mark). m.ahead k) now ∙ same k ∙ sym (old_ahead k) ∙ e);
      }

  -- memory is wanting
  unwritten : did ≡ Turn.Done Reply.Memory → b ≡ a
  unwritten is = go M
    where
      go : StepMade f a b hands at later did → b ≡ a
      go (keeps none same) = same
      go (purges d e finished never_memory gone) = absurd (never_memory is)
      go (waits other byte e still same) = same
      go (starves e same) = same

  memory_walked : did ≡ Turn.Done Reply.Memory → later ≡ rested (spared_of (goal_of w) at.place) → ((w ≡ Next) → is_some x.cursor ≡ true) → turn ≡ LawTurn.Ends LawReply.Memory → Walked f old new who (OnWalk w) n turn
  memory_walked is spared has_shown same = go w refl
    where
      moving : (c : WalkCommand) → w ≡ c → walk_moves c x ≡ true → Walked f old new who (OnWalk w) n turn
      moving c e m = walk_fails same (moves_own ∙ ap (λ d. walk_moves d x) e ∙ m)

      go : (c : WalkCommand) → w ≡ c → Walked f old new who (OnWalk w) n turn
      go First e = moving First e refl
      go Next e = moving Next e (has_shown e)
      go EndWalk e =
          walk_ends LawReply.Memory same (moves_own ∙ ap (λ d. walk_moves d x) e)
          (λ some. stays (ap (λ (l : At). l.place) spared ∙ ap (λ d. spared_of (goal_of d) at.place) e) ((λ i. is_dropped (same i) (e i))) (λ k. ap (λ img. ahead_of f (chains_in f img) place k) (unwritten is)))
      go Close e =
          walk_ends LawReply.Memory same (moves_own ∙ ap (λ d. walk_moves d x) e)
          (λ some. absurd (false≢true (sym (ap (λ (y : Own). is_some y.cursor) Z.own_later ∙ (λ i. is_some (own_next f (e i) n x (image_map f a) (same i)).cursor)) ∙ some)))

  -- a lock
  lock_walked : (lock : StepLock) → act_of (goal_of w) at.place at.stage T.due ≡ Lock lock → (d : Turn) → did ≡ d → LockLed ps (who + 1) own lock (spared_of (goal_of w) at.place) at later d → Walked f old new who (OnWalk w) n turn
  lock_walked lock act d is led = go d is led
    where
      L : IsLocking at.place at.stage over
      L = act_locks f own x w at.place at.stage over T.due n lock B.ready.stands act

      unmoved : (k : List ℕ) → ahead_of f (chains_in f b) place k ≡ ahead_of f (chains_in f a) place k
      unmoved k = ahead_same f a b hands at later did place M (λ d e. absurd (none_some (sym L.none ∙ e))) k

      go : (d : Turn) → did ≡ d → LockLed ps (who + 1) own lock (spared_of (goal_of w) at.place) at later d → Walked f old new who (OnWalk w) n turn
      go Turn.Step is led =
          let same : turn ≡ LawTurn.Step = subst (λ d. IsTurn d turn) is says in
          walk_steps same (stays (ap (λ (l : At). l.place) led.0) (ap (λ t. is_dropped t w) same) unmoved)
      go (Turn.Blocked other byte) is led =
          let (o, e, same) = subst (λ d. IsTurn d turn) is says in
          let here : later.place ≡ at.place = ap (λ (l : At). l.place) led.0 in
          walk_rests o byte same (ap (λ (s : Spot). s.gone) Z.spot_later ∙ ap (λ t. (spot_next t w later).gone) same ∙ ap is_before here ∙ L.on ∙ sym (ap (λ (s : Spot). s.gone) Z.spot ∙ L.isnt))
          (stays here (ap (λ t. is_dropped t w) same) unmoved)
      go (Turn.Done reply) is led =
          let (r, e, same) = subst (λ d. IsTurn d turn) is says in
          memory_walked (is ∙ ap Turn.Done led.0) led.1 (λ next. act_shown f own x w at.place at.stage over n B.ready.stands L.on (past_never f own x w over n at.place at.stage B.ready.stands next)) (same ∙ ap LawTurn.Ends (memory_reply reply r led.0 e))

  -- a leave
  end_walked : act_of (goal_of w) at.place at.stage T.due ≡ End → LeaveLed (dead_of at.place at.stage) Past (spared_of (goal_of w) at.place) (Turn.Done Reply.Ok) later did → Walked f old new who (OnWalk w) n turn
  end_walked act (leaves is stands) =
      let (r, e, same) = subst (λ d. IsTurn d turn) is says in go w refl (same ∙ ap LawTurn.Ends e)
    where
      go : (c : WalkCommand) → w ≡ c → turn ≡ LawTurn.Ends LawReply.Done → Walked f old new who (OnWalk w) n turn
      go First e same = absurd (never_ends Goals.First first_stays at.place at.stage T.due (subst (λ c. act_of (goal_of c) at.place at.stage T.due ≡ End) e act))
      go Next e same = absurd (never_ends Goals.Next next_stays at.place at.stage T.due (subst (λ c. act_of (goal_of c) at.place at.stage T.due ≡ End) e act))
      go EndWalk e same =
          walk_ends LawReply.Done same (moves_own ∙ ap (λ d. walk_moves d x) e)
          (λ some. absurd (false≢true (sym (ap (λ (y : Own). is_some y.cursor) Z.own_later ∙ (λ i. is_some (own_next f (e i) n x (image_map f a) (same i)).cursor) ∙ ap (λ (y : Own). is_some y.cursor) (own_is f EndWalk x B.ready.outside n LawReply.Done (image_map f a))) ∙ some)))
      go Close e same =
          walk_ends LawReply.Done same (moves_own ∙ ap (λ d. walk_moves d x) e)
          (λ some. absurd (false≢true (sym (ap (λ (y : Own). is_some y.cursor) Z.own_later ∙ (λ i. is_some (own_next f (e i) n x (image_map f a) (same i)).cursor) ∙ ap (λ (y : Own). is_some y.cursor) (own_is f Close x B.ready.outside n LawReply.Done (image_map f a))) ∙ some)))
  end_walked act (cannot dead is stands) =
      let (r, e, same) = subst (λ d. IsTurn d turn) is says in
      memory_walked is stands (λ next. absurd (never_ends Goals.Next next_stays at.place at.stage T.due (subst (λ c. act_of (goal_of c) at.place at.stage T.due ≡ End) next act))) (same ∙ ap LawTurn.Ends e)

  -- a move
  module _ (act : act_of (goal_of w) at.place at.stage T.due ≡ Move from) where
    moving : walk_moves w x ≡ true
    moving = act_moves f own x w at.place at.stage over T.due n from B.ready.stands act

    start_is : start ≡ starts w over
    start_is = λ i. is_first (OnWalk w) && ((moves_own ∙ moving) i && not (Z.spot i).gone)

    now_stays : start ≡ false → from ≡ at.place
    now_stays e = not_begun f own x w at.place at.stage over n B.ready.stands moving (sym start_is ∙ e)

    holds : start ≡ false → (old.mark who).inside ≡ true → (k : List ℕ) → home f k + 1 ≡ (old.mark who).reached → 1 ≤ old.table who (chain_byte f k)
    holds e inside k here =
        let is = Z.locks (chain_byte f k) in
        let least = chain_held f own x w at.place at.stage over T.due n who ps from B.ready.outside B.ready.stands B.ready.holds act (sym start_is ∙ e) (sym (ap (λ (m : Mark). m.inside) Z.mark) ∙ inside) k (here ∙ ap (λ (m : Mark). m.reached) Z.mark) in
        omega (arith, is, least)

    -- what is due is further on than the place from which it goes
    due_ahead : (k : List ℕ) → Due old who start k → ahead_of f (chains_in f a) (place_of from) k ≡ true
    due_ahead k due = by_start start refl due
      where
        by_start : (z : Bool) → start ≡ z → (if start then has (seen (old.own who) old.file) k else (old.mark who).ahead k) ≡ true → ahead_of f (chains_in f a) (place_of from) k ≡ true
        by_start true e d =
            let in_map : has (image_map f a) k ≡ true = sym (λ i. has (image_or (((ap (λ (y : Own). y.txn) Z.own) ∙ B.ready.outside) i) (Z.file i)) k) ∙ sym (ap (λ z. cond z (has (seen (old.own who) old.file) k) ((old.mark who).ahead k)) e) ∙ d in
            ap (λ p. ahead_of f (chains_in f a) (place_of p) k) (begun_first f own x w at.place at.stage over n B.ready.stands (sym start_is ∙ e)) ∙ mapped_ahead f a hands B.accepted k in_map
        by_start false e d =
            ap (λ p. ahead_of f (chains_in f a) (place_of p) k) (now_stays e) ∙ sym (old_ahead k) ∙ sym (ap (λ z. cond z (has (seen (old.own who) old.file) k) ((old.mark who).ahead k)) e) ∙ d

    -- it has gone on to a place
    module _ (to : Standing) (key : Option (List ℕ)) (there : later ≡ rested to) (goes : GoesOn f (chains_in f a) (place_of from) (place_of to) key) (kept_mark : is_dropped turn w ≡ false) (apart : (d : DeadRecord) → dead_of at.place at.stage ≡ Some d → place_of to ≡ on_record d.chain d.off → ⊥) where
      now : new.mark who ≡ mark_of f (chains_in f b) (place_of to)
      now = Z.mark_later kept_mark ∙ ap (λ (l : At). mark_of f (chains_in f b) (place_of l.place)) there

      new_ahead : (k : List ℕ) → (new.mark who).ahead k ≡ ahead_of f (chains_in f a) (place_of to) k
      new_ahead k = ap (λ (m : Mark). m.ahead k) now ∙ ahead_same f a b hands at later did (place_of to) M apart k

      gone_on : Moves f old new who start key
      gone_on = record {
        holds = holds;
        further = λ e.
            (let less = goes.reached in
            let was : (old.mark who).reached ≡ reached_of (place_of from) = ap (λ (m : Mark). m.reached) Z.mark ∙ ap (λ p. reached_of (place_of p)) (sym (now_stays e)) in
            let is : (new.mark who).reached ≡ reached_of (place_of to) = ap (λ (m : Mark). m.reached) now in
            omega (arith, less, was, is));
        fewer = λ e k ahead. old_ahead k ∙ ap (λ p. ahead_of f (chains_in f a) (place_of p) k) (sym (now_stays e)) ∙ goes.fewer k (sym (new_ahead k) ∙ ahead);
        kept = λ k due. (elim (goes.kept k (due_ahead k due)) [ inl met ↦ inl met | inr ahead ↦ inr (inl (new_ahead k ∙ ahead)) ]);
      }

    -- the record to which it comes isn't the one that it purges
    live_apart : (live : Live) → IsNext f a (place_of from) (Some live) → (d : DeadRecord) → dead_of at.place at.stage ≡ Some d → place_of (On live.chain live.off) ≡ on_record d.chain d.off → ⊥
    live_apart live next d is same =
        let dead = (subst (IsDeadRecord f a) is (dead_known f a at.place at.stage B.known)).1 in
        dead.dead (ap (magic_of f.order a) (sym (ap off_in same)) ∙ met_used f a (place_of from) live next)
      where
        off_in : Place → ℕ
        off_in off_chains = 0
        off_in (before_chain i) = 0
        off_in (on_record i p) = p

    comes_walked : (live : Live) → IsNext f a (place_of from) (Some live) → did ≡ Turn.Done (Reply.Pair (key_at f.order a live.off) (data_at f.order a live.off)) → later ≡ rested (On live.chain live.off) → Walked f old new who (OnWalk w) n turn
    comes_walked live next is there =
        let (r, e, same) = subst (λ d. IsTurn d turn) is says in
        let C = comes_rightly f a hands (place_of from) live B.accepted next in
        let k = key_at f.order a live.off in
        let shows : turn ≡ LawTurn.Ends (LawReply.Pair k (data_at f.order a live.off)) = same ∙ ap LawTurn.Ends e in
        let kept_mark : is_dropped turn w ≡ false = ap (λ t. is_dropped t w) shows ∙ moves_close w x moving in
        let apart = live_apart live next in
        walk_arrives k (data_at f.order a live.off) shows (moves_own ∙ moving) (record {
          moved = gone_on (On live.chain live.off) (Some k) there C.goes kept_mark apart;
          was = λ not_started. old_ahead k ∙ ap (λ p. ahead_of f (chains_in f a) (place_of p) k) (sym (now_stays not_started)) ∙ C.was;
          behind = new_ahead (On live.chain live.off) (Some k) there C.goes kept_mark apart k ∙ C.behind;
          reached = (let less = C.reached in let reach : (new.mark who).reached ≡ reached_of (place_of (On live.chain live.off)) = ap (λ (m : Mark). m.reached) (now (On live.chain live.off) (Some k) there C.goes kept_mark apart) in omega (arith, less, reach));
        })

    stops_walked : (chain other byte : ℕ) → IsWay f a ps (who + 1) own (place_of from) (next_chain f from) (Way.Blocked chain other byte) → did ≡ Turn.Blocked other byte → later ≡ rested (Before chain) → Walked f old new who (OnWalk w) n turn
    stops_walked chain other byte W is there =
        let (o, e, same) = subst (λ d. IsTurn d turn) is says in
        let kept_mark : is_dropped turn w ≡ false = ap (λ t. is_dropped t w) same in
        let goes = blocks_rightly f (chains_in f a) (place_of from) chain (entered f own x w at.place at.stage over n chain B.ready.stands moving W.above W.below) W.passed in
        walk_halts o byte same (moves_own ∙ moving) (ap (λ (s : Spot). s.gone) Z.spot_later ∙ (λ i. (spot_next (same i) w (there i)).gone))
        (ap (λ (m : Mark). m.inside) (now (Before chain) None there goes kept_mark (λ d was e. off_record e))) (gone_on (Before chain) None there goes kept_mark (λ d was e. off_record e))
      where
        off_record : {c o i : ℕ} → before_chain i ≡ on_record c o → ⊥
        off_record e = cc

    ends_walked : IsWay f a ps (who + 1) own (place_of from) (next_chain f from) Way.End → did ≡ Turn.Done Reply.End → Walked f old new who (OnWalk w) n turn
    ends_walked W is =
        let (r, e, same) = subst (λ d. IsTurn d turn) is says in
        walk_finishes (same ∙ ap LawTurn.Ends e) (moves_own ∙ moving)
        (record { holds = holds; nothing = λ k due. absurd (false≢true (sym (ends_rightly f (chains_in f a) (place_of from) k B.ready.few.some W.0) ∙ due_ahead k due)) })

    -- no record's byte blocks it
    never_waits : (live : Live) → IsNext f a (place_of from) (Some live) → (other byte : ℕ) → did ≡ Turn.Blocked other byte → IsKeptFrom (reads_all own) ps (who + 1) live.off Read other byte → ⊥
    never_waits live next other byte is kept =
        let (o, e, same) = subst (λ d. IsTurn d turn) is says in
        let there = met_member f a (place_of from) live next in
        let above = (whole_in f a hands B.accepted live.chain live.off there.0 there.1).above in
        let low = kept.conflict.conflict.from_start in
        let C = cursor_is_lawful f own x w at later over n who ps qs a b hands stood_on read_only v did turn tells told B T M O placed says in
        by_effect o byte same (omega (arith, above, low)) C.effect
      where
        want_none : (z : ℕ) → data_start f ≤ z → wanted f (OnWalk w) x (decided (spot_in at over) v n) v n z ≡ 0
        want_none z high = want_high f B.ready.few w x (decided (spot_in at over) v n) v n z B.ready.outside high

        by_effect : (o byte : ℕ) → turn ≡ LawTurn.Blocked o byte → data_start f ≤ byte → Effect f (IsFree (strengths ps) who (wanted f (OnWalk w) x (decided (spot_in at over) v n) v n)) (IsFirstConflict (strengths ps) who (wanted f (OnWalk w) x (decided (spot_in at over) v n) v n))
            (Finds f (strengths ps who) (wanted f (OnWalk w) x (decided (spot_in at over) v n) v n) (image_map f a)) (word f.order a sequence_at) (OnWalk w) n x (image_map f a) turn (own_next f w n x (image_map f a) turn) (image_map f b) → ⊥
        by_effect o byte same high (effect_waits o2 b2 is2 conflict unchanged2 m2 y2) =
            let here : byte ≡ b2 = ap byte_in (sym same ∙ is2) in
            let none = want_none b2 (omega (arith, high, here)) in
            let strong = conflict.conflict in
            let most = strength-le (held ps (o2 + 1) b2) in
            absurd (omega (arith, none, strong, most))
          where
            byte_in : LawTurn → ℕ
            byte_in (LawTurn.Blocked p z) = z
            byte_in t = 0
        by_effect o byte same high (effect_goes_on is2 free2 c2 m2 y2) = not_step (sym same ∙ is2)
        by_effect o byte same high (effect_changes is2 free2 l2 c2 d2 t2 m2 y2) = not_step (sym same ∙ is2)
        by_effect o byte same high (effect_answers r is2 free2 v2 c2 d2 e2 t2 m2 y2) = not_end (sym same ∙ is2)
        by_effect o byte same high (effect_shows r is2 free2 v2 f2 m2 y2) = not_end (sym same ∙ is2)
        by_effect o byte same high (effect_starves is2 s2 c2 m2 y2) = not_end (sym same ∙ is2)
        by_effect o byte same high (effect_is_full l n2 is2 free2 f2 r2 c2 t2 m2 y2) = not_end (sym same ∙ is2)
        by_effect o byte same high (effect_is_busy p z is2 c2 b2 m2 y2) = not_end (sym same ∙ is2)
        by_effect o byte same high (effect_numbers q is2 free2 c2 q2 m2 y2) = not_end (sym same ∙ is2)
        by_effect o byte same high (effect_finishes is2 free2 c2 m2 y2) = not_end (sym same ∙ is2)

    move_walked : MoveLed f a ps (who + 1) own from at later did → Walked f old new who (OnWalk w) n turn
    move_walked (comes live way (shown is there can)) = comes_walked live way.0 is there
    move_walked (comes live way (barred other byte is still kept)) = absurd (never_waits live way.0 other byte is kept)
    move_walked (comes live way (wants is ended)) = (let (r, e, same) = subst (λ d. IsTurn d turn) is says in walk_fails (same ∙ ap LawTurn.Ends e) (moves_own ∙ moving))
    move_walked (stops chain other byte way is there) = stops_walked chain other byte way is there
    move_walked (ends way is ended) = ends_walked way is
    move_walked (gives_up is ended) = (let (r, e, same) = subst (λ d. IsTurn d turn) is says in walk_fails (same ∙ ap LawTurn.Ends e) (moves_own ∙ moving))

  each_walked : (act : Act) → act_of (goal_of w) at.place at.stage T.due ≡ act → StepLed f ps (who + 1) own act (spared_of (goal_of w) at.place) at later did → StepMoved f a ps (who + 1) own act at later did → Walked f old new who (OnWalk w) n turn
  each_walked (Lock lock) act led moved = lock_walked lock act did refl led
  each_walked (Move place2) act led moved = (let same = act_goes (goal_of w) at.place at.stage T.due place2 act in move_walked (act ∙ ap Move same) (subst (λ p. MoveLed f a ps (who + 1) own p at later did) same moved))
  each_walked End act led moved = end_walked act led

  pub walked : Walked f old new who (OnWalk w) n turn
  walked = each_walked (act_of (goal_of w) at.place at.stage T.due) refl T.led (T.moved told hands B.accepted B.known)

pub walk_is_lawful : WalkIsLawful
walk_is_lawful f own x w at later over n who ps qs a b hands stood_on read_only v did turn tells old new told B T M O placed says Z = walked f own x w at later over n who ps qs a b hands stood_on read_only v did turn tells old new told B T M O placed says Z
