-- Each turn of a cursor is one of the law.
use Rattle.std.proofs.Common.{◌≡◌, ℕ, ◌+◌, ◌<◌, ◌≤◌, List, Bool, true, false, cond, Some, None, IsTrue, is_some, refl, sym, ◌∙◌, ap, subst, inl, inr, ◌⊎◌, arith}
use Rattle.std.specs.Prelude.{◌&&◌, ◌==◌, MatchBool}
use Rattle.std.proofs.lemmas.Bool.{cases_Bool}
use Rattle.tdb_words.specs.Header.{sequence_at}
use Rattle.tdb_words.specs.Word.{word}
use Rattle.tdb_space.specs.Form.{Form}
use Rattle.tdb_space.specs.Extents.{HandPair}
use Rattle.tdb_locks.specs.HeldLocks.{HeldLocks}
use Rattle.tdb_locks.specs.declared.piece.Piece.{Piece}
use Rattle.tdb_locks.specs.declared.turn.Turn.{Turn}
use Rattle.tdb_locks.proofs.Strengths.{strength}
use Rattle.tdb_law.specs.Commands.{WalkCommand, Turn as LawTurn, Reply as LawReply}
use Rattle.tdb_law.specs.Commands.WalkCommand.{First, Next, EndWalk, Close}
use Rattle.tdb_law.specs.Commands.Command.{OnWalk}
use Rattle.tdb_law.specs.Openers.{Own, View}
use Rattle.tdb_law.specs.Rows.{walk_locks}
use Rattle.tdb_law.specs.Outcomes.{moves, walk_moves}
use Rattle.tdb_law.specs.Ends.{walk_ends}
use Rattle.tdb_law.specs.Held.{explicit_held, locked_next, wanted, decided, move_turn, moves_at}
use Rattle.tdb_law.specs.Images.{image_map}
use Rattle.tdb_law.proofs.HandsOut.{image_answers}
use Rattle.tdb_law.proofs.Maps.{maps_equal}
use Rattle.tdb_walk.specs.declared.live.Live.{Live}
use Rattle.tdb_walk.specs.declared.standing.Standing.{Standing}
use Rattle.tdb_walk.specs.declared.standing.Standing.TheVariants.{Before, On, Past}
use Rattle.tdb_walk.specs.declared.stage.Stage.{Stage}
use Rattle.tdb_walk.specs.declared.stage.Stage.TheVariants.{Rested, Reading, Writing, Freeing}
use Rattle.tdb_walk.specs.declared.stage.Goal.TheVariants as Goals
use Rattle.tdb_walk.specs.declared.stage.Act.TheVariants.{Move, End}
use Rattle.tdb_walk.specs.declared.stage.StepLock.TheVariants.{ReadChain, WriteChain, FreeList}
use Rattle.tdb_law.specs.Layout.{chains_in}
use Rattle.tdb_walk.specs.NextLive.{IsNext, first_live, place_of}
use Rattle.tdb_walk.specs.Way.{lock_byte, next_chain}
use Rattle.tdb_walk.specs.Cursors.{At, HasToPurge, StepLed, StepMoved, StepTaken, StepMade, rested, act_of, from_of, spared_of}
use Rattle.tdb_walk.specs.Cursors.LeaveLed.{leaves, cannot}
use Rattle.tdb_walk.specs.Cursors.StepMade.{keeps, purges, waits, starves}
use Rattle.tdb_walk.specs.InLaw.{CursorBefore, CursorIsLawful, IsTurn, IsShown, StandsAfter, goal_of, spot_in, spot_next, own_next, strengths}
use Rattle.tdb_walk.proofs.Ahead.{none_some, passed_before}
use Rattle.tdb_walk.proofs.Holding.{holding_is}
use Rattle.tdb_walk.proofs.Wanting.{on_way, moves_are, wanted_is, want_chain, want_read, want_free, want_next, want_first, want_purged, want_end, want_close, want_gone, want_new, new_first}
use Rattle.tdb_walk.proofs.Rows.{never}
use Rattle.tdb_walk.proofs.MoveTurned.{by_move}
use Rattle.tdb_walk.proofs.EndTurned.{end_turned, close_turned}
use Rattle.tdb_walk.proofs.HeldOn.{shown_of, write_fits, read_fits, free_fits}
use Rattle.tdb_walk.proofs.CursorActs.{CursorActs}
use Rattle.tdb_walk.proofs.CursorHeld.{cursor_holds}
use Rattle.tdb_walk.proofs.OnTurned.{on_memory, on_lock, own_chain, carried}

-- the map and the sequence number stay
map_same : (f : Form) (a b : List ℕ) (hands : List HandPair) (at later : At) (did : Turn) → StepMade f a b hands at later did → image_map f b ≡ image_map f a
map_same f a b hands at later did (keeps none same) = ap (image_map f) same
map_same f a b hands at later did (purges d is over never gone) = maps_equal (image_map f b) (image_map f a) (λ k. image_answers f b k ∙ gone.map k ∙ sym (image_answers f a k))
map_same f a b hands at later did (waits other byte is stays same) = ap (image_map f) same
map_same f a b hands at later did (starves is same) = ap (image_map f) same

number_same : (f : Form) (a b : List ℕ) (hands : List HandPair) (at later : At) (did : Turn) → StepMade f a b hands at later did → word f.order b sequence_at ≡ word f.order a sequence_at
number_same f a b hands at later did (keeps none same) = ap (λ img. word f.order img sequence_at) same
number_same f a b hands at later did (purges d is over never gone) = gone.number
number_same f a b hands at later did (waits other byte is stays same) = ap (λ img. word f.order img sequence_at) same
number_same f a b hands at later did (starves is same) = ap (λ img. word f.order img sequence_at) same

-- the turns that a reply and a block are
says_turn : (did did2 : Turn) (turn : LawTurn) → did ≡ did2 → IsTurn did turn → IsTurn did2 turn
says_turn did did2 turn is says = subst (λ d. IsTurn d turn) is says

-- two tests of one fact agree
same_test : (p q : Bool) (X : Type 0) → MatchBool p X (X → ⊥) → MatchBool q X (X → ⊥) → p ≡ q
same_test true true X one two = refl
same_test true false X one two = absurd (two one)
same_test false true X one two = absurd (one two)
same_test false false X one two = refl

-- a turn, and all that is known of it
record Taken (f : Form) (own : HeldLocks) (x : Own) (w : WalkCommand) (at later : At) (over : Bool) (n who : ℕ) (ps qs : List Piece) (a b : List ℕ) (hands : List HandPair) (stood_on : List ℕ) (read_only : Bool) (v : View) (did : Turn) (turn : LawTurn) (tells : Bool) : Type 0 where
  before : CursorBefore f own x w at over n who ps a hands stood_on read_only v
  told : IsTrue tells
  taken : StepTaken (IsTrue tells) f a ps qs (who + 1) own stood_on (goal_of w) read_only at later did
  made : StepMade f a b hands at later did
  says : IsTurn did turn

abbrev ActsLawfully : Form → Own → WalkCommand → At → At → Bool → ℕ → ℕ → List Piece → List ℕ → List ℕ → View → LawTurn → Type 0
ActsLawfully f x w at later over n who ps a b v turn =
    CursorActs f x (own_next f w n x (image_map f a) turn) w n who (spot_in at over) (spot_next turn w later) v (strengths ps) (image_map f a) (image_map f b) (word f.order a sequence_at) (word f.order b sequence_at) turn

-- that moves
module _ (f : Form) (own : HeldLocks) (x : Own) (w : WalkCommand) (at later : At) (over : Bool) (n who : ℕ) (ps qs : List Piece) (a b : List ℕ) (hands : List HandPair) (stood_on : List ℕ) (read_only : Bool) (v : View) (did : Turn) (turn : LawTurn) (tells : Bool)
    (P : Taken f own x w at later over n who ps qs a b hands stood_on read_only v did turn tells) where
  abbrev B : CursorBefore f own x w at over n who ps a hands stood_on read_only v
  B = P.before

  least_held : (z : ℕ) → explicit_held f x z ≤ strengths ps who z
  least_held z = let is = B.ready.holds z in let row = holding_is f w x (spot_in at over) n z B.ready.outside in omega (arith, is, row)

  move_case : ((z : ℕ) → wanted f (OnWalk w) x (decided (spot_in at over) v n) v n z ≡ on_way f v z) → walk_moves w x ≡ true
      → ((live : Live) → live.chain < next_chain f (from_of (goal_of w) at.place) → IsNext f a (place_of (from_of (goal_of w) at.place)) (Some live) → 1 ≤ strengths ps who (lock_byte live.chain))
      → moves_at f (OnWalk w) x (decided (spot_in at over) v n) n ≡ true
      → act_of (goal_of w) at.place at.stage P.taken.due ≡ Move (from_of (goal_of w) at.place)
      → ActsLawfully f x w at later over n who ps a b v turn
  move_case want_is moving own_chain moves_now act =
      by_move f B.ready.few own x B.ready.outside B.ready.explicit w n who ps a b hands v (spot_in at over) (from_of (goal_of w) at.place) B.accepted (map_same f a b hands at later did P.made) (number_same f a b hands at later did P.made) least_held B.ready.apart B.wide
      want_is B.view.way B.view.ways moving own_chain at moves_now later did turn (subst (λ c. StepMoved f a ps (who + 1) own c at later did) act (P.taken.moved P.told hands B.accepted B.known)) P.says

-- A cursor on a record, before a command.
module _ (f : Form) (own : HeldLocks) (x : Own) (chain off : ℕ) (later : At) (over : Bool) (n who : ℕ) (ps qs : List Piece) (a b : List ℕ) (hands : List HandPair) (stood_on : List ℕ) (read_only : Bool) (v : View) (did : Turn) (turn : LawTurn) (tells : Bool) where
  abbrev On_ : Stage → At
  On_ stage = record { place = On chain off; stage = stage }

  abbrev Took : WalkCommand → Stage → Type 0
  Took w stage = Taken f own x w (On_ stage) later over n who ps qs a b hands stood_on read_only v did turn tells

  abbrev Done_ : WalkCommand → Stage → Type 0
  Done_ w stage = ActsLawfully f x w (On_ stage) later over n who ps a b v turn

  same_map : {w : WalkCommand} {stage : Stage} → Took w stage → image_map f b ≡ image_map f a
  same_map {w} {stage} P = map_same f a b hands (On_ stage) later did P.made

  same_number : {w : WalkCommand} {stage : Stage} → Took w stage → word f.order b sequence_at ≡ word f.order a sequence_at
  same_number {w} {stage} P = number_same f a b hands (On_ stage) later did P.made

  shown_on : (w : WalkCommand) (stage : Stage) → Took w stage → IsShown f x.cursor chain off × (over ≡ false) × (n ≤ 2)
  shown_on w stage P = shown_of f own x w chain off stage over n P.before.ready.stands

  -- a move from before the first chain, and one along its own chain
  first_moves : (stage : Stage) → (P : Took First stage) → ((z : ℕ) → wanted f (OnWalk First) x (decided (spot_in (On_ stage) over) v n) v n z ≡ on_way f v z)
      → moves_at f (OnWalk First) x (decided (spot_in (On_ stage) over) v n) n ≡ true → act_of Goals.First (On chain off) stage P.taken.due ≡ Move (Before 0) → Done_ First stage
  first_moves stage P want_is moves_now act =
      move_case f own x First (On_ stage) later over n who ps qs a b hands stood_on read_only v did turn tells P want_is refl (λ live early next. absurd (omega (arith, early))) moves_now act

  next_moves : (stage : Stage) → (P : Took Next stage) → (stage ≡ Reading) ⊎ (stage ≡ Freeing) → ((z : ℕ) → wanted f (OnWalk Next) x (decided (spot_in (On_ stage) over) v n) v n z ≡ on_way f v z)
      → moves_at f (OnWalk Next) x (decided (spot_in (On_ stage) over) v n) n ≡ true → act_of Goals.Next (On chain off) stage P.taken.due ≡ Move (On chain off) → Done_ Next stage
  next_moves stage P holding want_is moves_now act =
      move_case f own x Next (On_ stage) later over n who ps qs a b hands stood_on read_only v did turn tells P want_is (ap is_some (shown_on Next stage P).0.shown)
      (own_chain f own x Next n who ps a b v chain off stage over P.before.ready (same_map P) (same_number P) holding)
      moves_now act

  -- a leave that ends
  leaves_end : (stage : Stage) → (P : Took EndWalk stage) → ((z : ℕ) → wanted f (OnWalk EndWalk) x (decided (spot_in (On_ stage) over) v n) v n z ≡ 0) → act_of Goals.Leave (On chain off) stage P.taken.due ≡ End → Done_ EndWalk stage
  leaves_end stage P none act = go (subst (λ c. StepLed f ps (who + 1) own c (On chain off) (On_ stage) later did) act P.taken.led)
    where
      go : StepLed f ps (who + 1) own End (On chain off) (On_ stage) later did → Done_ EndWalk stage
      go (leaves is stands) =
          let (r, reply, same) = subst (λ d. IsTurn d turn) is P.says in
          carried f own x EndWalk n who ps a b v chain off stage over P.before.ready (same_map P) (same_number P) later (rested Past) turn (LawTurn.Ends LawReply.Done) stands (same ∙ ap LawTurn.Ends reply)
          (end_turned f x P.before.ready.outside n who ps a b v (spot_in (On_ stage) over) (same_map P) (same_number P) none)
      go (cannot some_dead is stands) =
          let (r, reply, same) = subst (λ d. IsTurn d turn) is P.says in
          on_memory f own x EndWalk n who ps a b v chain off stage over P.before.ready (same_map P) (same_number P) later turn stands (same ∙ ap LawTurn.Ends reply)

  leaves_close : (stage : Stage) → (P : Took Close stage) → ((z : ℕ) → wanted f (OnWalk Close) x (decided (spot_in (On_ stage) over) v n) v n z ≡ 0) → act_of Goals.Leave (On chain off) stage P.taken.due ≡ End → Done_ Close stage
  leaves_close stage P none act = go (subst (λ c. StepLed f ps (who + 1) own c (On chain off) (On_ stage) later did) act P.taken.led)
    where
      go : StepLed f ps (who + 1) own End (On chain off) (On_ stage) later did → Done_ Close stage
      go (leaves is stands) =
          let (r, reply, same) = subst (λ d. IsTurn d turn) is P.says in
          carried f own x Close n who ps a b v chain off stage over P.before.ready (same_map P) (same_number P) later later turn (LawTurn.Ends LawReply.Done) refl (same ∙ ap LawTurn.Ends reply)
          (close_turned f x P.before.ready.outside n who ps a b v (spot_in (On_ stage) over) (same_map P) (same_number P) later none)
      go (cannot some_dead is stands) =
          let (r, reply, same) = subst (λ d. IsTurn d turn) is P.says in
          on_memory f own x Close n who ps a b v chain off stage over P.before.ready (same_map P) (same_number P) later turn stands (same ∙ ap LawTurn.Ends reply)

  -- that takes a lock
  locks_chain : (w : WalkCommand) → (P : Took w Rested) → P.taken.due ≡ true → Done_ w Rested
  locks_chain w P due =
      let S = shown_on w Rested P in
      let R = P.before.ready in
      let must = same_test v.must P.taken.due (HasToPurge f a own stood_on read_only (On chain off) Rested) P.before.view.must (P.taken.decided P.told hands P.before.accepted P.before.known) ∙ due in
      let steps : n ≡ 0 = R.stands.2 in
      on_lock f own x w n who ps a b v chain off Rested over R (same_map P) (same_number P) (WriteChain chain) (sym (λ i. record { stands = Some off; purging = cond (steps i == 0) (must i) false; gone = S.1 i })) (want_chain f x R.outside v chain off w over n S.0 S.1 steps must)
      (write_fits f R.few own x R.explicit chain off S.0 (P.taken.writes due)).enough later did turn (subst (λ z. StepLed f ps (who + 1) own (act_of (goal_of w) (On chain off) Rested z) (spared_of (goal_of w) (On chain off)) (On_ Rested) later did) due P.taken.led) P.says

  locks_reading : (P : Took Next Rested) → P.taken.due ≡ false → Done_ Next Rested
  locks_reading P due =
      let S = shown_on Next Rested P in
      let R = P.before.ready in
      let must = same_test v.must P.taken.due (HasToPurge f a own stood_on read_only (On chain off) Rested) P.before.view.must (P.taken.decided P.told hands P.before.accepted P.before.known) ∙ due in
      let steps : n ≡ 0 = R.stands.2 in
      on_lock f own x Next n who ps a b v chain off Rested over R (same_map P) (same_number P) (ReadChain chain) (sym (λ i. record { stands = Some off; purging = cond (steps i == 0) (must i) false; gone = S.1 i })) (want_read f x R.outside v chain off over n S.0 S.1 steps must)
      (read_fits f R.few own x R.explicit chain off S.0).enough later did turn (subst (λ z. StepLed f ps (who + 1) own (act_of Goals.Next (On chain off) Rested z) Past (On_ Rested) later did) due P.taken.led) P.says

  locks_free : (w : WalkCommand) → Took w Writing → Done_ w Writing
  locks_free w P =
      let S = shown_on w Writing P in
      let R = P.before.ready in
      let steps : n ≡ 1 = R.stands.2 in
      on_lock f own x w n who ps a b v chain off Writing over R (same_map P) (same_number P) FreeList (sym (λ i. record { stands = Some off; purging = cond (steps i == 0) v.must true; gone = S.1 i })) (want_free f x R.outside v chain off w over n S.0 S.1 steps)
      (free_fits f R.few own x R.explicit chain off S.0).enough later did turn P.taken.led P.says

  -- before a command that has nothing to purge
  must_not : (w : WalkCommand) → (P : Took w Rested) → P.taken.due ≡ false → v.must ≡ false
  must_not w P due = same_test v.must P.taken.due (HasToPurge f a own stood_on read_only (On chain off) Rested) P.before.view.must (P.taken.decided P.told hands P.before.accepted P.before.known) ∙ due

  first_rested : (P : Took First Rested) → P.taken.due ≡ false → Done_ First Rested
  first_rested P due =
      let S = shown_on First Rested P in
      let steps : n ≡ 0 = P.before.ready.stands.2 in
      let must = must_not First P due in
      move_case f own x First (On_ Rested) later over n who ps qs a b hands stood_on read_only v did turn tells P (want_first f x P.before.ready.outside v chain off over n S.0 S.1 steps must) refl
      (λ live early next. absurd (omega (arith, early)))
      ((λ i. moves_are f First x P.before.ready.outside i && cond (S.1 i) true (steps i == move_turn First (cond (steps i == 0) (must i) false) (S.0.shown i))))
      (ap (λ z. act_of Goals.First (On chain off) Rested z) due)

  end_rested : (P : Took EndWalk Rested) → P.taken.due ≡ false → Done_ EndWalk Rested
  end_rested P due =
      let S = shown_on EndWalk Rested P in
      let steps : n ≡ 0 = P.before.ready.stands.2 in
      leaves_end Rested P (want_end f x P.before.ready.outside v chain off over n S.0 S.1 steps (must_not EndWalk P due)) (ap (λ z. act_of Goals.Leave (On chain off) Rested z) due)

  close_rested : (P : Took Close Rested) → P.taken.due ≡ false → Done_ Close Rested
  close_rested P due =
      let S = shown_on Close Rested P in
      let steps : n ≡ 0 = P.before.ready.stands.2 in
      leaves_close Rested P (want_close f x P.before.ready.outside v chain off over n S.0 S.1 steps (must_not Close P due)) (ap (λ z. act_of Goals.Leave (On chain off) Rested z) due)

  rested_turned : (w : WalkCommand) → (P : Took w Rested) → (P.taken.due ≡ true) ⊎ (P.taken.due ≡ false) → Done_ w Rested
  rested_turned w P (inl due) = locks_chain w P due
  rested_turned First P (inr due) = first_rested P due
  rested_turned Next P (inr due) = locks_reading P due
  rested_turned EndWalk P (inr due) = end_rested P due
  rested_turned Close P (inr due) = close_rested P due

  -- with its chain locked for reading
  next_reading : (P : Took Next Reading) → Done_ Next Reading
  next_reading P =
      let S = shown_on Next Reading P in
      let steps : n ≡ 1 = P.before.ready.stands.2 in
      next_moves Reading P (inl refl) (want_next f x P.before.ready.outside v chain off over n S.0 S.1 steps)
      ((λ i. moves_are f Next x P.before.ready.outside i && cond (S.1 i) true (steps i == move_turn Next (cond (steps i == 0) v.must false) (S.0.shown i))) ∙ (λ i. is_some (S.0.shown i) && true)) refl

  reading_turned : (w : WalkCommand) → Took w Reading → Done_ w Reading
  reading_turned w P = go w P.before.ready.stands.3 P
    where
      go : (c : WalkCommand) → c ≡ Next → Took c Reading → Done_ c Reading
      go c is = subst (λ d. Took d Reading → Done_ d Reading) (sym is) next_reading

  -- with both locks of a purge
  freeing_turned : (w : WalkCommand) → Took w Freeing → Done_ w Freeing
  freeing_turned First P =
      let S = shown_on First Freeing P in
      let steps : n ≡ 2 = P.before.ready.stands.2 in
      first_moves Freeing P (want_purged f x P.before.ready.outside v chain off First over n S.0 S.1 steps)
      (λ i. moves_are f First x P.before.ready.outside i && cond (S.1 i) true (steps i == move_turn First (cond (steps i == 0) v.must true) (S.0.shown i))) refl
  freeing_turned Next P =
      let S = shown_on Next Freeing P in
      let steps : n ≡ 2 = P.before.ready.stands.2 in
      next_moves Freeing P (inr refl) (λ z. want_purged f x P.before.ready.outside v chain off Next over n S.0 S.1 steps z ∙ (λ i. cond (is_some (S.0.shown i)) (on_way f v z) 0))
      ((λ i. moves_are f Next x P.before.ready.outside i && cond (S.1 i) true (steps i == move_turn Next (cond (steps i == 0) v.must true) (S.0.shown i))) ∙ (λ i. is_some (S.0.shown i) && true)) refl
  freeing_turned EndWalk P =
      let S = shown_on EndWalk Freeing P in
      let steps : n ≡ 2 = P.before.ready.stands.2 in
      leaves_end Freeing P (want_purged f x P.before.ready.outside v chain off EndWalk over n S.0 S.1 steps) refl
  freeing_turned Close P =
      let S = shown_on Close Freeing P in
      let steps : n ≡ 2 = P.before.ready.stands.2 in
      leaves_close Freeing P (want_purged f x P.before.ready.outside v chain off Close over n S.0 S.1 steps) refl

  on_turned : (stage : Stage) (w : WalkCommand) → Took w stage → Done_ w stage
  on_turned Rested w P = rested_turned w P (cases_Bool P.taken.due)
  on_turned Reading w P = reading_turned w P
  on_turned Writing w P = locks_free w P
  on_turned Freeing w P = freeing_turned w P

-- Elsewhere.
module _ (f : Form) (own : HeldLocks) (x : Own) (later : At) (over : Bool) (n who : ℕ) (ps qs : List Piece) (a b : List ℕ) (hands : List HandPair) (stood_on : List ℕ) (read_only : Bool) (v : View) (did : Turn) (turn : LawTurn) (tells : Bool) where
  abbrev TookAt : WalkCommand → Standing → Type 0
  TookAt w place = Taken f own x w (rested place) later over n who ps qs a b hands stood_on read_only v did turn tells

  abbrev DoneAt : WalkCommand → Standing → Type 0
  DoneAt w place = ActsLawfully f x w (rested place) later over n who ps a b v turn

  -- before a chain, after a block
  moving_on : (w : WalkCommand) → x.txn ≡ None → walk_moves w x ≡ true → over ≡ true → (z : Bool) → (moves f (OnWalk w) x && cond over true z) ≡ true
  moving_on w outside moving gone z = λ i. (moves_are f w x outside ∙ moving) i && cond (gone i) true z

  gone_first : (chain : ℕ) → TookAt First (Before chain) → over ≡ true → DoneAt First (Before chain)
  gone_first chain P gone =
      move_case f own x First (rested (Before chain)) later over n who ps qs a b hands stood_on read_only v did turn tells P (λ z. want_gone f First x (spot_in (rested (Before chain)) over) v n z P.before.ready.outside gone refl) refl
      (λ live early next. absurd (none_some (sym (ap first_live (passed_before (chains_in f a) chain live.chain early)) ∙ next.1.first)))
      (moving_on First P.before.ready.outside refl gone (n == move_turn First (cond (n == 0) v.must false) x.cursor)) refl

  gone_next_one : (chain : ℕ) → TookAt Next (Before chain) → over ≡ true → is_some x.cursor ≡ true → DoneAt Next (Before chain)
  gone_next_one chain P gone moving =
      move_case f own x Next (rested (Before chain)) later over n who ps qs a b hands stood_on read_only v did turn tells P (λ z. want_gone f Next x (spot_in (rested (Before chain)) over) v n z P.before.ready.outside gone moving) moving
      (λ live early next. absurd (none_some (sym (ap first_live (passed_before (chains_in f a) chain live.chain early)) ∙ next.1.first)))
      (moving_on Next P.before.ready.outside moving gone (n == move_turn Next (cond (n == 0) v.must false) x.cursor)) refl

  -- without a cursor
  new_moves : (place : Standing) → x.txn ≡ None → over ≡ false → x.cursor ≡ None → n ≡ 0 → moves_at f (OnWalk First) x (decided (spot_in (rested place) over) v n) n ≡ true
  new_moves place outside isnt nothing steps = (λ i. moves_are f First x outside i && cond (isnt i) true (steps i == move_turn First (cond (steps i == 0) v.must false) (nothing i))) ∙ new_first v.must

  new_turned : (place : Standing) → (P : TookAt First place) → over ≡ false → x.cursor ≡ None → n ≡ 0 → from_of Goals.First place ≡ Before 0 → act_of Goals.First place Rested P.taken.due ≡ Move (from_of Goals.First place) → DoneAt First place
  new_turned place P isnt nothing steps from act =
      move_case f own x First (rested place) later over n who ps qs a b hands stood_on read_only v did turn tells P (λ z. want_new f x (spot_in (rested place) over) v n z P.before.ready.outside nothing isnt steps) refl
      (λ live early next. absurd (let low = ap (next_chain f) from in omega (arith, early, low))) (new_moves place P.before.ready.outside isnt nothing steps) act

  -- a leave of an opener without a cursor
  past_end : TookAt EndWalk Past → over ≡ false → x.cursor ≡ None → DoneAt EndWalk Past
  past_end P isnt nothing = go P.taken.led
    where
      none : (z : ℕ) → wanted f (OnWalk EndWalk) x (decided (spot_in (rested Past) over) v n) v n z ≡ 0
      none z = let is = wanted_is f EndWalk x (decided (spot_in (rested Past) over) v n) v n z P.before.ready.outside in
          let row : cond over 0 (locked_next (walk_locks f EndWalk x.cursor (cond (n == 0) v.must false)) n z) ≡ 0 = (λ i. cond (isnt i) 0 (locked_next (walk_locks f EndWalk (nothing i) (cond (n == 0) v.must false)) n z)) in
          omega (arith, is, row)

      go : StepLed f ps (who + 1) own End Past (rested Past) later did → DoneAt EndWalk Past
      go (leaves is stands) =
          let (r, reply, same) = subst (λ d. IsTurn d turn) is P.says in
          subst (λ l. ActsLawfully f x EndWalk (rested Past) l over n who ps a b v turn) (sym stands)
          (subst (λ t. ActsLawfully f x EndWalk (rested Past) (rested Past) over n who ps a b v t) (sym (same ∙ ap LawTurn.Ends reply))
          (end_turned f x P.before.ready.outside n who ps a b v (spot_in (rested Past) over) (map_same f a b hands (rested Past) later did P.made) (number_same f a b hands (rested Past) later did P.made) none))
      go (cannot some_dead is stands) = absurd (some_dead refl)

  past_close : TookAt Close Past → over ≡ false → x.cursor ≡ None → DoneAt Close Past
  past_close P isnt nothing = go P.taken.led
    where
      none : (z : ℕ) → wanted f (OnWalk Close) x (decided (spot_in (rested Past) over) v n) v n z ≡ 0
      none z = let is = wanted_is f Close x (decided (spot_in (rested Past) over) v n) v n z P.before.ready.outside in
          let row : cond over 0 (locked_next (walk_locks f Close x.cursor (cond (n == 0) v.must false)) n z) ≡ 0 = (λ i. cond (isnt i) 0 (locked_next (walk_locks f Close (nothing i) (cond (n == 0) v.must false)) n z)) in
          omega (arith, is, row)

      go : StepLed f ps (who + 1) own End Past (rested Past) later did → DoneAt Close Past
      go (leaves is stands) =
          let (r, reply, same) = subst (λ d. IsTurn d turn) is P.says in
          subst (λ t. ActsLawfully f x Close (rested Past) later over n who ps a b v t) (sym (same ∙ ap LawTurn.Ends reply))
          (close_turned f x P.before.ready.outside n who ps a b v (spot_in (rested Past) over) (map_same f a b hands (rested Past) later did P.made) (number_same f a b hands (rested Past) later did P.made) later none)
      go (cannot some_dead is stands) = absurd (some_dead refl)

  past_turned : (w : WalkCommand) → TookAt w Past → over ≡ false → x.cursor ≡ None → n ≡ 0 → (w ≡ Next → ⊥) → DoneAt w Past
  past_turned First P isnt nothing steps apart = new_turned Past P isnt nothing steps refl refl
  past_turned Next P isnt nothing steps apart = absurd (apart refl)
  past_turned EndWalk P isnt nothing steps apart = past_end P isnt nothing
  past_turned Close P isnt nothing steps apart = past_close P isnt nothing

  before_turned : (w : WalkCommand) (chain : ℕ) → TookAt w (Before chain) → (((over ≡ true) × (walk_moves w x ≡ true) × (walk_ends w x.cursor n ≡ true)) ⊎ ((over ≡ false) × (chain ≡ 0) × (x.cursor ≡ None) × (w ≡ First) × (n ≡ 0))) → DoneAt w (Before chain)
  before_turned First chain P (inl (gone, moving, ending)) = gone_first chain P gone
  before_turned Next chain P (inl (gone, moving, ending)) = gone_next_one chain P gone moving
  before_turned EndWalk chain P (inl (gone, moving, ending)) = absurd (never moving)
  before_turned Close chain P (inl (gone, moving, ending)) = absurd (never moving)
  before_turned First chain P (inr (isnt, here, nothing, is, steps)) = new_turned (Before chain) P isnt nothing steps (ap Before here) refl
  before_turned Next chain P (inr (isnt, here, nothing, is, steps)) = cc
  before_turned EndWalk chain P (inr (isnt, here, nothing, is, steps)) = cc
  before_turned Close chain P (inr (isnt, here, nothing, is, steps)) = cc

-- so is each turn
each_turn : (f : Form) (own : HeldLocks) (x : Own) (w : WalkCommand) (place : Standing) (stage : Stage) (later : At) (over : Bool) (n who : ℕ) (ps qs : List Piece) (a b : List ℕ) (hands : List HandPair) (stood_on : List ℕ) (read_only : Bool) (v : View) (did : Turn) (turn : LawTurn) (tells : Bool)
    → Taken f own x w (record { place = place; stage = stage }) later over n who ps qs a b hands stood_on read_only v did turn tells → StandsAfter f own x w place stage over n → ActsLawfully f x w (record { place = place; stage = stage }) later over n who ps a b v turn
each_turn f own x w (On chain off) stage later over n who ps qs a b hands stood_on read_only v did turn tells P S = on_turned f own x chain off later over n who ps qs a b hands stood_on read_only v did turn tells stage w P
each_turn f own x w (Before chain) stage later over n who ps qs a b hands stood_on read_only v did turn tells P (resting, S) =
    subst (λ s. Taken f own x w (record { place = Before chain; stage = s }) later over n who ps qs a b hands stood_on read_only v did turn tells → ActsLawfully f x w (record { place = Before chain; stage = s }) later over n who ps a b v turn) (sym resting)
    (λ Q. before_turned f own x later over n who ps qs a b hands stood_on read_only v did turn tells w chain Q S) P
each_turn f own x w Past stage later over n who ps qs a b hands stood_on read_only v did turn tells P (resting, nothing, isnt, steps, apart) =
    subst (λ s. Taken f own x w (record { place = Past; stage = s }) later over n who ps qs a b hands stood_on read_only v did turn tells → ActsLawfully f x w (record { place = Past; stage = s }) later over n who ps a b v turn) (sym resting)
    (λ Q. past_turned f own x later over n who ps qs a b hands stood_on read_only v did turn tells w Q isnt nothing steps apart) P

pub cursor_is_lawful : CursorIsLawful
cursor_is_lawful f own x w at later over n who ps qs a b hands stood_on read_only v did turn tells told B T M O placed says =
    let H = cursor_holds f own x w at later over n who ps qs a stood_on read_only (image_map f a) did turn tells B.ready T O placed says in
    let A = each_turn f own x w at.place at.stage later over n who ps qs a b hands stood_on read_only v did turn tells (record { before = B; told = told; taken = T; made = M; says = says }) B.ready.stands in
    record {
      row = H.row;
      holds = H.holds;
      others = λ o z differs. ap strength (O (o + 1) z (λ e. differs (omega (arith, e))));
      leaves_spot = A.leaves_spot;
      effect = A.effect;
      number = A.number;
    }
