-- After a turn a cursor stands so that the next one can be taken, and others still know the file.
use Rattle.std.proofs.Common.{◌≡◌, ℕ, ◌+◌, ◌<◌, List, Bool, true, false, None, refl, sym, ◌∙◌, ap, subst, inl, inr, ◌⊎◌}
use Rattle.std.specs.Prelude.{IsTrue}
use Rattle.std.proofs.lemmas.Bool.{cases_eq}
use Rattle.tdb_space.specs.Form.{Form}
use Rattle.tdb_space.specs.Chain.{Member, chain_of, without}
use Rattle.tdb_space.specs.Pairs.{home}
use Rattle.tdb_space.specs.Extents.{HandPair}
use Rattle.tdb_space.specs.Accepted.{AcceptWith}
use Rattle.tdb_space.specs.Stays.{ChangesOnly}
use Rattle.tdb_space.proofs.Stays.Changes.{changes_none, changes_weaker}
use Rattle.tdb_free.proofs.TakenAs.{member_without}
use Rattle.tdb_locks.specs.HeldLocks.{HeldLocks}
use Rattle.tdb_locks.specs.declared.piece.Piece.{Piece}
use Rattle.tdb_locks.specs.declared.turn.Reply.{Reply}
use Rattle.tdb_locks.specs.declared.turn.Turn.{Turn}
use Rattle.tdb_locks.specs.declared.turn.Turn.TheVariants as Turns
use Rattle.tdb_law.specs.Commands.{WalkCommand, Turn as LawTurn, Reply as LawReply}
use Rattle.tdb_law.specs.Commands.WalkCommand.{First, Next, EndWalk, Close}
use Rattle.tdb_law.specs.Commands.Command.{OnWalk}
use Rattle.tdb_law.specs.Openers.{Own, Map}
use Rattle.tdb_law.specs.Ends.{walk_ends}
use Rattle.tdb_law.specs.Outcomes.{own_spared, own_walked, walk_moves}
use Rattle.tdb_law.specs.Images.{image_map}
use Rattle.tdb_walk.specs.declared.standing.Standing.{Standing}
use Rattle.tdb_walk.specs.declared.standing.Standing.TheVariants.{Before, On, Past}
use Rattle.tdb_walk.specs.declared.stage.Stage.{Stage}
use Rattle.tdb_walk.specs.declared.stage.Stage.TheVariants.{Rested}
use Rattle.tdb_walk.specs.declared.stage.StepLock.{StepLock}
use Rattle.tdb_walk.specs.Cursors.{At, LeaveLed, LockLed, StepTaken, WentTo, dead_of, rested, spared_of, stage_of}
use Rattle.tdb_walk.specs.Cursors.LeaveLed.{leaves, cannot}
use Rattle.tdb_walk.specs.Cursors.WentTo.{arrives, held_up, halts, finishes, lacks}
use Rattle.tdb_walk.specs.Cursors.StepMade.{keeps, purges, waits, starves}
use Rattle.tdb_walk.specs.InLaw.{CursorReady, IsShown, IsTurn, StandsAfter, goal_of, is_before, is_close}
use Rattle.tdb_walk.specs.Again.{RestsAt, StandsAgain, CursorStandsAgain, CursorBegins, IsPurging, CursorLeaves, CursorLeavesOthers}
use Rattle.tdb_walk.proofs.Rows.{never, own_is, walked_moving, spared_moving}
use Rattle.tdb_walk.proofs.HeldOn.{shown_of}
use Rattle.tdb_walk.proofs.HeldAfter.{memory_reply}
use Rattle.tdb_walk.proofs.TurnKinds.{TurnKind, turn_kind}
use Rattle.tdb_walk.proofs.TurnKinds.TurnKind.{kind_locks, kind_moves, kind_leaves}

-- what a turn leaves to others
where_purged : (f : Form) (a b : List ℕ) (chain off chain2 off2 : ℕ) → chain_of f b chain ≡ without off (chain_of f a chain) → ChangesOnly f a b (λ k. k ≡ chain) → chain2 < f.chains → Member off2 (chain_of f a chain2) → (off2 ≡ off → ⊥) → Member off2 (chain_of f b chain2)
where_purged f a b chain off chain2 off2 offsets only low m apart = elim (cases_eq chain2 chain) [
  | inl e ↦ subst (λ j. Member off2 (chain_of f b j)) (sym e) (subst (Member off2) (sym offsets) (member_without off2 off (chain_of f a chain) (subst (λ j. Member off2 (chain_of f a j)) e m) apart))
  | inr ne ↦ subst (Member off2) (sym (only.chains chain2 low ne).same_offsets) m
]

unchanged_leaves : (f : Form) (a b : List ℕ) (hands : List HandPair) (at : At) → AcceptWith f a hands → b ≡ a → CursorLeaves f a b hands at
unchanged_leaves f a b hands at A same = subst (λ img. CursorLeaves f a img hands at) (sym same) (record { accepted = A; only = changes_none f a (IsPurging at); members = λ chain off low m apart. m })

pub cursor_leaves : CursorLeavesOthers
cursor_leaves f a b hands at later did A (keeps none same) = unchanged_leaves f a b hands at A same
cursor_leaves f a b hands at later did A (purges d dead rests did_not P) = record {
  accepted = P.accepted;
  only = changes_weaker f a b (λ k. k ≡ d.chain) (IsPurging at) (λ k is. (d, dead, is)) P.only;
  members = λ chain off low m apart. where_purged f a b d.chain d.off chain off P.offsets P.only low m (apart d dead);
}
cursor_leaves f a b hands at later did A (waits other byte is stands same) = unchanged_leaves f a b hands at A same
cursor_leaves f a b hands at later did A (starves is same) = unchanged_leaves f a b hands at A same

-- a cursor that rests begins a command
pub cursor_begins : CursorBegins
cursor_begins f own x w (On chain off) stage R may = subst (λ s. StandsAfter f own x w (On chain off) s false 0) (sym R.1) (R.0, refl, refl)
cursor_begins f own x w (Before chain) stage R may = absurd R
cursor_begins f own x w Past stage R may = (R.1, R.0, refl, refl, λ next. may next refl)

-- a turn that is blocked leaves it as it was
still_of : (f : Form) (own : HeldLocks) (x : Own) (w : WalkCommand) (place : Standing) (stage : Stage) (over : Bool) (n : ℕ) → StandsAfter f own x w place stage over n → StandsAfter f own x w place stage (is_before place) n
still_of f own x w (On chain off) stage over n S = subst (λ g. StandsAfter f own x w (On chain off) stage g n) (shown_of f own x w chain off stage over n S).1 S
still_of f own x w (Before chain) stage over n (resting, inl (gone, moving, ending)) = (resting, inl (refl, moving, ending))
still_of f own x w (Before chain) stage over n (resting, inr (isnt, here, nothing, is, steps)) = (resting, inl (refl, ap (λ c. walk_moves c x) is, (λ i. walk_ends (is i) (nothing i) (steps i))))
still_of f own x w Past stage over n (resting, nothing, isnt, steps, apart) = (resting, nothing, refl, steps, apart)

-- where memory is wanting First and Next end it, and a leave leaves it on its record
spared_on : (f : Form) (x : Own) (w : WalkCommand) (chain off : ℕ) → IsShown f x.cursor chain off → is_close w ≡ false → RestsAt f (own_spared (OnWalk w) x).cursor (spared_of (goal_of w) (On chain off)) Rested
spared_on f x First chain off S stays = (refl, refl)
spared_on f x Next chain off S stays = (refl, refl)
spared_on f x EndWalk chain off S stays = (S, refl)
spared_on f x Close chain off S stays = absurd (never (sym stays))

-- where a purge is due it stands on a record
spared_purge : (f : Form) (own : HeldLocks) (x : Own) (w : WalkCommand) (place : Standing) (stage : Stage) (over : Bool) (n : ℕ) → StandsAfter f own x w place stage over n → (dead_of place stage ≡ None → ⊥) → is_close w ≡ false
    → RestsAt f (own_spared (OnWalk w) x).cursor (spared_of (goal_of w) place) Rested
spared_purge f own x w (On chain off) stage over n S dead stays = spared_on f x w chain off (shown_of f own x w chain off stage over n S).0 stays
spared_purge f own x w (Before chain) stage over n S dead stays = absurd (dead refl)
spared_purge f own x w Past stage over n S dead stays = absurd (dead refl)

module _ (f : Form) (own : HeldLocks) (x : Own) (w : WalkCommand) (later : At) (over : Bool) (n who : ℕ) (ps qs : List Piece) (m : Map) (turn : LawTurn) where
  abbrev at_ : Standing → Stage → At
  at_ place stage = record { place = place; stage = stage }

  abbrev Ready : Standing → Stage → Type 0
  Ready place stage = CursorReady f own x w (at_ place stage) over n who ps

  abbrev Again : At → LawTurn → Type 0
  Again l t = StandsAgain f own x w l t n m

  again_is : (l : At) (t : LawTurn) → later ≡ l → turn ≡ t → Again l t → Again later turn
  again_is l t is says done = subst (λ z. Again z turn) (sym is) (subst (λ u. Again l u) (sym says) done)

  -- a turn that takes a lock
  lock_again : (chain off : ℕ) (stage : Stage) (lock : StepLock) (did : Turn) → IsTurn did turn → LockLed ps (who + 1) own lock (spared_of (goal_of w) (On chain off)) (at_ (On chain off) stage) later did
      → StandsAfter f own x w (On chain off) (stage_of lock) false (n + 1) → Ready (On chain off) stage → Again later turn
  lock_again chain off stage lock Turns.Step says L next R = again_is (at_ (On chain off) (stage_of lock)) LawTurn.Step L.0 says next
  lock_again chain off stage lock (Turns.Blocked other byte) says L next R = again_is (at_ (On chain off) stage) (LawTurn.Blocked says.0 byte) L.0 says.2 (still_of f own x w (On chain off) stage over n R.stands)
  lock_again chain off stage lock (Turns.Done reply) says L next R =
      again_is (rested (spared_of (goal_of w) (On chain off))) (LawTurn.Ends LawReply.Memory) L.1 (says.2 ∙ ap LawTurn.Ends (memory_reply reply says.0 L.0 says.1)) (spared_on f x w chain off (shown_of f own x w chain off stage over n R.stands).0)

  -- a turn that ends
  leave_again : (place : Standing) (stage : Stage) (did : Turn) → IsTurn did turn → LeaveLed (dead_of place stage) Past (spared_of (goal_of w) place) (Turns.Done Reply.Ok) later did → w ≡ EndWalk ⊎ w ≡ Close → Ready place stage → Again later turn
  leave_again place stage did says (leaves is stands) kind R =
      let reply = subst (λ d. IsTurn d turn) is says in
      again_is (rested Past) (LawTurn.Ends LawReply.Done) stands (reply.2 ∙ ap LawTurn.Ends reply.1)
      (elim kind [
        | inl ended ↦ λ stays. (ap (λ (y : Own). y.cursor) (own_is f w x R.outside n LawReply.Done m) ∙ ap (λ c. (own_walked c x LawReply.Done).cursor) ended, refl)
        | inr closes ↦ λ stays. absurd (never (sym stays ∙ ap is_close closes))
      ])
  leave_again place stage did says (cannot some is stands) kind R =
      let reply = subst (λ d. IsTurn d turn) is says in
      again_is (rested (spared_of (goal_of w) place)) (LawTurn.Ends LawReply.Memory) stands (reply.2 ∙ ap LawTurn.Ends reply.1) (spared_purge f own x w place stage over n R.stands some)

  -- a turn that moves
  move_again : (place : Standing) (stage : Stage) → walk_moves w x ≡ true → walk_ends w x.cursor n ≡ true → (did : Turn) → IsTurn did turn → WentTo f ps (who + 1) own (at_ place stage) later did → Ready place stage → Again later turn
  move_again place stage moving ending did says (arrives key value off is there above can) R =
      let reply = subst (λ d. IsTurn d turn) is says in
      let pair = LawReply.Pair key value in
      again_is (rested (On (home f key) off)) (LawTurn.Ends pair) there (reply.2 ∙ ap LawTurn.Ends reply.1)
      (λ stays. (record { key = key; shown = ap (λ (y : Own). y.cursor) (own_is f w x R.outside n pair m ∙ walked_moving w x pair moving); filed = refl; above = above }, refl))
  move_again place stage moving ending did says (held_up other byte is there) R =
      let waits_so = subst (λ d. IsTurn d turn) is says in
      again_is (at_ place stage) (LawTurn.Blocked waits_so.0 byte) there waits_so.2 (still_of f own x w place stage over n R.stands)
  move_again place stage moving ending did says (halts chain other byte is there) R =
      let waits_so = subst (λ d. IsTurn d turn) is says in
      again_is (rested (Before chain)) (LawTurn.Blocked waits_so.0 byte) there waits_so.2 (refl, inl (refl, moving, ending))
  move_again place stage moving ending did says (finishes is there) R =
      let reply = subst (λ d. IsTurn d turn) is says in
      again_is (rested Past) (LawTurn.Ends LawReply.End) there (reply.2 ∙ ap LawTurn.Ends reply.1)
      (λ stays. (ap (λ (y : Own). y.cursor) (own_is f w x R.outside n LawReply.End m ∙ walked_moving w x LawReply.End moving), refl))
  move_again place stage moving ending did says (lacks is there) R =
      let reply = subst (λ d. IsTurn d turn) is says in
      again_is (rested Past) (LawTurn.Ends LawReply.Memory) there (reply.2 ∙ ap LawTurn.Ends reply.1) (λ stays. (ap (λ (y : Own). y.cursor) (spared_moving w x moving), refl))

  pub kind_again : (place : Standing) (stage : Stage) (did : Turn) → TurnKind f own x w place stage later n who ps qs did → Ready place stage → IsTurn did turn → Again later turn
  kind_again place stage did (kind_locks chain off lock on fits early next led holds) R says = lock_again chain off stage lock did says led next (subst (λ p. Ready p stage) on R)
  kind_again place stage did (kind_moves moving ending went holds) R says = move_again place stage moving ending did says went R
  kind_again place stage did (kind_leaves kind ending led holds) R says = leave_again place stage did says led kind R

-- whatever the bytes of the file are
pub ready_stands_again : (told : Type 0) (f : Form) (own : HeldLocks) (x : Own) (w : WalkCommand) (at later : At) (over : Bool) (n who : ℕ) (ps qs : List Piece) (img stood_on : List ℕ) (read_only : Bool) (m : Map) (did : Turn) (turn : LawTurn)
    → CursorReady f own x w at over n who ps → StepTaken told f img ps qs (who + 1) own stood_on (goal_of w) read_only at later did → IsTurn did turn → StandsAgain f own x w later turn n m
ready_stands_again told f own x w at later over n who ps qs img stood_on read_only m did turn R T says =
    kind_again f own x w later over n who ps qs m turn at.place at.stage did (turn_kind f own x later over n who ps qs img stood_on read_only did told w at.place at.stage R T) R says

pub cursor_stands_again : CursorStandsAgain
cursor_stands_again f own x w at later over n who ps qs a hands stood_on read_only v did turn tells told B T says = ready_stands_again (IsTrue tells) f own x w at later over n who ps qs a stood_on read_only (image_map f a) did turn B.ready T says
