-- What each turn of a cursor that stands on a record does is of the law's kinds.
use Rattle.std.proofs.Common.{◌≡◌, ℕ, ◌+◌, ◌<◌, ◌≤◌, max, List, Bool, true, false, Some, is_some, refl, sym, ◌∙◌, ap, subst, inl, inr, ◌⊎◌, arith}
use Rattle.tdb_words.specs.Header.{sequence_at}
use Rattle.tdb_words.specs.Word.{word}
use Rattle.tdb_space.specs.Form.{Form}
use Rattle.tdb_locks.specs.HeldLocks.{HeldLocks}
use Rattle.tdb_locks.specs.declared.piece.Piece.{Piece}
use Rattle.tdb_locks.specs.declared.turn.Turn.{Turn}
use Rattle.tdb_locks.proofs.Strengths.{strength}
use Rattle.tdb_law.specs.Commands.{WalkCommand, Turn as LawTurn, Reply as LawReply}
use Rattle.tdb_law.specs.Commands.Command.{OnWalk}
use Rattle.tdb_law.specs.Openers.{Own, View}
use Rattle.tdb_law.specs.Held.{explicit_held, wanted, decided}
use Rattle.tdb_law.specs.Images.{image_map}
use Rattle.tdb_law.specs.Layout.{chains_in}
use Rattle.tdb_law.specs.Layout.Place.{on_record}
use Rattle.tdb_walk.specs.declared.live.Live.{Live}
use Rattle.tdb_walk.specs.declared.standing.Standing.TheVariants.{On, Past}
use Rattle.tdb_walk.specs.declared.stage.Stage.{Stage}
use Rattle.tdb_walk.specs.declared.stage.Stage.TheVariants.{Reading, Freeing}
use Rattle.tdb_walk.specs.declared.stage.StepLock.{StepLock}
use Rattle.tdb_walk.specs.NextLive.{IsNext, place_of}
use Rattle.tdb_walk.specs.Way.{lock_byte, next_chain}
use Rattle.tdb_walk.specs.ByteLocks.{IsKeptFrom}
use Rattle.tdb_walk.specs.Cursors.{At, LockLed, rested, byte_of, kind_of, covers, stage_of, spared_of}
use Rattle.tdb_walk.specs.InLaw.{CursorReady, IsTurn, goal_of, spot_in, spot_next, own_next, strengths}
use Rattle.tdb_walk.proofs.Coming.{left_of, left_unentered}
use Rattle.tdb_walk.proofs.Explicit.{one, one_at}
use Rattle.tdb_walk.proofs.Holding.{stage_held}
use Rattle.tdb_walk.proofs.HeldOn.{holds_now, isnt, some}
use Rattle.tdb_walk.proofs.HeldAfter.{walk_kind, memory_reply}
use Rattle.tdb_walk.proofs.HeldAfter.WalkKind.{walk_goes, walk_leaves, walk_closes}
use Rattle.tdb_walk.proofs.CursorActs.{CursorActs}
use Rattle.tdb_walk.proofs.LockTurned.{lock_goes, lock_waits}
use Rattle.tdb_walk.proofs.EndTurned.{starves_turned, spared_end, spared_close}

module _ (f : Form) (own : HeldLocks) (x : Own) (w : WalkCommand) (n who : ℕ) (ps : List Piece) (a b : List ℕ) (v : View) (chain off : ℕ) (stage : Stage) (over : Bool) (R : CursorReady f own x w (record { place = On chain off; stage = stage }) over n who ps)
    (same_map : image_map f b ≡ image_map f a) (same_number : word f.order b sequence_at ≡ word f.order a sequence_at) where
  abbrev pub at : Stage → At
  at s = record { place = On chain off; stage = s }

  abbrev pub ActsTo : WalkCommand → At → LawTurn → Type 0
  ActsTo c later turn =
      CursorActs f x (own_next f c n x (image_map f a) turn) c n who (spot_in (at stage) over) (spot_next turn c later) v (strengths ps) (image_map f a) (image_map f b) (word f.order a sequence_at) (word f.order b sequence_at) turn

  pub carried : (later later2 : At) (turn turn2 : LawTurn) → later ≡ later2 → turn ≡ turn2 → ActsTo w later2 turn2 → ActsTo w later turn
  carried later later2 turn turn2 is says done = subst (λ l. ActsTo w l turn) (sym is) (subst (λ t. ActsTo w later2 t) (sym says) done)

  has : is_some x.cursor ≡ true
  has = some f own x w n who ps chain off stage over R

  held_is : (z : ℕ) → strengths ps who z ≡ max (max (one off 1 z) (stage_held chain stage z)) (explicit_held f x z)
  held_is = holds_now f own x w n who ps chain off stage over R

  least : (z : ℕ) → explicit_held f x z ≤ strengths ps who z
  least z = let is = held_is z in omega (arith, is)

  -- no memory for a lock or for a purge
  pub on_memory : (later : At) (turn : LawTurn) → later ≡ rested (spared_of (goal_of w) (On chain off)) → turn ≡ LawTurn.Ends LawReply.Memory → ActsTo w later turn
  on_memory later turn is says = elim (walk_kind w x has) [
    | walk_goes moving past ↦
        carried later (rested Past) turn (LawTurn.Ends LawReply.Memory) (is ∙ ap rested (past (On chain off))) says (starves_turned f x R.outside n who ps a b v (spot_in (at stage) over) same_map same_number w moving)
    | walk_leaves e ↦
        carried later (rested (On chain off)) turn (LawTurn.Ends LawReply.Memory) (is ∙ ap (λ c. rested (spared_of (goal_of c) (On chain off))) e) says
        (subst (λ c. ActsTo c (rested (On chain off)) (LawTurn.Ends LawReply.Memory)) (sym e) (spared_end f x R.outside n who ps a b v (spot_in (at stage) over) same_map same_number chain off refl has))
    | walk_closes e ↦
        carried later later turn (LawTurn.Ends LawReply.Memory) refl says
        (subst (λ c. ActsTo c later (LawTurn.Ends LawReply.Memory)) (sym e) (spared_close f x R.outside n who ps a b v (spot_in (at stage) over) same_map same_number later has))
  ]

  -- a turn that takes a lock
  pub on_lock : (lock : StepLock) → spot_in (at (stage_of lock)) false ≡ decided (spot_in (at stage) over) v n → ((z : ℕ) → wanted f (OnWalk w) x (decided (spot_in (at stage) over) v n) v n z ≡ one (byte_of lock) (strength (Some (kind_of lock))) z)
      → (covers own lock ≡ true → strength (Some (kind_of lock)) ≤ explicit_held f x (byte_of lock)) → (later : At) (did : Turn) (turn : LawTurn) → LockLed ps (who + 1) own lock (spared_of (goal_of w) (On chain off)) (at stage) later did → IsTurn did turn → ActsTo w later turn
  on_lock lock left want_is enough later Turn.Step turn led says =
      carried later (at (stage_of lock)) turn LawTurn.Step led.0 says
      (lock_goes f x R.outside w n who ps a b v chain off stage over (byte_of lock) (kind_of lock) (covers own lock) same_map same_number (isnt f own x w n who ps chain off stage over R) least R.apart want_is enough (stage_of lock) left led.1)
  on_lock lock left want_is enough later (Turn.Blocked other byte) turn led (o, from, says) =
      carried later (at stage) turn (LawTurn.Blocked o byte) led.0 says
      (lock_waits f x R.outside w n who ps a b v chain off stage over (byte_of lock) (kind_of lock) (covers own lock) same_map same_number (isnt f own x w n who ps chain off stage over R) least R.apart want_is enough o byte
      (subst (λ q. IsKeptFrom (covers own lock) ps (who + 1) (byte_of lock) (kind_of lock) q byte) from led.1))
  on_lock lock left want_is enough later (Turn.Done reply) turn led (r, is, says) = on_memory later turn led.1 (says ∙ ap LawTurn.Ends (memory_reply reply r led.0 is))

  -- a move along its own chain holds that
  pub own_chain : (stage ≡ Reading) ⊎ (stage ≡ Freeing) → (live : Live) → live.chain < next_chain f (On chain off) → IsNext f a (place_of (On chain off)) (Some live) → 1 ≤ strengths ps who (lock_byte live.chain)
  own_chain holding live early next =
      let un = left_unentered (chains_in f a) (on_record chain off) live.chain (left_of (chains_in f a) (on_record chain off) live.chain next.0 next.1.first) in
      let here : lock_byte live.chain ≡ lock_byte chain = omega (arith, un, early) in
      let is = held_is (lock_byte live.chain) in
      let one_there = locked_here (lock_byte live.chain) here holding in
      omega (arith, is, one_there)
    where
      locked_here : (z : ℕ) → z ≡ lock_byte chain → (stage ≡ Reading) ⊎ (stage ≡ Freeing) → 1 ≤ stage_held chain stage z
      locked_here z here (inl e) = subst (λ s. 1 ≤ stage_held chain s z) (sym e) (let at_it = one_at (lock_byte chain) 1 z here in omega (arith, at_it))
      locked_here z here (inr e) = subst (λ s. 1 ≤ stage_held chain s z) (sym e) (let at_it = one_at (lock_byte chain) 2 z here in omega (arith, at_it))
