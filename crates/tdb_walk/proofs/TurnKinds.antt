-- The kinds of turns of a cursor, by where it stands and how far its command is, whatever the bytes of the file are.
use Rattle.std.proofs.Common.{◌≡◌, ℕ, ◌+◌, ◌<◌, Bool, true, false, List, None, is_some, refl, ◌∙◌, ap, subst, inl, inr, ◌⊎◌, arith}
use Rattle.std.proofs.lemmas.Bool.{cases_Bool}
use Rattle.tdb_space.specs.Form.{Form}
use Rattle.tdb_locks.specs.HeldLocks.{HeldLocks}
use Rattle.tdb_locks.specs.LockTable.{held}
use Rattle.tdb_locks.specs.declared.piece.Piece.{Piece}
use Rattle.tdb_locks.specs.declared.turn.Reply.{Reply}
use Rattle.tdb_locks.specs.declared.turn.Turn.{Turn}
use Rattle.tdb_law.specs.Commands.{WalkCommand}
use Rattle.tdb_law.specs.Commands.WalkCommand.{First, Next, EndWalk, Close}
use Rattle.tdb_law.specs.Openers.{Own}
use Rattle.tdb_law.specs.Ends.{walk_ends}
use Rattle.tdb_law.specs.Outcomes.{walk_moves}
use Rattle.tdb_walk.specs.declared.standing.Standing.{Standing}
use Rattle.tdb_walk.specs.declared.standing.Standing.TheVariants.{Before, On, Past}
use Rattle.tdb_walk.specs.declared.stage.Stage.{Stage}
use Rattle.tdb_walk.specs.declared.stage.Stage.TheVariants.{Rested, Reading, Writing, Freeing}
use Rattle.tdb_walk.specs.declared.stage.StepLock.{StepLock}
use Rattle.tdb_walk.specs.declared.stage.StepLock.TheVariants.{ReadChain, WriteChain, FreeList}
use Rattle.tdb_walk.specs.declared.stage.Goal.TheVariants as Goals
use Rattle.tdb_walk.specs.declared.stage.Act.{Act}
use Rattle.tdb_walk.specs.declared.stage.Act.TheVariants.{Lock, Move, End}
use Rattle.tdb_walk.specs.Cursors.{At, LeaveLed, LockLed, StepLed, StepTaken, WentTo, act_of, dead_of, held_after, held_locked, held_moved, let_go, spared_of, stage_of}
use Rattle.tdb_walk.specs.InLaw.{CursorReady, StandsAfter, goal_of}
use Rattle.tdb_walk.proofs.Rows.{never}
use Rattle.tdb_walk.proofs.HeldOn.{LockFits, shown_of, write_fits, read_fits, free_fits}

-- A turn takes a lock, where the cursor stands on a record; or it moves; or it ends a leave.
pub data TurnKind (f : Form) (own : HeldLocks) (x : Own) (w : WalkCommand) (place : Standing) (stage : Stage) (later : At) (n who : ℕ) (ps qs : List Piece) (did : Turn) : Type 0 where
  kind_locks : (chain off : ℕ) (lock : StepLock) → place ≡ On chain off → LockFits f own x chain off stage lock → n < 2 → StandsAfter f own x w (On chain off) (stage_of lock) false (n + 1)
      → LockLed ps (who + 1) own lock (spared_of (goal_of w) (On chain off)) (record { place = On chain off; stage = stage }) later did
      → ((z : ℕ) → held qs (who + 1) z ≡ held_locked own (who + 1) (record { place = On chain off; stage = stage }) later.place lock did (held ps) (who + 1) z) → TurnKind f own x w place stage later n who ps qs did
  kind_moves : walk_moves w x ≡ true → walk_ends w x.cursor n ≡ true → WentTo f ps (who + 1) own (record { place = place; stage = stage }) later did
      → ((z : ℕ) → held qs (who + 1) z ≡ held_moved own (who + 1) (record { place = place; stage = stage }) later.place did (held ps) (who + 1) z) → TurnKind f own x w place stage later n who ps qs did
  kind_leaves : (w ≡ EndWalk) ⊎ (w ≡ Close) → walk_ends w x.cursor n ≡ true → LeaveLed (dead_of place stage) Past (spared_of (goal_of w) place) (Turn.Done Reply.Ok) later did
      → ((z : ℕ) → held qs (who + 1) z ≡ let_go own (who + 1) place stage later.place (held ps) (who + 1) z) → TurnKind f own x w place stage later n who ps qs did

module _ (f : Form) (own : HeldLocks) (x : Own) (later : At) (over : Bool) (n who : ℕ) (ps qs : List Piece) (img : List ℕ) (stood_on : List ℕ) (read_only : Bool) (did : Turn) (told : Type 0) where
  abbrev at_ : Standing → Stage → At
  at_ place stage = record { place = place; stage = stage }

  abbrev Ready : WalkCommand → Standing → Stage → Type 0
  Ready w place stage = CursorReady f own x w (at_ place stage) over n who ps

  abbrev Took : WalkCommand → Standing → Stage → Type 0
  Took w place stage = StepTaken told f img ps qs (who + 1) own stood_on (goal_of w) read_only (at_ place stage) later did

  abbrev Kind_ : WalkCommand → Standing → Stage → Type 0
  Kind_ w place stage = TurnKind f own x w place stage later n who ps qs did

  -- the turn does what follows from its act
  led_by : (w : WalkCommand) (place : Standing) (stage : Stage) (T : Took w place stage) (act : Act) → act_of (goal_of w) place stage T.due ≡ act → StepLed f ps (who + 1) own act (spared_of (goal_of w) place) (at_ place stage) later did
  led_by w place stage T act is = subst (λ c. StepLed f ps (who + 1) own c (spared_of (goal_of w) place) (at_ place stage) later did) is T.led

  held_by : (w : WalkCommand) (place : Standing) (stage : Stage) (T : Took w place stage) (act : Act) → act_of (goal_of w) place stage T.due ≡ act → (z : ℕ) → held qs (who + 1) z ≡ held_after own (who + 1) act (at_ place stage) later did (held ps) (who + 1) z
  held_by w place stage T act is z = T.holds (who + 1) z ∙ ap (λ c. held_after own (who + 1) c (at_ place stage) later did (held ps) (who + 1) z) is

  locks_by : (w : WalkCommand) (chain off : ℕ) (stage : Stage) (lock : StepLock) (T : Took w (On chain off) stage) → act_of (goal_of w) (On chain off) stage T.due ≡ Lock lock → LockFits f own x chain off stage lock → n < 2
      → StandsAfter f own x w (On chain off) (stage_of lock) false (n + 1) → Kind_ w (On chain off) stage
  locks_by w chain off stage lock T is fits early next = kind_locks chain off lock refl fits early next (led_by w (On chain off) stage T (Lock lock) is) (held_by w (On chain off) stage T (Lock lock) is)

  moves_by : (w : WalkCommand) (place : Standing) (stage : Stage) (from : Standing) (T : Took w place stage) → act_of (goal_of w) place stage T.due ≡ Move from → walk_moves w x ≡ true → walk_ends w x.cursor n ≡ true → Kind_ w place stage
  moves_by w place stage from T is moving ending = kind_moves moving ending (led_by w place stage T (Move from) is) (held_by w place stage T (Move from) is)

  leaves_by : (w : WalkCommand) (place : Standing) (stage : Stage) (T : Took w place stage) → act_of (goal_of w) place stage T.due ≡ End → (w ≡ EndWalk) ⊎ (w ≡ Close) → walk_ends w x.cursor n ≡ true → Kind_ w place stage
  leaves_by w place stage T is kind ending = kind_leaves kind ending (led_by w place stage T End is) (held_by w place stage T End is)

  -- on a record, before a command
  rested_kind : (w : WalkCommand) (chain off : ℕ) → Ready w (On chain off) Rested → (T : Took w (On chain off) Rested) → (T.due ≡ true) ⊎ (T.due ≡ false) → Kind_ w (On chain off) Rested
  rested_kind w chain off R T (inl due) =
      let S = (shown_of f own x w chain off Rested over n R.stands).0 in
      let steps : n ≡ 0 = R.stands.2 in
      let writes = T.writes due in
      locks_by w chain off Rested (WriteChain chain) T (ap (λ z. act_of (goal_of w) (On chain off) Rested z) due) (write_fits f R.few own x R.explicit chain off S writes) (omega (arith, steps)) (S, refl, omega (arith, steps), writes)
  rested_kind First chain off R T (inr due) =
      let S = (shown_of f own x First chain off Rested over n R.stands).0 in
      moves_by First (On chain off) Rested (Before 0) T (ap (λ z. act_of Goals.First (On chain off) Rested z) due) refl (λ i. walk_ends First (S.shown i) (R.stands.2 i))
  rested_kind Next chain off R T (inr due) =
      let S = (shown_of f own x Next chain off Rested over n R.stands).0 in
      let steps : n ≡ 0 = R.stands.2 in
      locks_by Next chain off Rested (ReadChain chain) T (ap (λ z. act_of Goals.Next (On chain off) Rested z) due) (read_fits f R.few own x R.explicit chain off S) (omega (arith, steps)) (S, refl, omega (arith, steps), refl)
  rested_kind EndWalk chain off R T (inr due) =
      let S = (shown_of f own x EndWalk chain off Rested over n R.stands).0 in
      leaves_by EndWalk (On chain off) Rested T (ap (λ z. act_of Goals.Leave (On chain off) Rested z) due) (inl refl) (λ i. walk_ends EndWalk (S.shown i) (R.stands.2 i))
  rested_kind Close chain off R T (inr due) =
      let S = (shown_of f own x Close chain off Rested over n R.stands).0 in
      leaves_by Close (On chain off) Rested T (ap (λ z. act_of Goals.Leave (On chain off) Rested z) due) (inr refl) (λ i. walk_ends Close (S.shown i) (R.stands.2 i))

  -- with its chain locked for reading
  reading_kind : (w : WalkCommand) (chain off : ℕ) → w ≡ Next → Ready w (On chain off) Reading → Took w (On chain off) Reading → Kind_ w (On chain off) Reading
  reading_kind First chain off next R T = cc
  reading_kind Next chain off next R T =
      let S = (shown_of f own x Next chain off Reading over n R.stands).0 in
      moves_by Next (On chain off) Reading (On chain off) T refl (ap is_some S.shown) (λ i. walk_ends Next (S.shown i) (R.stands.2 i))
  reading_kind EndWalk chain off next R T = cc
  reading_kind Close chain off next R T = cc

  -- with its chain locked for writing
  writing_kind : (w : WalkCommand) (chain off : ℕ) → Ready w (On chain off) Writing → Took w (On chain off) Writing → Kind_ w (On chain off) Writing
  writing_kind w chain off R T =
      let S = (shown_of f own x w chain off Writing over n R.stands).0 in
      let steps : n ≡ 1 = R.stands.2 in
      locks_by w chain off Writing FreeList T refl (free_fits f R.few own x R.explicit chain off S) (omega (arith, steps)) (S, refl, omega (arith, steps), R.stands.3)

  -- with both locks of a purge
  freeing_kind : (w : WalkCommand) (chain off : ℕ) → Ready w (On chain off) Freeing → Took w (On chain off) Freeing → Kind_ w (On chain off) Freeing
  freeing_kind First chain off R T =
      let S = (shown_of f own x First chain off Freeing over n R.stands).0 in
      moves_by First (On chain off) Freeing (Before 0) T refl refl (λ i. walk_ends First (S.shown i) (R.stands.2 i))
  freeing_kind Next chain off R T =
      let S = (shown_of f own x Next chain off Freeing over n R.stands).0 in
      moves_by Next (On chain off) Freeing (On chain off) T refl (ap is_some S.shown) (λ i. walk_ends Next (S.shown i) (R.stands.2 i))
  freeing_kind EndWalk chain off R T =
      let S = (shown_of f own x EndWalk chain off Freeing over n R.stands).0 in
      leaves_by EndWalk (On chain off) Freeing T refl (inl refl) (λ i. walk_ends EndWalk (S.shown i) (R.stands.2 i))
  freeing_kind Close chain off R T =
      let S = (shown_of f own x Close chain off Freeing over n R.stands).0 in
      leaves_by Close (On chain off) Freeing T refl (inr refl) (λ i. walk_ends Close (S.shown i) (R.stands.2 i))

  -- off the records
  before_kind : (w : WalkCommand) (chain : ℕ) (stage : Stage) → Took w (Before chain) stage
      → ((over ≡ true) × (walk_moves w x ≡ true) × (walk_ends w x.cursor n ≡ true)) ⊎ ((over ≡ false) × (chain ≡ 0) × (x.cursor ≡ None) × (w ≡ First) × (n ≡ 0)) → Kind_ w (Before chain) stage
  before_kind First chain stage T (inl (gone, moving, ending)) = moves_by First (Before chain) stage (Before chain) T refl moving ending
  before_kind Next chain stage T (inl (gone, moving, ending)) = moves_by Next (Before chain) stage (Before chain) T refl moving ending
  before_kind EndWalk chain stage T (inl (gone, moving, ending)) = absurd (never moving)
  before_kind Close chain stage T (inl (gone, moving, ending)) = absurd (never moving)
  before_kind First chain stage T (inr (isnt, here, nothing, is, steps)) = moves_by First (Before chain) stage (Before chain) T refl refl (λ i. walk_ends First (nothing i) (steps i))
  before_kind Next chain stage T (inr (isnt, here, nothing, is, steps)) = cc
  before_kind EndWalk chain stage T (inr (isnt, here, nothing, is, steps)) = cc
  before_kind Close chain stage T (inr (isnt, here, nothing, is, steps)) = cc

  past_kind : (w : WalkCommand) (stage : Stage) → Took w Past stage → x.cursor ≡ None → n ≡ 0 → (w ≡ Next → ⊥) → Kind_ w Past stage
  past_kind First stage T nothing steps apart = moves_by First Past stage (Before 0) T refl refl (λ i. walk_ends First (nothing i) (steps i))
  past_kind Next stage T nothing steps apart = absurd (apart refl)
  past_kind EndWalk stage T nothing steps apart = leaves_by EndWalk Past stage T refl (inl refl) (λ i. walk_ends EndWalk (nothing i) (steps i))
  past_kind Close stage T nothing steps apart = leaves_by Close Past stage T refl (inr refl) (λ i. walk_ends Close (nothing i) (steps i))

  pub turn_kind : (w : WalkCommand) (place : Standing) (stage : Stage) → Ready w place stage → Took w place stage → Kind_ w place stage
  turn_kind w (On chain off) Rested R T = rested_kind w chain off R T (cases_Bool T.due)
  turn_kind w (On chain off) Reading R T = reading_kind w chain off R.stands.3 R T
  turn_kind w (On chain off) Writing R T = writing_kind w chain off R T
  turn_kind w (On chain off) Freeing R T = freeing_kind w chain off R T
  turn_kind w (Before chain) stage R T = before_kind w chain stage T R.stands.1
  turn_kind w Past stage R T = past_kind w stage T R.stands.1 R.stands.3 R.stands.4
