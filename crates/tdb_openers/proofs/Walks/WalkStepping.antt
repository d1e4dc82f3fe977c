-- A turn of a command on the cursor of the opener with a number, as a turn of its world.
use Rattle.std.proofs.Common.{Result, Ok, Err, IfOk, OnOk, IsTrue, ◌≡◌, ℕ, zero, suc, ◌+◌, ◌-◌, ◌≤◌, List, [], ◌∷◌, set, slice_index_or, slice_set, Bool, Some, None, refl, sym, ◌∙◌, ap, subst, arith}
use Rattle.tdb_words.specs.declared.header.Header.{Header}
use Rattle.tdb_space.specs.Form.{Form, form_in}
use Rattle.tdb_space.specs.Extents.{HandPair}
use Rattle.tdb_locks.specs.declared.piece.Piece.{Piece}
use Rattle.tdb_locks.specs.declared.turn.Turn.{Turn}
use Rattle.tdb_locks.specs.declared.turn.Turn.TheVariants.{Step}
use Rattle.tdb_law.specs.Commands.{WalkCommand}
use Rattle.tdb_law.specs.Turned.{Turned}
use Rattle.tdb_commands.specs.InLaw.{law_opener, law_turn}
use Rattle.tdb_walk.specs.ByteLocks.{HoldsWords}
use Rattle.tdb_walk.specs.Cursors.{At, StepStops, dead_of}
use Rattle.tdb_walk.specs.Purging.{PurgeBroken}
use Rattle.tdb_walk.specs.InLaw.{goal_of, is_before}
use Rattle.tdb_walk.specs.Spots.{LacksCursor, spot_number}
use Rattle.tdb_commands.specs.declared.options.Options.{Options}
use Rattle.tdb_openers.specs.declared.opener.Opener.{Opener}
use Rattle.tdb_openers.specs.declared.job.Job.{Job}
use Rattle.tdb_openers.specs.declared.job.Job.TheVariants as Jobs
use Rattle.tdb_openers.specs.declared.job.Task.{Task}
use Rattle.tdb_openers.specs.Openers.{own_of, spots_of, walk_in, walk_of}
use Rattle.tdb_openers.specs.States.{state_of, WorldStands, FileStands}
use Rattle.tdb_openers.specs.Jobs.{task_after}
use Rattle.tdb_openers.specs.Cursors.{CursorKnows}
use Rattle.tdb_openers.specs.Stopped.{JobStopped}
use Rattle.tdb_openers.specs.Laws.{HasTask, IsPut, other_hands}
use Rattle.tdb_openers.specs.Calm.{WritesNoRecord, IsMidway}
use Rattle.tdb_openers.specs.Walked.{WalkTurned}
use Rattle.tdb_openers.specs.Worlds.{IsBusy, law_of_task}
use Rattle.tdb_openers.proofs.Joining.Putting.{numbered, put_numbered, by_number}
use Rattle.tdb_openers.proofs.PlainTurns.Calm.{walk_calm, walk_spared}
use Rattle.tdb_openers.proofs.Walks.Purgers.{walks_command}
use Rattle.tdb_openers.proofs.Walks.WalkReady.{walk_ready, walk_words_held, walk_asked, walk_few, image_accepted}
use Rattle.tdb_openers.proofs.Walks.WalkHeld.{walk_keeps_world}
use Rattle.tdb_openers.proofs.Walks.WalkFiled.{walk_keeps_file}
use Rattle.tdb_openers.proofs.Walks.WalkLifted.{walk_is_turned}

-- what holds of an answer that is Ok, by a fact of it
pub ok_of : {V F : Type 0} (r : Result V F) (P : V → Type 0) (R : Type 0) → ((v : V) → P v → R) → IfOk r P → OnOk r R
ok_of (Ok v) P R then p = then v p
ok_of (Err e) P R then p = tt

-- the entries in the list of spots, where another opener is put
pub spots_put : (xs : List Opener) (i : ℕ) (y : Opener) → spots_of (slice_set xs i y) ≡ set (spots_of xs) i (spot_number y.walk.cursor.place)
spots_put [] i y = refl
spots_put (x ∷ xs) zero y = refl
spots_put (x ∷ xs) (suc i) y = ap (λ l. spot_number x.walk.cursor.place ∷ l) (spots_put xs i y)

-- what a turn of a command on the cursor of the opener d, which is y after it, makes of it, of the lock table and of
-- the file
abbrev pub Walks : Bool → Form → Bool → Opener → Opener → ℕ → List Piece → List Piece → List ℕ → WalkCommand → List ℕ → List ℕ → ℕ → Turn → Type 0
Walks tells f read_only d y who ps qs spots w a b size turn = (t : Task) → d.task ≡ Some t → WalkTurned tells f a b size ps qs who (set spots (who - 1) 0) w read_only t d y turn

-- what a turn of a job on the cursor leaves where it fails
job_stopped : (f : Form) (a b : List ℕ) (cursor : At) (job : Job) (n : ℕ) (others : List HandPair) (w : WalkCommand) → walk_in job ≡ Some w → PurgeBroken f a b (dead_of cursor.place cursor.stage) others → JobStopped f a b cursor job n others
job_stopped f a b cursor (Jobs.Refused command reply) n others w e broken = absurd (cc e)
job_stopped f a b cursor (Jobs.Plain d) n others w e broken = absurd (cc e)
job_stopped f a b cursor (Jobs.Check checking) n others w e broken = absurd (cc e)
job_stopped f a b cursor (Jobs.Locking locking) n others w e broken = absurd (cc e)
job_stopped f a b cursor Jobs.Seqnum n others w e broken = absurd (cc e)
job_stopped f a b cursor (Jobs.Walk walking) n others w e broken = broken

module _ (header : Header) (options : Options) (xs : List Opener) (ps : List Piece) (a : List ℕ) (size who : ℕ) (x d : Opener) (t : Task)
    (B : IsBusy (record { header = header; options = options; openers = xs; table = ps }) who x t) (item : d ≡ slice_index_or xs (who - 1) d)
    (W : WorldStands (form_in header) options xs ps a size) (w : WalkCommand) (on_cursor : walk_of d.task ≡ Some w) where
  same : d ≡ x
  same = numbered xs who B.number.place x d B.number.counted B.number.there item

  has : HasTask xs B.number.place d t
  has = record { there = B.number.there ∙ ap Some (sym same); busy = ap (λ z. z.task) same ∙ B.busy }

  on : walk_in t.job ≡ Some w
  on = sym (ap walk_of has.busy) ∙ on_cursor

  pub walk_busy : (u : Task) × (d.task ≡ Some u) × (u.steps ≤ 2)
  walk_busy = (t, has.busy, walk_few (form_in header) options xs ps a size B.number.place d t w W has on)

  pub words_before : HoldsWords d.held who ps
  words_before = subst (λ o. HoldsWords d.held o ps) (sym B.number.counted) (walk_words_held (form_in header) options xs ps a size B.number.place d t w W has on)

  -- an opener that holds no record for writing isn't going to purge one
  pub calm_before : WritesNoRecord ps (law_opener who) → dead_of d.walk.cursor.place d.walk.cursor.stage ≡ None
  calm_before calm = walk_calm (form_in header) options xs ps a size B.number.place d W has.there (subst (WritesNoRecord ps) (by_number who B.number.place B.number.counted) calm)

  -- nor is one that isn't in the middle of a change
  pub spared_before : (IsMidway (form_in header) (own_of options x) (law_of_task t) → ⊥) → dead_of d.walk.cursor.place d.walk.cursor.stage ≡ None
  spared_before spares =
      walk_spared (form_in header) d.held (own_of options d) w d.walk.cursor.place d.walk.cursor.stage (is_before d.walk.cursor.place) t.steps refl
      (walk_ready (form_in header) options xs ps a size B.number.place d t w W has on).stands
      (subst (λ c. IsMidway (form_in header) (own_of options d) (record { command = c; steps = t.steps }) → ⊥) (walks_command t.job w on)
      (subst (λ z. IsMidway (form_in header) (own_of options z) (law_of_task t) → ⊥) (sym same) spares))

  pub asked_before : LacksCursor (goal_of w) d.walk.shown → ⊥
  asked_before = walk_asked (form_in header) options xs ps a size B.number.place d t w W has on

  -- where its turn fails
  pub walk_stopped : FileStands (form_in header) xs a → (b : List ℕ) → StepStops (form_in header) a b d.walk.cursor → JobStopped (form_in header) a b x.walk.cursor t.job t.steps (other_hands xs (law_opener who))
  walk_stopped F b stops =
      subst (λ p. JobStopped (form_in header) a b x.walk.cursor t.job t.steps (other_hands xs p)) (sym (by_number who B.number.place B.number.counted))
      (subst (λ (z : Opener). JobStopped (form_in header) a b z.walk.cursor t.job t.steps (other_hands xs B.number.place)) same
      (job_stopped (form_in header) a b d.walk.cursor t.job t.steps (other_hands xs B.number.place) w on
      (stops (other_hands xs B.number.place) (image_accepted (form_in header) options xs ps a size B.number.place d t w W has on F) (subst (CursorKnows (form_in header) a) has.there (F.cursors B.number.place)))))

  module _ (tells : Bool) (y : Opener) (qs : List Piece) (b : List ℕ) (turn : Turn) (L : Walks tells (form_in header) options.read_only d y who ps qs (spots_of xs) w a b size turn) where
    put : IsPut xs B.number.place y (slice_set xs (who - 1) y)
    put = put_numbered xs who B.number.place x y B.number.counted B.number.there

    turned : WalkTurned tells (form_in header) a b size ps qs (B.number.place + 1) (set (spots_of xs) B.number.place 0) w options.read_only t d y turn
    turned =
        subst (λ k. WalkTurned tells (form_in header) a b size ps qs (B.number.place + 1) (set (spots_of xs) k 0) w options.read_only t d y turn) (by_number who B.number.place B.number.counted)
        (subst (λ o. WalkTurned tells (form_in header) a b size ps qs o (set (spots_of xs) (who - 1) 0) w options.read_only t d y turn) B.number.counted (L t has.busy))

    -- after a step the opener has a command
    pub walk_busy_after : turn ≡ Step → (z : Opener) × (u : Task) × IsBusy (record { header = header; options = options; openers = slice_set xs (who - 1) y; table = qs }) who z u
    walk_busy_after is =
        (y, record { steps = t.steps + 1; job = t.job }, record { number = record { place = B.number.place; counted = B.number.counted; there = put.there }; busy = turned.task ∙ ap (λ d. task_after t.job t.steps (law_turn d)) is })

    -- after it the world stands
    pub walk_world_after : (c : List ℕ) (longer : ℕ) → longer ≡ size → WorldStands (form_in header) options (slice_set xs (who - 1) y) qs c longer
    walk_world_after c longer equal =
        let short = W.short in
        walk_keeps_world (form_in header) options xs (slice_set xs (who - 1) y) ps qs a b c size longer B.number.place d y t w (set (spots_of xs) B.number.place 0) turn tells W has on put turned (omega (arith, equal)) (omega (arith, equal, short))

    module _ (told : IsTrue tells) (F : FileStands (form_in header) xs a) where
      -- so do the bytes of its file
      pub walk_file_after : FileStands (form_in header) (slice_set xs (who - 1) y) b
      walk_file_after = walk_keeps_file (form_in header) options xs (slice_set xs (who - 1) y) ps qs a b size B.number.place d y t w turn tells told W F has on put turned

      -- and it was a turn of the law
      pub walk_turned_after : Turned (form_in header) (state_of (form_in header) options xs ps a) (law_opener who) (law_of_task t) (law_turn turn) (state_of (form_in header) options (slice_set xs (who - 1) y) qs b)
      walk_turned_after = subst (λ o. Turned (form_in header) (state_of (form_in header) options xs ps a) o (law_of_task t) (law_turn turn) (state_of (form_in header) options (slice_set xs (who - 1) y) qs b)) (sym (by_number who B.number.place B.number.counted))
          (walk_is_turned (form_in header) options xs (slice_set xs (who - 1) y) ps qs a b size B.number.place d y t w turn tells told W F has on put turned)
