-- A turn of the opener with a number, as a turn of its world.
use Rattle.std.proofs.Common.{Result, Ok, Err, IfOk, OnOk, ◌≡◌, ℕ, ◌+◌, ◌-◌, ◌≤◌, List, slice_get, slice_index_or, slice_set, Option, Some, None, refl, sym, ◌∙◌, ap, subst}
use Rattle.tdb_words.specs.declared.header.Header.{Header}
use Rattle.tdb_space.specs.Form.{Form, form_in}
use Rattle.tdb_space.specs.Extents.{HandPair}
use Rattle.tdb_locks.specs.declared.piece.Piece.{Piece}
use Rattle.tdb_locks.specs.declared.turn.Turn.{Turn}
use Rattle.tdb_locks.specs.declared.turn.Turn.TheVariants.{Step}
use Rattle.tdb_law.specs.Openers.{View, Task as LawTask}
use Rattle.tdb_law.specs.Effects.{task_left}
use Rattle.tdb_law.specs.Turned.{Turned}
use Rattle.tdb_commands.specs.InLaw.{law_opener, law_turn}
use Rattle.tdb_commands.specs.declared.options.Options.{Options}
use Rattle.tdb_openers.specs.declared.opener.Opener.{Opener}
use Rattle.tdb_openers.specs.declared.job.Task.{Task}
use Rattle.tdb_openers.specs.Openers.{rest_of, own_of, own_at, spot_by, walk_in, walk_of, steps_of, task_at, place_at, spots_of, command_in, law_task, OpenerStands}
use Rattle.tdb_openers.specs.States.{state_of, WorldStands, FileStands}
use Rattle.tdb_openers.specs.Cursors.{is_stood, CursorsBeside, LeavesCursors}
use Rattle.tdb_openers.specs.Turning.{resting, OpenerHolds, TurnsLocks, TurnsFile, ImageBefore, TurnsImage}
use Rattle.tdb_openers.specs.Laws.{HasTask, IsPut, MayStand, other_hands, view_in}
use Rattle.tdb_openers.specs.Worlds.{IsBusy, law_of_task}
use Rattle.tdb_openers.proofs.Joining.Putting.{numbered, put_numbered, by_number}
use Rattle.tdb_openers.proofs.Walks.Rests.{spot_rests, walk_rests}
use Rattle.tdb_openers.proofs.PlainTurns.Standing.{opener_is_ready, walk_there, turn_keeps_world}
use Rattle.tdb_openers.proofs.Joining.Working.{image_is_ready}
use Rattle.tdb_openers.proofs.Files.Filing.{turn_keeps_file}
use Rattle.tdb_openers.proofs.Joining.Stood.{cursors_are_beside, stands_among}
use Rattle.tdb_openers.proofs.PlainTurns.Lifting.{turn_is_turned}

-- what holds of an answer that is Ok, by two facts of it; and of each such answer, by two
pub ok_so : {V F : Type 0} (r : Result V F) (P : V → Type 0) (Q R : Type 0) → ((v : V) → P v → Q → R) → IfOk r P → OnOk r Q → OnOk r R
ok_so (Ok v) P Q R both p q = both v p q
ok_so (Err e) P Q R both p q = tt

pub ok_both : {V F : Type 0} (r : Result V F) (P Q : V → Type 0) (R : Type 0) → ((v : V) → P v → Q v → R) → IfOk r P → IfOk r Q → OnOk r R
ok_both (Ok v) P Q R both p q = both v p q
ok_both (Err e) P Q R both p q = tt

-- who has a task in the law's words has one
has_task : (o : Option Task) (l : LawTask) → law_task o ≡ Some l → (u : Task) × (o ≡ Some u)
has_task None l e = absurd (cc e)
has_task (Some u) l e = (u, refl)

-- what a turn of the opener d, which is y after it, makes of the lock table
abbrev pub Locked : Form → Options → Opener → Opener → ℕ → List Piece → List Piece → Turn → Type 0
Locked f options d y who ps qs turn = (t : Task) (n : ℕ) → d.task ≡ Some t → who ≡ n + 1
    → TurnsLocks f (own_of options d) (own_of options y) (resting (rest_of y.walk)) (command_in t.job) t.steps (law_task y.task) n ps qs (law_turn turn)

-- and of the file
abbrev pub Filed : Form → Options → Opener → Opener → ℕ → List Piece → List ℕ → List ℕ → List ℕ → Turn → Type 0
Filed f options d y who ps spots a b turn = (v : View) (t : Task) (n : ℕ) (others : List HandPair) → d.task ≡ Some t → who ≡ n + 1 → ImageBefore f t.job a others
    → TurnsFile f (own_of options d) (own_of options y) (resting (rest_of d.walk)) v (command_in t.job) t.steps n ps a b (law_turn turn) × TurnsImage f t y.task a b others
    × (CursorsBeside f a (is_stood spots) t → LeavesCursors f (own_of options d) t y.task (law_turn turn) a b (is_stood spots))

module _ (header : Header) (options : Options) (xs : List Opener) (ps : List Piece) (a : List ℕ) (size who : ℕ) (x d : Opener) (t : Task)
    (B : IsBusy (record { header = header; options = options; openers = xs; table = ps }) who x t) (item : d ≡ slice_index_or xs (who - 1) d)
    (W : WorldStands (form_in header) options xs ps a size) (off_cursor : walk_of d.task ≡ None) where
  same : d ≡ x
  same = numbered xs who B.number.place x d B.number.counted B.number.there item

  has : HasTask xs B.number.place d t
  has = record { there = B.number.there ∙ ap Some (sym same); busy = ap (λ z. z.task) same ∙ B.busy }

  -- before it the opener stands, and holds what it may
  pub stands_before : MayStand (form_in header) options size d
  stands_before = record {
    stands = subst (OpenerStands (form_in header) options size) has.there (W.openers_stand B.number.place);
    busy_live = λ u e. ap (λ z. (own_at options z).live) (sym has.there) ∙ W.sound.busy_there B.number.place (law_of_task u) (ap task_at has.there ∙ ap law_task e);
  }

  -- its cursor rests
  spot_d : spot_by d.walk.cursor ≡ resting (rest_of d.walk)
  spot_d = spot_rests (form_in header) d.walk
      (walk_rests (form_in header) d.held (own_of options d) (walk_of d.task) (steps_of d.task) d.walk.cursor (walk_there (form_in header) options xs ps a size B.number.place d W has.there) off_cursor)

  off_job : walk_in t.job ≡ None
  off_job = sym (ap walk_of has.busy) ∙ off_cursor

  -- a task of it is this one, at this place
  holds_at : (u : Task) → d.task ≡ Some u → OpenerHolds (form_in header) (own_of options d) (resting (rest_of d.walk)) (command_in u.job) u.steps B.number.place ps
  holds_at u e =
      subst (λ s. OpenerHolds (form_in header) (own_of options d) s (command_in u.job) u.steps B.number.place ps) spot_d
      (opener_is_ready (form_in header) options xs ps a size B.number.place d u W (record { there = has.there; busy = e }))

  pub holds_before : (u : Task) → d.task ≡ Some u → (n : ℕ) × (who ≡ n + 1) × OpenerHolds (form_in header) (own_of options d) (resting (rest_of d.walk)) (command_in u.job) u.steps n ps
  holds_before u e = (B.number.place, B.number.counted, holds_at u e)

  pub task_busy : d.task ≡ Some t
  task_busy = has.busy

  pub image_before : FileStands (form_in header) xs a → ImageBefore (form_in header) t.job a (other_hands xs B.number.place)
  image_before F = image_is_ready (form_in header) options xs ps a size B.number.place d t W F has

  module _ (y : Opener) (qs : List Piece) (b : List ℕ) (turn : Turn) (L : Locked (form_in header) options d y who ps qs turn) (still : y.walk ≡ d.walk) where
    put : IsPut xs B.number.place y (slice_set xs (who - 1) y)
    put = put_numbered xs who B.number.place x y B.number.counted B.number.there

    locked : TurnsLocks (form_in header) (own_of options d) (own_of options y) (spot_by y.walk.cursor) (command_in t.job) t.steps (law_task y.task) B.number.place ps qs (law_turn turn)
    locked =
        subst (λ s. TurnsLocks (form_in header) (own_of options d) (own_of options y) s (command_in t.job) t.steps (law_task y.task) B.number.place ps qs (law_turn turn))
        (sym (subst (λ w. spot_by w.cursor ≡ resting (rest_of w)) (sym still) spot_d)) (L t B.number.place has.busy B.number.counted)

    -- after a step the opener has a command
    pub busy_after : turn ≡ Step → (z : Opener) × (u : Task) × IsBusy (record { header = header; options = options; openers = slice_set xs (who - 1) y; table = qs }) who z u
    busy_after is =
        let left = has_task y.task _ (locked.leaves ∙ ap (λ l. task_left (command_in t.job) t.steps (law_turn l)) is) in
        (y, left.0, record { number = record { place = B.number.place; counted = B.number.counted; there = put.there }; busy = left.1 })

    -- after it the world stands
    pub world_after : (longer : ℕ) → MayStand (form_in header) options longer y → size ≤ longer → longer ≤ options.limit → WorldStands (form_in header) options (slice_set xs (who - 1) y) qs b longer
    world_after longer M more less = turn_keeps_world (form_in header) options xs (slice_set xs (who - 1) y) ps qs a b size longer B.number.place d y t (law_turn turn) W has put locked M more less

    module _ (F : FileStands (form_in header) xs a) (T : Filed (form_in header) options d y who ps (spots_of xs) a b turn) where
      abbrev view : View
      view = view_in (form_in header) options xs a B.number.place d t

      filed : TurnsFile (form_in header) (own_of options d) (own_of options y) (resting (rest_of d.walk)) view (command_in t.job) t.steps B.number.place ps a b (law_turn turn) × TurnsImage (form_in header) t y.task a b (other_hands xs B.number.place)
          × (CursorsBeside (form_in header) a (is_stood (spots_of xs)) t → LeavesCursors (form_in header) (own_of options d) t y.task (law_turn turn) a b (is_stood (spots_of xs)))
      filed = T view t B.number.place (other_hands xs B.number.place) has.busy B.number.counted (image_is_ready (form_in header) options xs ps a size B.number.place d t W F has)

      leaves : LeavesCursors (form_in header) (own_of options d) t y.task (law_turn turn) a b (is_stood (spots_of xs))
      leaves = filed.2 (cursors_are_beside (form_in header) options xs ps a size B.number.place d t W F has)

      filed_there : TurnsFile (form_in header) (own_of options d) (own_of options y) (spot_by d.walk.cursor) view (command_in t.job) t.steps B.number.place ps a b (law_turn turn)
      filed_there = subst (λ s. TurnsFile (form_in header) (own_of options d) (own_of options y) s view (command_in t.job) t.steps B.number.place ps a b (law_turn turn)) (sym spot_d) filed.0

      -- so do the bytes of its file
      pub file_after : FileStands (form_in header) (slice_set xs (who - 1) y) b
      file_after = turn_keeps_file (form_in header) options xs (slice_set xs (who - 1) y) ps a b size B.number.place d y t view (law_turn turn) W F has put filed_there filed.1 off_job still leaves

      -- and it was a turn of the law
      pub turned_after : Turned (form_in header) (state_of (form_in header) options xs ps a) (law_opener who) (law_of_task t) (law_turn turn) (state_of (form_in header) options (slice_set xs (who - 1) y) qs b)
      turned_after = subst (λ o. Turned (form_in header) (state_of (form_in header) options xs ps a) o (law_of_task t) (law_turn turn) (state_of (form_in header) options (slice_set xs (who - 1) y) qs b)) (sym (by_number who B.number.place B.number.counted))
          (turn_is_turned (form_in header) options xs (slice_set xs (who - 1) y) ps qs a b size B.number.place d y t (law_turn turn) W has put locked filed_there off_job still
          (λ o. leaves.walks (place_at (slice_get xs o)) (stands_among (form_in header) options xs ps a size W o)))
