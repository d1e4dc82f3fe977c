-- A turn of the opener aside is a turn of the whole state, by what it leaves of its stage, of the file and of the
-- openers.
use Rattle.std.proofs.Common.{◌≡◌, ◌≢◌, ◌⊎◌, ℕ, List, Bool, false, Some, None, is_some, refl, sym, ◌∙◌, ap, subst}
use Rattle.std.specs.Prelude.{slice_get}
use Rattle.tdb_disk.specs.History.{History}
use Rattle.tdb_space.specs.Form.{Form}
use Rattle.tdb_locks.specs.declared.piece.Piece.{Piece}
use Rattle.tdb_law.specs.Commands.{Turn}
use Rattle.tdb_law.specs.Commands.Turn.{Step, Blocked, Ends}
use Rattle.tdb_law.specs.Counting.{number_seen}
use Rattle.tdb_law.specs.Effects.{Effect, Finds, IsFirstConflict, IsFree, task_left}
use Rattle.tdb_law.specs.Images.{image_map}
use Rattle.tdb_law.specs.Layout.{IsOffRecords}
use Rattle.tdb_law.specs.Openers.{Map, Own, Task, seen}
use Rattle.tdb_law.specs.Outcomes.{moves}
use Rattle.tdb_law.specs.Turned.{Turned}
use Rattle.tdb_law.specs.Walks.{Walked}
use Rattle.tdb_law.specs.Walks.Walked.{walk_ends}
use Rattle.tdb_law.specs.World.{State}
use Rattle.tdb_steps.specs.Turns.{number_of}
use Rattle.tdb_law.specs.OneAside.Own.{OwnTurned, ShowsSide, side_wants}
use Rattle.tdb_law.specs.OneAside.Sides.{Past, Side, alone, beside}
use Rattle.tdb_txn_owner.specs.Lifts.{IsBack, OthersKeep}
use Rattle.tdb_txn_owner.specs.Stages.{Known}
use Rattle.tdb_txn_owner.specs.Turned.{StageTurned}
use Rattle.tdb_txn_owner.specs.declared.stage.Stage.{Stage}
use Rattle.tdb_txn_owner.proofs.Lifting.{beside_ends, beside_turns}
use Rattle.tdb_openers.specs.Openers.{place_at}
use Rattle.tdb_openers.specs.States.{state_of}
use Rattle.tdb_openers.specs.declared.opener.Opener.{Opener}
use Rattle.tdb_commands.specs.declared.options.Options.{Options}
use Rattle.tdb_world.proofs.OthersKept.{OneChanges, others_keep, walk_keeps}

-- The opener stays aside.
module _ (f : Form) (o : Options) (options : Options) (xs ys : List Opener) (ps qs : List Piece) (owner : ℕ) (rs : List Piece) (before after : Stage) (h new : History)
    (k : Known) (past : Past) (s : Side) (t : Task) (turn : Turn)
    (T : StageTurned f o (beside (state_of f options xs ps k.file) past s).table owner rs before (Some after) h new k past s t turn) (O : OneChanges xs ys ps qs s.here) (shuts : Bool) (heads : ℕ → Bool) where
  abbrev side_then : Side
  side_then = record T.side { shuts = shuts; heads = heads }

  own_stays : OwnTurned f (beside (state_of f options xs ps k.file) past s).table (image_map f k.file) (image_map f T.known.file) (number_of f k.file) (number_of f T.known.file) past T.later s side_then t turn
  own_stays = record {
    mine = T.turned.mine;
    here = T.turned.here;
    keeps = T.turned.keeps;
    row = T.turned.row;
    leaves = T.turned.leaves;
    effect = T.turned.effect;
    holds = T.turned.holds;
    walks = λ w v W V. T.turned.walks w v W (record { own = V.own; mark = V.mark; spot = V.spot; table = V.table; file = V.file });
    settled = T.turned.settled;
    number = T.turned.number;
    image_number = T.turned.image_number;
    other_numbers = T.turned.other_numbers;
  }

  pub stays_turned : ((q : ℕ) → q ≢ s.here → (T.known.file ≡ k.file) ⊎ IsOffRecords (place_at (slice_get xs q)))
      → Turned f (beside (state_of f options xs ps k.file) past s) s.here t turn (beside (state_of f options ys qs T.known.file) T.later side_then)
  stays_turned off =
      beside_turns f (state_of f options xs ps k.file) (state_of f options ys qs T.known.file) past T.later s side_then t turn own_stays
      (others_keep f options xs ys ps qs k.file T.known.file s t turn O (λ q apart. walk_keeps f s t turn xs k T.known q (off q apart) T.kept))

-- The opener comes back among the others, with nothing, in a file that is read as the image that is known.
module _ (f : Form) (o : Options) (options : Options) (xs ys : List Opener) (ps qs : List Piece) (owner : ℕ) (rs : List Piece) (before : Stage) (h new : History)
    (k : Known) (past : Past) (s : Side) (t : Task) (turn : Turn)
    (T : StageTurned f o (beside (state_of f options xs ps k.file) past s).table owner rs before None h new k past s t turn) (O : OneChanges xs ys ps qs s.here) (img : List ℕ)
    (map : image_map f img ≡ image_map f T.known.file) (number : number_of f img ≡ number_of f T.known.file) where
  abbrev then_ : State
  then_ = state_of f options ys qs img

  abbrev back : Side
  back = record T.side { mark = (state_of f options ys qs img).mark s.here; shuts = false }

  bare : T.side.own.cursor ≡ None
  bare = sym (ap (λ (x : Own). x.cursor) T.left.own)

  walks : (u : Turn) → task_left t.command t.steps u ≡ None → (w v : State) → ShowsSide w s (image_map f k.file) → ShowsSide v back (image_map f img) → Walked f w v s.here t.command t.steps u
  walks Step left w v W V = absurd (cc left)
  walks (Blocked p b) left w v W V = absurd (cc left)
  walks (Ends r) left w v W V =
      walk_ends r refl (ap (moves f t.command) W.own ∙ T.still) (λ shown. absurd (let none = ap (λ (x : Own). is_some x.cursor) (ap (λ q. v.own q) (sym T.turned.here) ∙ V.own) ∙ ap is_some bare in cc))

  abbrev EffectTo : Map → Type 0
  EffectTo m =
      let table = (beside (state_of f options xs ps k.file) past s).table in
      Effect f (IsFree table s.here (side_wants f s t)) (IsFirstConflict table s.here (side_wants f s t)) (Finds f (table s.here) (side_wants f s t) (seen s.own (image_map f k.file)))
      (number_seen s.own (number_of f k.file) (past.numbers s.here)) t.command t.steps s.own (image_map f k.file) turn T.side.own m

  own_back : OwnTurned f (beside (state_of f options xs ps k.file) past s).table (image_map f k.file) (image_map f img) (number_of f k.file) (number_of f img) past T.later s back t turn
  own_back = record {
    mine = T.turned.mine;
    here = T.turned.here;
    keeps = T.turned.keeps;
    row = T.turned.row;
    leaves = T.turned.leaves;
    effect = subst EffectTo (sym map) T.turned.effect;
    holds = T.turned.holds;
    walks = walks turn (sym T.turned.leaves ∙ T.left.task);
    settled = T.turned.settled;
    number = number ∙ T.turned.number;
    image_number = T.turned.image_number;
    other_numbers = T.turned.other_numbers;
  }

  pub back_turned : OthersKeep f (state_of f options xs ps k.file) (state_of f options ys qs img) s t turn → IsBack (state_of f options ys qs img) back
      → Turned f (beside (state_of f options xs ps k.file) past s) s.here t turn (alone (state_of f options ys qs img) T.later)
  back_turned keep is = beside_ends f (state_of f options xs ps k.file) (state_of f options ys qs img) past T.later s back t turn own_back keep is
