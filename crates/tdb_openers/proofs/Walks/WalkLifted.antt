-- A turn of a command on an opener's cursor is a turn of the law.
use Rattle.std.proofs.Common.{◌≡◌, ℕ, ◌+◌, IsTrue, List, slice_get, set, Bool, Some, sym, ◌∙◌, ap, subst}
use Rattle.tdb_space.specs.Form.{Form}
use Rattle.tdb_locks.specs.declared.piece.Piece.{Piece}
use Rattle.tdb_locks.specs.declared.turn.Turn.{Turn}
use Rattle.tdb_law.specs.Commands.{WalkCommand}
use Rattle.tdb_law.specs.Commands.Command.{OnWalk}
use Rattle.tdb_law.specs.Images.{image_map}
use Rattle.tdb_law.specs.Turned.{Turned}
use Rattle.tdb_commands.specs.InLaw.{law_turn}
use Rattle.tdb_walk.specs.NextLive.{place_of}
use Rattle.tdb_walk.specs.Cursors.{At}
use Rattle.tdb_walk.specs.InLaw.{CursorBefore, goal_of, is_before, own_next, view_of}
use Rattle.tdb_walk.specs.Walkers.{TakesTurn}
use Rattle.tdb_walk.proofs.Walkers.{cursor_is_turned}
use Rattle.tdb_commands.specs.declared.options.Options.{Options}
use Rattle.tdb_openers.specs.declared.opener.Opener.{Opener}
use Rattle.tdb_openers.specs.declared.job.Task.{Task}
use Rattle.tdb_openers.specs.Openers.{own_of, own_at, spot_at, place_at, spots_of, task_at, law_task, walk_in}
use Rattle.tdb_openers.specs.States.{state_of, walkers_of, view_at, view_under, view_for, WorldStands, FileStands}
use Rattle.tdb_openers.specs.Laws.{HasTask, IsPut, other_hands, WalkIsTurned}
use Rattle.tdb_openers.specs.Walked.{WalkTurned}
use Rattle.tdb_openers.proofs.ExplicitLocks.Strengths.{strengths_are}
use Rattle.tdb_openers.proofs.Walks.Purgers.{walks_command}
use Rattle.tdb_openers.proofs.Walks.WalkReady.{walk_before}
use Rattle.tdb_openers.proofs.Walks.WalkHeld.{facts, law_task_left}
use Rattle.tdb_openers.proofs.Walks.WalkFiled.{told_turn, walk_made, alone_there}

module _ (f : Form) (options : Options) (xs ys : List Opener) (ps qs : List Piece) (a b : List ℕ) (size who : ℕ) (x y : Opener) (t : Task) (w : WalkCommand) (did : Turn) (tells : Bool) (told : IsTrue tells)
    (W : WorldStands f options xs ps a size) (F : FileStands f xs a) (B : HasTask xs who x t) (on : walk_in t.job ≡ Some w) (P : IsPut xs who y ys) (T : WalkTurned tells f a b size ps qs (who + 1) (set (spots_of xs) who 0) w options.read_only t x y did) where
  abbrev stood_on : List ℕ
  stood_on = set (spots_of xs) who 0

  takes_turn : TakesTurn f w x.walk.cursor T.stepped.later (is_before x.walk.cursor.place) t.steps who ps T.stepped.mid a (law_turn did) (walkers_of f options xs ps a) (walkers_of f options ys qs b)
  takes_turn =
      let K = facts f options xs ps qs a b size who x y t w stood_on did tells W B on T size in
      record {
        joined = P.same_length;
        task = ap task_at B.there ∙ (ap law_task B.busy ∙ ap (λ c. Some (record { command = c; steps = t.steps })) (walks_command t.job w on));
        task_later = ap task_at P.there ∙ law_task_left f options xs ps qs a b size who x y t w stood_on did tells W B on T;
        own_later = ap (own_at options) P.there ∙ (K.own ∙ ap (λ o. own_next f w t.steps o (image_map f a) (law_turn did)) (sym (ap (own_at options) B.there)));
        spot = ap spot_at B.there;
        spot_later = ap spot_at P.there ∙ K.spot;
        place = ap place_at B.there;
        place_later = λ stays. ap place_at P.there ∙ ap (λ (c : At). place_of c.place) (K.cursor stays);
        table = λ o z. ap (λ h. h o z) (sym (strengths_are ps));
        table_later = K.table;
        table_others = K.others;
        task_others = λ o ne. ap task_at (P.others o ne);
        own_others = λ o ne. ap (own_at options) (P.others o ne);
        spot_others = λ o ne. ap spot_at (P.others o ne);
        place_others = λ o ne. ap place_at (P.others o ne);
        alone = alone_there f options xs ps a size who x F B;
      }

  -- the opener's view is that of its cursor
  its_view : view_at f options a stood_on (slice_get xs who) ≡ view_of f a x.held stood_on options.read_only (goal_of w) x.walk.cursor.place
  its_view = ap (view_at f options a stood_on) B.there ∙ (ap (λ u. view_under f options a stood_on x (law_task u)) B.busy ∙ ap (view_for f options a stood_on x) (walks_command t.job w on))

  before : CursorBefore f x.held (own_at options (slice_get xs who)) w x.walk.cursor (is_before x.walk.cursor.place) t.steps who ps a (other_hands xs who) stood_on options.read_only (view_at f options a stood_on (slice_get xs who))
  before =
      subst (λ o. CursorBefore f x.held o w x.walk.cursor (is_before x.walk.cursor.place) t.steps who ps a (other_hands xs who) stood_on options.read_only (view_at f options a stood_on (slice_get xs who))) (sym (ap (own_at options) B.there))
      (subst (CursorBefore f x.held (own_of options x) w x.walk.cursor (is_before x.walk.cursor.place) t.steps who ps a (other_hands xs who) stood_on options.read_only) (sym its_view)
      (walk_before f options xs ps a size who x t w W B on F stood_on))

  turned : Turned f (state_of f options xs ps a) who (record { command = OnWalk w; steps = t.steps }) (law_turn did) (state_of f options ys qs b)
  turned =
      cursor_is_turned f x.held w x.walk.cursor T.stepped.later (is_before x.walk.cursor.place) t.steps who ps T.stepped.mid a b (other_hands xs who) stood_on options.read_only did (law_turn did) tells
      (walkers_of f options xs ps a) (walkers_of f options ys qs b) told before T.stepped.stepped.taken (walk_made f options xs ps qs a b size who x y t w did tells told W F B on T) T.stepped.others T.stepped.stepped.placed
      (told_turn f options xs ps qs a b size who x y t w did tells told W F B on T) takes_turn

pub walk_is_turned : WalkIsTurned
walk_is_turned f options xs ys ps qs a b size who x y t w did tells told W F B on P T =
    subst (λ c. Turned f (state_of f options xs ps a) who (record { command = c; steps = t.steps }) (law_turn did) (state_of f options ys qs b)) (sym (walks_command t.job w on))
    (turned f options xs ys ps qs a b size who x y t w did tells told W F B on P T)
