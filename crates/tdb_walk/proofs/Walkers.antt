-- A turn of a cursor is a turn of the world whose openers have cursors.
use Rattle.std.proofs.Common.{◌≡◌, ◌≢◌, ℕ, ◌+◌, List, Bool, true, false, cond, Option, refl, sym, ◌∙◌, ap, subst}
use Rattle.std.specs.Prelude.{IsTrue, ◌&&◌}
use Rattle.tdb_words.specs.Header.{sequence_at}
use Rattle.tdb_words.specs.Word.{word}
use Rattle.tdb_space.specs.Form.{Form}
use Rattle.tdb_space.specs.Extents.{HandPair}
use Rattle.tdb_locks.specs.HeldLocks.{HeldLocks}
use Rattle.tdb_locks.specs.declared.piece.Piece.{Piece}
use Rattle.tdb_locks.specs.declared.turn.Turn.{Turn}
use Rattle.tdb_law.specs.Commands.{WalkCommand, Turn as LawTurn, is_done}
use Rattle.tdb_law.specs.Commands.Command.{OnWalk}
use Rattle.tdb_law.specs.Openers.{Own, Spot, Map, Txn, image_or}
use Rattle.tdb_law.specs.Counting.{number_or, settles_by, settled_after, image_number_by, image_number_after}
use Rattle.tdb_law.specs.Held.{holding, wanted, decided}
use Rattle.tdb_law.specs.Effects.{Effect, IsFree, IsFirstConflict, Finds, SpotLeft}
use Rattle.tdb_law.specs.Walks.{Lost, Shift, Walked}
use Rattle.tdb_law.specs.Images.{image_map}
use Rattle.tdb_law.specs.Layout.{chains_in, mark_of}
use Rattle.tdb_walk.specs.Way.{SameOthers}
use Rattle.tdb_walk.specs.Cursors.{At, IsPlaced, StepTaken, StepMade}
use Rattle.tdb_walk.specs.InLaw.{CursorBefore, CursorTurned, IsTurn, goal_of, own_next, spot_in, spot_next, strengths}
use Rattle.tdb_walk.specs.Walkers.{Walkers, TakesTurn, CursorIsTurned, state_of}
use Rattle.tdb_walk.proofs.Holding.{granted}
use Rattle.tdb_walk.proofs.Lawful.{cursor_is_lawful}
use Rattle.tdb_walk.proofs.WalkLawful.{walk_is_lawful}
use Rattle.tdb_walk.proofs.WalkShown.{others_stay}

same_choice : {A : Type 0} (z : Bool) (v : A) → cond z v v ≡ v
same_choice true v = refl
same_choice false v = refl

never_settles : (z : Bool) (v : Bool) → cond (z && false) true v ≡ v
never_settles true v = refl
never_settles false v = refl

module _ (f : Form) (own : HeldLocks) (w : WalkCommand) (at later : At) (gone : Bool) (n who : ℕ) (ps qs : List Piece) (a b : List ℕ) (hands : List HandPair) (stood_on : List ℕ) (read_only : Bool) (did : Turn) (turn : LawTurn) (tells : Bool) (old new : Walkers)
    (told : IsTrue tells) (B : CursorBefore f own (old.own who) w at gone n who ps a hands stood_on read_only (old.view who)) (T : StepTaken (IsTrue tells) f a ps qs (who + 1) own stood_on (goal_of w) read_only at later did) (M : StepMade f a b hands at later did)
    (O : SameOthers (who + 1) ps qs) (placed : IsPlaced later.place) (says : IsTurn did turn) (S : TakesTurn f w at later gone n who ps qs a turn old new) where
  abbrev x : Own
  x = old.own who

  abbrev m : Map
  m = image_map f a

  abbrev q : ℕ
  q = word f.order a sequence_at

  lawful : CursorTurned f x (own_next f w n x m turn) w n who (spot_in at gone) (spot_next turn w later) (old.view who) (strengths ps) (strengths qs) m (image_map f b) q (word f.order b sequence_at) turn
  lawful = cursor_is_lawful f own x w at later gone n who ps qs a b hands stood_on read_only (old.view who) did turn tells told B T M O placed says

  walked : Walked f (state_of f old a) (state_of f new b) who (OnWalk w) n turn
  walked = walk_is_lawful f own x w at later gone n who ps qs a b hands stood_on read_only (old.view who) did turn tells (state_of f old a) (state_of f new b) told B T M O placed says
      (record {
        own = refl;
        own_later = S.own_later;
        spot = S.spot;
        spot_later = S.spot_later;
        mark = ap (mark_of f (chains_in f a)) S.place;
        mark_later = λ kept. ap (mark_of f (chains_in f b)) (S.place_later kept);
        locks = λ z. S.table who z;
        file = refl;
      })

  held_so : old.table ≡ strengths ps
  held_so = λ i o z. S.table o z i

  -- what the command wants, by what only the world knows of its cursor
  abbrev Want : Spot → ℕ → ℕ
  Want s z = wanted f (OnWalk w) x (decided s (old.view who) n) (old.view who) n z

  abbrev EffectBy : (ℕ → ℕ → ℕ) → Spot → Own → Option Txn → Type 0
  EffectBy t s y o = Effect f (IsFree t who (Want s)) (IsFirstConflict t who (Want s)) (Finds f (t who) (Want s) (image_or o m)) (number_or o q 0) (OnWalk w) n x m turn y (image_map f b)

  abbrev SpotBy : (ℕ → ℕ → ℕ) → Spot → Own → Spot → Type 0
  SpotBy t s y z = SpotLeft f (t who) (Want s) (OnWalk w) n x y s (old.view who) z turn

  effect_so : EffectBy old.table (old.spot who) (new.own who) x.txn
  effect_so =
      subst (λ t. EffectBy t (old.spot who) (new.own who) x.txn) (sym held_so)
      (subst (λ s. EffectBy (strengths ps) s (new.own who) x.txn) (sym S.spot)
      (subst (λ y. EffectBy (strengths ps) (spot_in at gone) y x.txn) (sym S.own_later)
      (subst (EffectBy (strengths ps) (spot_in at gone) (own_next f w n x m turn)) (sym B.ready.outside) lawful.effect)))

  spot_so : SpotBy old.table (old.spot who) (new.own who) (new.spot who)
  spot_so =
      subst (λ t. SpotBy t (old.spot who) (new.own who) (new.spot who)) (sym held_so)
      (subst (λ s. SpotBy (strengths ps) s (new.own who) (new.spot who)) (sym S.spot)
      (subst (λ y. SpotBy (strengths ps) (spot_in at gone) y (new.spot who)) (sym S.own_later)
      (subst (SpotBy (strengths ps) (spot_in at gone) (own_next f w n x m turn)) (sym S.spot_later) lawful.leaves_spot)))

  settled_so : (t : LawTurn) → false ≡ settled_after f (OnWalk w) x n t false
  settled_so LawTurn.Step = sym (same_choice _ false)
  settled_so (LawTurn.Blocked o z) = refl
  settled_so (LawTurn.Ends r) = sym (ap (λ s. cond (is_done r && settles_by s (OnWalk w) x) true false) (granted f w x B.ready.outside) ∙ never_settles (is_done r) false)

  uncounted : (t : LawTurn) → 0 ≡ image_number_after f (OnWalk w) x t q 0
  uncounted LawTurn.Step = refl
  uncounted (LawTurn.Blocked o z) = refl
  uncounted (LawTurn.Ends r) = sym (ap (λ s. cond (is_done r) (image_number_by s (OnWalk w) x q 0) 0) (granted f w x B.ready.outside) ∙ same_choice (is_done r) 0)

  other_table : (o z : ℕ) → o ≢ who → new.table o z ≡ old.table o z
  other_table o z ne = S.table_others o z ne ∙ lawful.others o z ne ∙ sym (S.table o z)

  other_walk : (o : ℕ) → o ≢ who → Shift f (Lost f (OnWalk w) n x turn false (mark_of f (chains_in f a) (old.place o))) (mark_of f (chains_in f a) (old.place o)) (mark_of f (chains_in f b) (new.place o))
  other_walk o ne =
      subst (λ p. Shift f (Lost f (OnWalk w) n x turn false (mark_of f (chains_in f a) (old.place o))) (mark_of f (chains_in f a) (old.place o)) (mark_of f (chains_in f b) p)) (sym (S.place_others o ne))
      (others_stay f a b hands at later did (old.place o) (OnWalk w) n x turn false M (S.alone o ne))

pub cursor_is_turned : CursorIsTurned
cursor_is_turned f own w at later gone n who ps qs a b hands stood_on read_only did turn tells old new told B T M O placed says S = record {
  mine = S.task;
  joined = S.joined;
  others = S.task_others;
  others_own = S.own_others;
  others_spot = S.spot_others;
  others_hold = other_table f own w at later gone n who ps qs a b hands stood_on read_only did turn tells old new told B T M O placed says S;
  others_number = λ o ne. refl;
  others_walk = other_walk f own w at later gone n who ps qs a b hands stood_on read_only did turn tells old new told B T M O placed says S;
  row = C.row;
  leaves = S.task_later;
  leaves_spot = spot_so f own w at later gone n who ps qs a b hands stood_on read_only did turn tells old new told B T M O placed says S;
  effect = effect_so f own w at later gone n who ps qs a b hands stood_on read_only did turn tells old new told B T M O placed says S;
  holds = λ z. S.table_later z ∙ C.holds z ∙ sym (λ i. holding f (S.own_later i) (S.spot_later i) (S.task_later i) z);
  walks = walked f own w at later gone n who ps qs a b hands stood_on read_only did turn tells old new told B T M O placed says S;
  ready = refl;
  stale = refl;
  settled = settled_so f own w at later gone n who ps qs a b hands stood_on read_only did turn tells old new told B T M O placed says S turn;
  number = C.number;
  image_number = uncounted f own w at later gone n who ps qs a b hands stood_on read_only did turn tells old new told B T M O placed says S turn;
}
  where
    C : CursorTurned f (old.own who) (own_next f w n (old.own who) (image_map f a) turn) w n who (spot_in at gone) (spot_next turn w later) (old.view who) (strengths ps) (strengths qs) (image_map f a) (image_map f b) (word f.order a sequence_at) (word f.order b sequence_at) turn
    C = lawful f own w at later gone n who ps qs a b hands stood_on read_only did turn tells old new told B T M O placed says S
