-- What a turn of a cursor that leaves, or finds no memory, does is of the law's kinds.
use Rattle.std.proofs.Common.{◌≡◌, ℕ, ◌+◌, List, cond, true, false, Some, None, is_some, refl, sym, ◌∙◌, ap, arith}
use Rattle.tdb_words.specs.Header.{sequence_at}
use Rattle.tdb_words.specs.Word.{word}
use Rattle.tdb_space.specs.Form.{Form}
use Rattle.tdb_locks.specs.LockTable.{held}
use Rattle.tdb_locks.specs.declared.piece.Piece.{Piece}
use Rattle.tdb_locks.proofs.Strengths.{strength-le}
use Rattle.tdb_law.specs.Commands.{WalkCommand, Turn as LawTurn, Reply as LawReply}
use Rattle.tdb_law.specs.Commands.WalkCommand.{EndWalk, Close}
use Rattle.tdb_law.specs.Commands.Command.{OnWalk}
use Rattle.tdb_law.specs.Openers.{Own, Spot, View, nowhere}
use Rattle.tdb_law.specs.Outcomes.{walk_moves}
use Rattle.tdb_law.specs.Held.{wanted, decided}
use Rattle.tdb_law.specs.Effects.{IsFree}
use Rattle.tdb_law.specs.Effects.Effect.{effect_answers, effect_starves}
use Rattle.tdb_law.specs.Effects.Stays.{stands_nowhere, stands_still}
use Rattle.tdb_law.specs.Images.{image_map}
use Rattle.tdb_walk.specs.declared.standing.Standing.TheVariants.{On, Past}
use Rattle.tdb_walk.specs.Cursors.{At, rested}
use Rattle.tdb_walk.specs.InLaw.{spot_in, spot_next, own_next, strengths}
use Rattle.tdb_walk.proofs.Wanting.{moves_are}
use Rattle.tdb_walk.proofs.Rows.{unchanged, number_is, told_is, map_is, counts_no, ready, starves_moving, starves_on, moves_close}
use Rattle.tdb_walk.proofs.CursorActs.{CursorActs}

module _ (f : Form) (x : Own) (outside : x.txn ≡ None) (n who : ℕ) (ps : List Piece) (a b : List ℕ) (v : View) (spot : Spot)
    (same_map : image_map f b ≡ image_map f a) (same_number : word f.order b sequence_at ≡ word f.order a sequence_at) where
  abbrev ActsTo : WalkCommand → At → LawTurn → Type 0
  ActsTo c later turn =
      CursorActs f x (own_next f c n x (image_map f a) turn) c n who spot (spot_next turn c later) v (strengths ps) (image_map f a) (image_map f b) (word f.order a sequence_at) (word f.order b sequence_at) turn

  -- no memory for a move, or for a lock before it
  pub starves_turned : (w : WalkCommand) → walk_moves w x ≡ true → ActsTo w (rested Past) (LawTurn.Ends LawReply.Memory)
  starves_turned w moving = record {
    leaves_spot = (stands_nowhere (ap (λ (s : Spot). s.stands) spot_is), ap (λ (s : Spot). s.gone) spot_is);
    effect = effect_starves refl (starves_moving f w x outside moving) (unchanged f w x outside n) same_map refl;
    number = same_number ∙ sym (number_is f w x outside n (LawTurn.Ends LawReply.Memory) (word f.order a sequence_at) 0);
  }
    where
      spot_is : spot_next (LawTurn.Ends LawReply.Memory) w (rested Past) ≡ spot_in (rested Past) false
      spot_is = ap (λ c. cond c nowhere (spot_in (rested Past) false)) (moves_close w x moving)

  -- no memory for a leave: the cursor stands where it stood
  pub spared_end : (chain off : ℕ) → spot.stands ≡ Some off → is_some x.cursor ≡ true → ActsTo EndWalk (rested (On chain off)) (LawTurn.Ends LawReply.Memory)
  spared_end chain off stood some = record {
    leaves_spot = (stands_still outside outside refl (sym stood), refl);
    effect = effect_starves refl (starves_on f EndWalk x outside some) (unchanged f EndWalk x outside n) same_map refl;
    number = same_number ∙ sym (number_is f EndWalk x outside n (LawTurn.Ends LawReply.Memory) (word f.order a sequence_at) 0);
  }

  pub spared_close : (later : At) → is_some x.cursor ≡ true → ActsTo Close later (LawTurn.Ends LawReply.Memory)
  spared_close later some = record {
    leaves_spot = (stands_nowhere refl, refl);
    effect = effect_starves refl (starves_on f Close x outside some) (unchanged f Close x outside n) same_map refl;
    number = same_number ∙ sym (number_is f Close x outside n (LawTurn.Ends LawReply.Memory) (word f.order a sequence_at) 0);
  }

  -- it leaves
  free_none : (c : WalkCommand) → ((z : ℕ) → wanted f (OnWalk c) x (decided spot v n) v n z ≡ 0) → IsFree (strengths ps) who (λ z. wanted f (OnWalk c) x (decided spot v n) v n z)
  free_none c none = record { free = λ p z differs. (let is = none z in let most = strength-le (held ps (p + 1) z) in omega (arith, is, most)) }

  pub end_turned : ((z : ℕ) → wanted f (OnWalk EndWalk) x (decided spot v n) v n z ≡ 0) → ActsTo EndWalk (rested Past) (LawTurn.Ends LawReply.Done)
  end_turned none = record {
    leaves_spot = (stands_nowhere refl, refl);
    effect = effect_answers LawReply.Done refl (free_none EndWalk none) (moves_are f EndWalk x outside) (counts_no f EndWalk x outside) (ready f EndWalk x outside n) (unchanged f EndWalk x outside n) (sym (told_is f EndWalk x outside (image_map f a)))
        (same_map ∙ sym (map_is f EndWalk x outside (image_map f a))) refl;
    number = same_number ∙ sym (number_is f EndWalk x outside n (LawTurn.Ends LawReply.Done) (word f.order a sequence_at) 0);
  }

  pub close_turned : (later : At) → ((z : ℕ) → wanted f (OnWalk Close) x (decided spot v n) v n z ≡ 0) → ActsTo Close later (LawTurn.Ends LawReply.Done)
  close_turned later none = record {
    leaves_spot = (stands_nowhere refl, refl);
    effect = effect_answers LawReply.Done refl (free_none Close none) (moves_are f Close x outside) (counts_no f Close x outside) (ready f Close x outside n) (unchanged f Close x outside n) (sym (told_is f Close x outside (image_map f a)))
        (same_map ∙ sym (map_is f Close x outside (image_map f a))) refl;
    number = same_number ∙ sym (number_is f Close x outside n (LawTurn.Ends LawReply.Done) (word f.order a sequence_at) 0);
  }
