-- What a turn of a cursor that takes a lock does is of the law's kinds.
use Rattle.std.proofs.Common.{◌≡◌, ◌≢◌, ℕ, ◌+◌, ◌≤◌, List, Bool, true, false, Some, None, refl, sym, ◌∙◌, ap, inl, inr, arith}
use Rattle.tdb_words.specs.Header.{sequence_at}
use Rattle.tdb_words.specs.Word.{word}
use Rattle.tdb_space.specs.Form.{Form}
use Rattle.tdb_locks.specs.declared.kind.Kind.{Kind}
use Rattle.tdb_locks.specs.declared.piece.Piece.{Piece}
use Rattle.tdb_locks.proofs.Strengths.{strength}
use Rattle.tdb_law.specs.Commands.{WalkCommand, Turn as LawTurn}
use Rattle.tdb_law.specs.Commands.Command.{OnWalk}
use Rattle.tdb_law.specs.Openers.{Own, View}
use Rattle.tdb_law.specs.Held.{explicit_held, wanted, decided}
use Rattle.tdb_law.specs.Effects.{IsFree}
use Rattle.tdb_law.specs.Effects.Effect.{effect_waits, effect_goes_on}
use Rattle.tdb_law.specs.Images.{image_map}
use Rattle.tdb_walk.specs.declared.standing.Standing.TheVariants.{On}
use Rattle.tdb_walk.specs.declared.stage.Stage.{Stage}
use Rattle.tdb_walk.specs.ByteLocks.{CanHold, IsKeptFrom}
use Rattle.tdb_walk.specs.Cursors.{At}
use Rattle.tdb_walk.specs.InLaw.{spot_in, spot_next, own_next, strengths}
use Rattle.tdb_walk.proofs.Explicit.{one}
use Rattle.tdb_walk.proofs.Wanting.{free_one, free_covered, first_one}
use Rattle.tdb_walk.proofs.Rows.{unchanged, number_is}
use Rattle.tdb_walk.proofs.CursorActs.{CursorActs}

module _ (f : Form) (x : Own) (outside : x.txn ≡ None) (w : WalkCommand) (n who : ℕ) (ps : List Piece) (a b : List ℕ) (v : View) (chain off : ℕ) (stage : Stage) (over : Bool) (byte : ℕ) (kind : Kind) (covered : Bool)
    (same_map : image_map f b ≡ image_map f a) (same_number : word f.order b sequence_at ≡ word f.order a sequence_at) (isnt : over ≡ false)
    (least : (z : ℕ) → explicit_held f x z ≤ strengths ps who z)
    (apart : (p z : ℕ) → p ≢ who → strengths ps who z + strengths ps p z ≤ 2)
    (want_is : (z : ℕ) → wanted f (OnWalk w) x (decided (spot_in (record { place = On chain off; stage = stage }) over) v n) v n z ≡ one byte (strength (Some kind)) z)
    (enough : covered ≡ true → strength (Some kind) ≤ explicit_held f x byte) where
  abbrev at : Stage → At
  at s = record { place = On chain off; stage = s }

  abbrev ActsTo : At → LawTurn → Type 0
  ActsTo later turn =
      CursorActs f x (own_next f w n x (image_map f a) turn) w n who (spot_in (at stage) over) (spot_next turn w later) v (strengths ps) (image_map f a) (image_map f b) (word f.order a sequence_at) (word f.order b sequence_at) turn

  abbrev want : ℕ → ℕ
  want z = wanted f (OnWalk w) x (decided (spot_in (at stage) over) v n) v n z

  held_enough : covered ≡ true → strength (Some kind) ≤ strengths ps who byte
  held_enough e = let more = enough e in let all = least byte in omega (arith, more, all)

  free_want : CanHold covered ps (who + 1) byte kind → IsFree (strengths ps) who want
  free_want (inl e) = free_covered ps who byte kind want want_is (held_enough e) apart
  free_want (inr free) = free_one ps who byte kind want want_is free

  -- it is taken, or covered
  pub lock_goes : (next : Stage) → spot_in (at next) false ≡ decided (spot_in (at stage) over) v n → CanHold covered ps (who + 1) byte kind → ActsTo (at next) LawTurn.Step
  lock_goes next left can = record {
    leaves_spot = left;
    effect = effect_goes_on refl (free_want can) (unchanged f w x outside (n + 1) ∙ sym (unchanged f w x outside n)) same_map refl;
    number = same_number ∙ sym (number_is f w x outside n LawTurn.Step (word f.order a sequence_at) 0);
  }

  -- another holds it
  pub lock_waits : (other at_byte : ℕ) → IsKeptFrom covered ps (who + 1) byte kind (other + 1) at_byte → ActsTo (at stage) (LawTurn.Blocked other at_byte)
  lock_waits other at_byte kept = record {
    leaves_spot = inl (ap (λ o. spot_in (at stage) o) (sym isnt));
    effect = effect_waits other at_byte refl (first_one ps who byte kind want want_is other at_byte kept.kind kept.conflict) (unchanged f w x outside n) same_map refl;
    number = same_number ∙ sym (number_is f w x outside n (LawTurn.Blocked other at_byte) (word f.order a sequence_at) 0);
  }
