-- The first pair that a walk gives is the first of a file.
use Rattle.std.proofs.Common.{◌≡◌, ℕ, Bool, true, false, List, [], ◌∷◌, ◌++◌, None, Some, ap}
use Rattle.std.specs.Prelude.{MatchBool}
use Rattle.std.proofs.lemmas.Bool.{MatchBool-at_true, MatchBool-at_false}
use Rattle.tdb_backup.specs.declared.traversal.Traversal.{Traversal}
use Rattle.tdb_backup.specs.Traversal.{Gave, pair_at_hand}
use Rattle.tdb_backup.proofs.Dumped.{gave_front}
use Rattle.tdb_space.specs.Form.{Form}
use Rattle.tdb_space.specs.Pairs.{order_of}
use Rattle.tdb_answer.specs.Commands.First.{first_pair_of}

module _ (f : Form) (img : List ℕ) (t : Traversal) (more : Bool) (answer : MatchBool more (Gave f img ([] ++ pair_at_hand t ∷ []) t) (Gave f img [] t × (order_of f img ≡ []))) where
  pub first_given : more ≡ true → first_pair_of (order_of f img) ≡ Some (pair_at_hand t)
  first_given is =
      let gave = MatchBool-at_true (Gave f img (pair_at_hand t ∷ []) t) (Gave f img [] t × (order_of f img ≡ [])) is answer in
      ap first_pair_of (gave_front f img (pair_at_hand t ∷ []) t gave).1

  pub none_given : more ≡ false → first_pair_of (order_of f img) ≡ None
  none_given is = ap first_pair_of (MatchBool-at_false (Gave f img (pair_at_hand t ∷ []) t) (Gave f img [] t × (order_of f img ≡ [])) is answer).1
