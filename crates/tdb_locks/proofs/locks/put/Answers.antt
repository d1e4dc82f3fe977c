use Rattle.std.proofs.Common.{◌≡◌, ◌++◌, ◌∷◌, ◌∙◌, [], List, append_assoc, sym}
use Rattle.std.proofs.lemmas.Result.{on_ok_weaker}
use Rattle.tdb_locks.specs.declared.piece.Piece.{Piece}
use Rattle.tdb_locks.proofs.locks.put.Goals as goal

-- a piece between what is left of two
between : (front back below above new : List Piece) (left piece right : Piece) → below ≡ front ++ left ∷ [] → above ≡ right ∷ back → new ≡ front ++ (left ∷ piece ∷ right ∷ []) ++ back → new ≡ below ++ piece ∷ above
between front back below above new left piece right on_left on_right placed =
    rw (placed, on_left, on_right) (append_assoc front (left ∷ piece ∷ right ∷ []) back ∙ sym (append_assoc front (left ∷ []) (piece ∷ right ∷ back)))

pub returns-in-Some-Some-clause-ok : goal.returns-in-Some-Some-clause-ok
returns-in-Some-Some-clause-ok c =
    on_ok_weaker c.replace-in-Some-Some.result
    (between _ _ _ _ _ _ _ _ (rw (c.in-Some-Some.is-0, c.deref.ensures.value) at c.of_range-place.ensures.left) (rw (c.in-Some-Some.is-1, c.deref.ensures.value) at c.of_range-place.ensures.right))
    c.replace-in-Some-Some.ensures.ok
