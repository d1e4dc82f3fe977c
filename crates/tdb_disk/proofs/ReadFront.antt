-- What a read of the front of a list leaves.
use Rattle.std.proofs.Common.{◌≡◌, ℕ, ◌+◌, List, ◌++◌, length, take, drop, arith, sym, subst}
use Rattle.std.proofs.lemmas.List.{take-append-drop}
use Rattle.std.proofs.lemmas.Grind.{common_steps}
use Rattle.std.proofs.Math.Seq.{take-append_seam}

-- the front that was read, put into a buffer, and the rest make what was left
pub read_splits : (bytes front rest : List ℕ) (from n : ℕ) → front ≡ take n (drop from bytes) → length front ≡ n
    → drop from bytes ≡ take n (front ++ rest) ++ drop (from + n) bytes
read_splits bytes front rest from n is_front sized =
    let kept : take n (front ++ rest) ≡ front = subst (λ m. take m (front ++ rest) ≡ front) sized (take-append_seam front rest) in
    let apart : drop from bytes ≡ take n (drop from bytes) ++ drop n (drop from bytes) = sym (take-append-drop n (drop from bytes)) in
    rw kept (rw is_front (grind (arith, common_steps, apart)))
