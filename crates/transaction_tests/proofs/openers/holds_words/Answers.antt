-- Where each piece is another opener's or one byte, the opener holds none of the bytes that are 3 past a multiple of 4.
use Rattle.std.proofs.Common.{◌≡◌, ◌<◌, ◌%◌, ℕ, zero, suc, false, List, [], ◌∷◌, None, length, refl, arith}
use Rattle.std.specs.Prelude.{IfSome}
use Rattle.std.specs.List.{slice_get}
use Rattle.std.proofs.lemmas.Bool.Decides.{nat_tests}
use Rattle.tdb_locks.specs.LockTable.{covers, held}
use Rattle.tdb_locks.specs.declared.piece.Piece.{Piece}
use Rattle.transaction_tests.specs.Words.{IsWordOf}
use Rattle.transaction_tests.proofs.openers.holds_words.Goals as goal

-- such a piece doesn't cover the byte
not_covered : (p : Piece) (owner b : ℕ) → IsWordOf owner p → b % 4 ≡ 3 → covers p owner b ≡ false
not_covered p owner b word odd = grind (arith, nat_tests, word)

words_bare : (ps : List Piece) (owner b : ℕ) → ((k : ℕ) → k < length ps → IfSome (slice_get ps k) (IsWordOf owner)) → b % 4 ≡ 3 → held ps owner b ≡ None
words_bare [] owner b each odd = refl
words_bare (p ∷ ps) owner b each odd =
    let first = not_covered p owner b (each zero (omega arith)) odd in
    let rest = words_bare ps owner b (λ k h. each (suc k) (omega arith)) odd in
    rw first rest

pub returns : goal.returns
returns c told b odd apart =
    words_bare c.args.locks.now c.args.owner b (λ k low. c.loop-i.invariant k (let e = c.piece_count-i-end.ensures.count in let end = c.loop-i-test.false in omega (arith, low, e, end))) odd
