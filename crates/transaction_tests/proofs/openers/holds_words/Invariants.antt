-- Each piece so far is another opener's, or one byte.
use Rattle.std.proofs.Common.{ℕ, ◌<◌}
use Rattle.std.specs.Prelude.{IfSome}
use Rattle.std.specs.List.{slice_get}
use Rattle.transaction_tests.specs.Words.{IsWordOf}
use Rattle.transaction_tests.proofs.openers.holds_words.Given as goal

abbrev pub invariant-loop-i : goal.invariant-loop-i
invariant-loop-i l = (k : ℕ) → k < l.i → IfSome (slice_get l.locks k) (IsWordOf l.owner)
