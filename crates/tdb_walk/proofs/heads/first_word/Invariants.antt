-- The heads so far are 0.
use Rattle.std.proofs.Common.{◌≡◌, ◌*◌, ◌<◌, ℕ}
use Rattle.tdb_words.specs.Word.{word}
use Rattle.tdb_walk.proofs.heads.first_word.Given as goal

abbrev pub invariant-loop-i : goal.invariant-loop-i
invariant-loop-i l = (j : ℕ) → j < l.i → word l.order l.heads (4 * j) ≡ 0
