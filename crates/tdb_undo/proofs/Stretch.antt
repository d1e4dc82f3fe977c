-- Words that stand in a stretch of an image which was read.
use Rattle.std.proofs.Common.{◌≡◌, ℕ, ◌+◌, ◌≤◌, List, slice_index, ◌∙◌, ap, arith}
use Rattle.tdb_words.specs.declared.word.Order.{Order}
use Rattle.tdb_words.specs.Word.{word}
use Rattle.tdb_words.proofs.Words.{word_from_bytes}
use Rattle.tdb_undo.specs.declared.window.Window.{Window}
use Rattle.tdb_undo.specs.Window.{Holds}

-- a word that a window holds is the image's
pub word_held : (o : Order) (w : Window) (img : List ℕ) (at i : ℕ) → Holds w img → at ≡ w.from + i → i + 4 ≤ w.len → word o w.bytes i ≡ word o img at
word_held o w img at i holds is within =
    word_from_bytes o w.bytes img i at
    (λ j low. holds (i + j) (omega (arith, low, within)) ∙ ap (slice_index img) (let e : w.from + (i + j) ≡ at + j = omega (arith, is) in e))
