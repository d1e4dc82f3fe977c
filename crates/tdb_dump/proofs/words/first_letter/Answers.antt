use Rattle.std.proofs.Common.{◌≡◌, ℕ, ◌∷◌, ◌<◌, List, [], length, take, get_or, refl, inl, arith}
use Rattle.std.proofs.lemmas.Grind.{common_steps}
use Rattle.tdb_dump.specs.Word.{stands_in_word}
use Rattle.tdb_dump.proofs.words.first_letter.Goals as goal

-- the first byte alone
take_one : (xs : List ℕ) → 0 < length xs → take 1 xs ≡ get_or xs 0 0 ∷ []
take_one [] h = absurd (omega arith)
take_one (x ∷ xs) h = refl

pub returns-then-word-ne92 : goal.returns-then-word-ne92
unfolding stands_in_word
returns-then-word-ne92 c =
    (omega arith, omega arith, inl (take_one c.args.word.now c.requires, grind (arith, common_steps)))
