-- The hash of a key fits a word.
use Rattle.std.proofs.Common.{◌≡◌, ℕ, ◌<◌, ◌^◌, List, [], ◌∷◌, length, arith}
use Rattle.std.specs.Prelude.{◌%◌}
use Rattle.std.proofs.lemmas.Bool.{ne_eqb}
use Rattle.tdb_words.specs.declared.hash.HashKind.{HashKind}
use Rattle.tdb_words.specs.declared.hash.HashKind.TheVariants.{Old, Jenkins}
use Rattle.tdb_words.specs.declared.jenkins.Mixer.{Mixer}
use Rattle.tdb_words.specs.Hash.{h_of, h_old, h_jenkins, final_of}

-- a number modulo 2^32 is a word, and so is the hash of a key
modulo_fits : (x : ℕ) → x % 2 ^ 32 < 2 ^ 32
modulo_fits x = omega arith

final_fits : (s : Mixer) → final_of s < 2 ^ 32
unfolding final_of
final_fits s = modulo_fits _

pub hash_fits : (h : HashKind) (key : List ℕ) → h_of h key < 2 ^ 32
unfolding h_old h_jenkins
hash_fits Old key = omega arith
hash_fits Jenkins [] = omega arith
hash_fits Jenkins (b ∷ bytes) = rw (ne_eqb (length (b ∷ bytes)) 0 (λ e. absurd (omega (arith, e)))) (final_fits _)
