use Rattle.std.proofs.Common.{◌≡◌, fold}
use Rattle.tdb_words.specs.Hash.{round, twelves}
use Rattle.tdb_words.proofs.jenkins.Mixer.mix_all.Given as goal

abbrev pub invariant-loop-i : goal.invariant-loop-i
invariant-loop-i l = l.mixer ≡ fold round l.fn.self (twelves l.i l.bytes)
