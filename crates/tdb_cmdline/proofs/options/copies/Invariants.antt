-- The names so far are the words so far.
use Rattle.std.proofs.Common.{◌≡◌, take, map}
use Rattle.tdb_cmdline.proofs.options.copies.Given as goal

abbrev pub invariant-loop-word : goal.invariant-loop-word
invariant-loop-word l = l.names ≡ map (λ v. v.now) (take l.word-index l.words)
