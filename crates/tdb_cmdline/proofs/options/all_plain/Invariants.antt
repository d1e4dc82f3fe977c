-- What the words say follows from the words that are left.
use Rattle.std.proofs.Common.{◌≡◌, drop, false, map, string_bytes}
use Rattle.tdb_cmdline.specs.Clap.{all_plain}
use Rattle.tdb_cmdline.proofs.options.all_plain.Given as goal

abbrev pub invariant-loop-word : goal.invariant-loop-word
invariant-loop-word l = all_plain false (map string_bytes l.fn.words) ≡ all_plain l.ended (map string_bytes (drop l.word-index l.fn.words))
