use Rattle.std.proofs.lemmas.Result.{IfOk-weaker}
use Rattle.tdb_cmdline.proofs.HexLemmas.{no_longer}
use Rattle.tdb_cmdline.proofs.hex.hex_bytes_of.Goals as goal

-- pairs of digits write no more bytes than they are
pub returns-clause-short : goal.returns-clause-short
returns-clause-short c = IfOk-weaker c.pairs_of.result _ _ (λ bytes is. no_longer c.args.word.now bytes is) c.pairs_of.ensures
