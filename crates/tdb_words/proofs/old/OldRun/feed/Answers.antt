use Rattle.std.proofs.Common.{rules}
use Rattle.tdb_words.proofs.OldSums.{old_turn}
use Rattle.tdb_words.proofs.old.OldRun.feed.Goals as goal

pub loop-byte-preserved : goal.loop-byte-preserved
loop-byte-preserved c n bytes held =
    old_turn _ c.loop-byte.self.shift _ n _ c.loop-byte.byte-index bytes c.args.piece.now c.loop-byte-test.true (search rules) c.shift_after-self.ensures (c.loop-byte.invariant n bytes held)
