-- One run more was counted.
use Rattle.std.proofs.Common.{sym, arith}
use Rattle.tdb_txn.proofs.ContentLengths.{content_more}
use Rattle.tdb_txn.proofs.area_room.content_len.Goals as goal

pub loop-i-preserved : goal.loop-i-preserved
loop-i-preserved c = record {
  len = omega (arith, c.saturating_add-len.ensures, c.loop-i.invariant.len, content_more c.args.runs.now c.loop-i.i c.in-Some.run' c.in-Some.ensures.0 (sym c.in-Some.ensures.1));
}
