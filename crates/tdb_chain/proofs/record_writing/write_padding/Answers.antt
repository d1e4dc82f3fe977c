-- One piece more.
use Rattle.std.proofs.Common.{arith, rules, refl}
use Rattle.tdb_chain.proofs.Writing.{piece_more}
use Rattle.tdb_chain.proofs.record_writing.write_padding.Goals as goal

pub loop-i-preserved : goal.loop-i-preserved
loop-i-preserved g c = record {
  written = λ told.
      piece_more (g.S.Space.image c.args.s.now) (g.S.Space.image c.loop-i.s) (g.S.Space.image c.put.new.s) c.args.at c.loop-i.i _ refl
      (omega (arith, c.loop-i-test.true, c.requires.within, g.met.S.Space.told_size c.args.s.now told)) (c.loop-i.invariant.written told) (c.in_ok-put.ensures.written told);
  only = search rules;
  size = search rules;
  wrote = search rules;
  faults = search rules;
  bytes_read = search rules;
  spare = search rules;
}
