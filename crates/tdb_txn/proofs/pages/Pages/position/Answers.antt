use Rattle.std.proofs.Common.{◌+◌, ◌-◌, ◌/◌, arith, rules}
use Rattle.tdb_txn.proofs.Listed.{smaller_up_to, no_smaller_from}
use Rattle.tdb_txn.proofs.pages.Pages.position.Goals as goal

pub loop-low-preserved-then-index-number : goal.loop-low-preserved-then-index-number
loop-low-preserved-then-index-number c = record {
  order = omega arith;
  inside = c.loop-low.invariant.inside;
  before = smaller_up_to c.args.self.now.list.items (c.loop-low.low + (c.loop-low.high - c.loop-low.low) / 2) c.args.number
      c.index.result.now c.args.self.now.rising (omega arith) (search rules) (search rules);
  behind = c.loop-low.invariant.behind;
}

pub loop-low-preserved : goal.loop-low-preserved
loop-low-preserved c = record {
  order = omega arith;
  inside = omega arith;
  before = c.loop-low.invariant.before;
  behind = no_smaller_from c.args.self.now.list.items (c.loop-low.low + (c.loop-low.high - c.loop-low.low) / 2) c.args.number
      c.index.result.now c.args.self.now.rising (omega arith) (search rules) (search rules);
}
