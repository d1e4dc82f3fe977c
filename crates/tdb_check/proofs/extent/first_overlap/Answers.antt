-- One extent more, or one that reaches back.
use Rattle.std.proofs.Common.{◌+◌, subst, sym}
use Rattle.tdb_check.proofs.Swept.{Swept, swept_more, swept_overlap}
use Rattle.tdb_check.proofs.extent.first_overlap.Goals as goal

pub returns-then-e-reach : goal.returns-then-e-reach
returns-then-e-reach c =
    swept_overlap c.args.extents.now c.loop-e.e-index c.loop-e.reach (record { off = 0; rec_len = 0 }) c.requires c.loop-e-test.true c.loop-e.invariant c.if-e-reach.true

pub loop-e-preserved : goal.loop-e-preserved
loop-e-preserved c =
    subst (Swept c.args.extents.now (c.loop-e.e-index + 1)) (sym c.end-reach.ensures)
    (swept_more c.args.extents.now c.loop-e.e-index c.loop-e.reach (record { off = 0; rec_len = 0 }) c.loop-e-test.true c.loop-e.invariant c.if-e-reach.false)
