-- Nothing to copy.
use Rattle.std.proofs.Common.{◌-◌}
use Rattle.tdb_space.specs.Opening.{lies_in}
use Rattle.tdb_undo.proofs.Blocks.{start_torn}
use Rattle.tdb_undo.proofs.writing.give_piece.Goals as goal

pub returns-then-to-from-clause-stops : goal.returns-then-to-from-clause-stops
returns-then-to-from-clause-stops g c told = start_torn (g.D.Disk.history c.args.d.now) (lies_in c.args.from (c.args.to - c.args.from))
