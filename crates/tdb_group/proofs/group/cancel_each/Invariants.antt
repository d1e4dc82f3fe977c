-- So many transactions are cancelled.
use Rattle.tdb_group.proofs.Each.{CancelledUpTo}
use Rattle.tdb_group.proofs.group.cancel_each.Given as goal

abbrev pub invariant-loop-at : goal.invariant-loop-at
invariant-loop-at g l = CancelledUpTo g.D.Disk.tells l.at l.fn.worlds.items l.worlds.items l.answer
