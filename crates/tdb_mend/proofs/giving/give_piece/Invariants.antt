-- The bytes up to an offset were copied.
use Rattle.std.proofs.Common.{◌≡◌, ◌+◌, ◌-◌, ◌≤◌, IsTrue}
use Rattle.std.specs.Prelude.{slice_index}
use Rattle.tdb_space.specs.Frame.{Wrote}
use Rattle.tdb_space.specs.Opening.{lies_in}
use Rattle.tdb_undo.specs.Torn.{Put}
use Rattle.tdb_mend.proofs.giving.give_piece.Given as goal

abbrev pub invariant-loop-at : goal.invariant-loop-at
invariant-loop-at g l = record {
  from : l.from ≤ l.at;
  within : l.at - l.from ≤ l.to - l.from;
  put : IsTrue g.S.Space.tells → Put (lies_in l.from (l.at - l.from)) (λ i. slice_index (g.S.Space.image l.fn.s) (l.source + (i - l.off))) (g.S.Space.image l.fn.s) (g.S.Space.image l.s);
  wrote : Wrote g.S.Space l.fn.s l.s;
  size : g.S.Space.size l.s ≡ g.S.Space.size l.fn.s;
  faults : g.S.Space.faults l.s ≡ g.S.Space.faults l.fn.s;
}

abbrev pub decreases-loop-at : goal.decreases-loop-at
decreases-loop-at g l = l.to - l.at
