-- The chains so far have no record, and the view is as it was.
use Rattle.std.proofs.Common.{◌≡◌, ◌-◌, ◌*◌, ◌≤◌, max, IsTrue}
use Rattle.tdb_disk.specs.Count.{RoseUpTo}
use Rattle.tdb_words.specs.Word.{word}
use Rattle.tdb_space.specs.Form.{chain_head}
use Rattle.tdb_space.specs.Frame.{Looked}
use Rattle.tdb_walk.specs.Heads.{AreEmpty}
use Rattle.tdb_walk.proofs.heads.first_filled.Given as goal

abbrev pub invariant-loop-chain : goal.invariant-loop-chain
invariant-loop-chain g l = record {
  empty : IsTrue g.S.Space.tells → AreEmpty (λ j. word (g.S.Space.form l.fn.s).order (g.S.Space.image l.fn.s) (chain_head j)) l.from l.chain;
  least : l.from ≤ l.chain;
  looked : Looked g.S.Space l.fn.s l.s;
  faults : g.S.Space.faults l.s ≡ g.S.Space.faults l.fn.s;
  most : l.chain ≤ max l.from l.chains;
  read : RoseUpTo (4 * (l.chain - l.from)) (g.S.Space.bytes_read l.fn.s) (g.S.Space.bytes_read l.s);
}

abbrev pub decreases-loop-chain : goal.decreases-loop-chain
decreases-loop-chain g l = l.chains - l.chain
