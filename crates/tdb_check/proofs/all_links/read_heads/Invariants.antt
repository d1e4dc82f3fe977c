-- The heads of the blocks so far were read.
use Rattle.std.proofs.Common.{◌≡◌, ℕ, ◌+◌, ◌-◌, ◌*◌, ◌^◌, ◌<◌, ◌≤◌, IsTrue, length}
use Rattle.tdb_disk.specs.Count.{RoseUpTo}
use Rattle.tdb_space.specs.Frame.{Looked}
use Rattle.tdb_check.specs.Links.{HeadsRead}
use Rattle.tdb_check.proofs.all_links.read_heads.Given as goal

abbrev pub decreases-loop-first : goal.decreases-loop-first
decreases-loop-first g l = l.chains - l.first

abbrev pub invariant-loop-first : goal.invariant-loop-first
invariant-loop-first g l = record {
  heads : IsTrue g.S.Space.tells → HeadsRead (g.S.Space.form l.fn.s) (g.S.Space.image l.fn.s) l.heads.items;
  long : length l.heads.items ≡ l.first;
  within : l.first ≤ l.chains;
  small : l.chains < 2 ^ 32;
  chains : l.chains ≡ (g.S.Space.form l.fn.s).chains;
  bytes_read : RoseUpTo (4 * l.first) (g.S.Space.bytes_read l.fn.s) (g.S.Space.bytes_read l.s);
  looked : Looked g.S.Space l.fn.s l.s;
  faults : g.S.Space.faults l.s ≡ g.S.Space.faults l.fn.s;
}
