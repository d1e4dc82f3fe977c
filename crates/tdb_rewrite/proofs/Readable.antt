-- The pairs of an accepted image can be read.
use Rattle.std.proofs.Common.{ℕ, List}
use Rattle.tdb_space.specs.Form.{Form}
use Rattle.tdb_space.specs.Extents.{HandPair}
use Rattle.tdb_space.specs.Accepted.{AcceptWith}
use Rattle.tdb_space.proofs.Pairs.Orders.{order_distinct}
use Rattle.tdb_rewrite.specs.Readable.{Readable}

pub accepted_readable : (f : Form) (img : List ℕ) (hands : List HandPair) → AcceptWith f img hands → Readable f img
accepted_readable f img hands A = record {
  some = A.some;
  long = A.long;
  chains = A.chains;
  filed = A.filed;
  differ = order_distinct f img hands A;
}
