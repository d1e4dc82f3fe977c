-- No record is kept.
use Rattle.std.proofs.Common.{ap}
use Rattle.std.specs.Ordering.{nat_cmp}
use Rattle.std.specs.Map.{lookup}
use Rattle.std.specs.BTreeMap.{is_at}
use Rattle.tdb_check.proofs.DeadTails.{none_kept}
use Rattle.tdb_check.proofs.tails.Tails.new.Goals as goal

pub returns : goal.returns
returns c f img seen at least is = absurd (none_kept _ least (ap (lookup (is_at (nat_cmp at))) c.new.ensures.empty) is)
