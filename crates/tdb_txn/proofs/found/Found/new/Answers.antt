-- Nothing was looked at.
use Rattle.std.proofs.Common.{[], arith}
use Rattle.tdb_space.specs.Runs.{Changed}
use Rattle.tdb_txn.proofs.Scans.{scan_start}
use Rattle.tdb_txn.proofs.found.Found.new.Goals as goal

pub returns-clause-found : goal.returns-clause-found
returns-clause-found c a b old skip = record {
  runs = [];
  keeps = record { content = omega arith; list = λ e. c.new.ensures; some = λ e. absurd (cc e) };
  scanned = scan_start (Changed a b old skip);
}
