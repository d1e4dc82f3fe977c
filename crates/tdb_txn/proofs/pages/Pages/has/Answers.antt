use Rattle.std.proofs.Common.{arith}
use Rattle.std.proofs.lemmas.Grind.{common_steps}
use Rattle.tdb_txn.proofs.Listed.{found_there}
use Rattle.tdb_txn.proofs.pages.Pages.has.Goals as goal

pub returns-clause-there : goal.returns-clause-there
returns-clause-there c = found_there c.args.self.now.list.items c.args.number c.find.result c.find.ensures.inside c.find.ensures.first (grind (arith, common_steps))
