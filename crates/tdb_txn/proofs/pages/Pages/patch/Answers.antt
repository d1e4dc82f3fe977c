use Rattle.std.proofs.Common.{rules, arith, refl}
use Rattle.std.proofs.lemmas.Grind.{common_steps}
use Rattle.tdb_txn.proofs.Listed.{put_in}
use Rattle.tdb_txn.proofs.pages.Pages.patch.Goals as goal

pub returns-in-Some-clause-put : goal.returns-in-Some-clause-put
returns-in-Some-clause-put c =
    put_in c.args.self.now.list.items c.in-Some.at c.args.within c.args.number c.args.piece.now c.index_mut-page.result.now _
    (search rules) (search rules) (search rules) (search rules) c.args.self.now.rising refl (grind (arith, common_steps))
