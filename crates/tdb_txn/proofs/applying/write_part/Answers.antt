use Rattle.std.proofs.Common.{◌+◌, ◌*◌, ap, sym, subst, arith, rules}
use Rattle.std.proofs.lemmas.Grind.{common_steps}
use Rattle.std.proofs.lemmas.Result.{on_ok_weaker}
use Rattle.tdb_disk.specs.History.{seen}
use Rattle.tdb_disk.proofs.Runs.{leaves_start}
use Rattle.tdb_space.specs.Scheme.{Within}
use Rattle.tdb_space.specs.Planned.{PutRange}
use Rattle.tdb_txn.specs.Pages.{page_size}
use Rattle.tdb_txn.specs.Stock.{page_list}
use Rattle.tdb_txn.proofs.WrittenOut.{part_stops, part_put}
use Rattle.tdb_txn.proofs.applying.write_part.Goals as goal

pub returns-in-Some-clause-stops : goal.returns-in-Some-clause-stops
returns-in-Some-clause-stops g c told p base may left =
    part_stops (g.D.Disk.history c.args.d.now) (g.D.Disk.history c.write.new.self) (c.args.number * page_size + c.args.within) c.args.count _ p base
    (grind (arith, common_steps)) may left c.write.ensures.tried

pub returns-in-Some-clause-put : goal.returns-in-Some-clause-put
returns-in-Some-clause-put g c =
    on_ok_weaker c.write.result (λ done told b bytes.
    subst (PutRange b (c.args.number * page_size + c.args.within) (c.args.number * page_size + c.args.within + c.args.count) (seen (g.D.Disk.history c.args.d.now)))
    (sym (ap seen (done told)))
    (part_put (page_list c.args.pages.now) (seen (g.D.Disk.history c.args.d.now)) b c.in-Some.page.now _ c.args.number c.args.within c.args.count
    (search rules) (search rules) c.requires.one_page (grind (arith, common_steps)) bytes)) c.write.ensures.done

pub returns-in-None-clause-stops : goal.returns-in-None-clause-stops
returns-in-None-clause-stops g c told p base may left = leaves_start (g.D.Disk.history c.args.d.now) (Within p base) left
