use Rattle.std.proofs.Common.{None, sym, subst}
use Rattle.tdb_tool.specs.Parts.{part_of}
use Rattle.tdb_world.specs.Courses.Scene.{scene}
use Rattle.tdb_tool.specs.Serving.{Ran}
use Rattle.tdb_tool.proofs.PartsRan.{ran_none}
use Rattle.tdb_tool.proofs.taking.take_order.Goals as goal

-- nothing is done to quit
pub returns-in-Quit-clause-ran : goal.returns-in-Quit-clause-ran
returns-in-Quit-clause-ran g c =
    let start = (scene c.args.world.now (g.K.Sink.written c.args.output.now) (g.L.Logs.logs c.args.logs.now)) in
    subst (λ o. Ran g.D.Disk.tells g.K.Sink.tells start start (part_of o) None) (sym c.in-Quit.is) (ran_none g.D.Disk.tells g.K.Sink.tells start c.requires.unspent)
