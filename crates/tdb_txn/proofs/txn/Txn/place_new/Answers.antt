-- Where nothing was done, a stop leaves the file.
use Rattle.tdb_disk.specs.History.{seen}
use Rattle.tdb_disk.proofs.Runs.{leaves_quiet}
use Rattle.tdb_space.specs.Undoing.{Reopens}
use Rattle.tdb_space.proofs.Undoing.Alike.{exact_reopens}
use Rattle.tdb_txn.proofs.txn.Txn.place_new.Goals as goal

pub returns-then-limit-self-clause-stops : goal.returns-then-limit-self-clause-stops
returns-then-limit-self-clause-stops g c told quiet x may =
    let h = g.D.Disk.history c.args.d.now in leaves_quiet h (Reopens (seen h)) quiet (exact_reopens (seen h) may.before)
