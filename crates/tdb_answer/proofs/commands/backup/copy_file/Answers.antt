use Rattle.std.proofs.lemmas.Result.{err_from_is_err_and}
use Rattle.tdb_disk.specs.History.{seen}
use Rattle.tdb_answer.proofs.BackingUp.{copied_synced, told_but, untold_yet}
use Rattle.tdb_answer.proofs.commands.backup.copy_file.Goals as goal

-- the pairs were added, and are on the medium
pub returns-in-Ok-sync-clause-copied : goal.returns-in-Ok-sync-clause-copied
returns-in-Ok-sync-clause-copied g c told =
    copied_synced (seen (g.D.Disk.history c.args.from.now)) (g.D.Disk.history c.add_all.new.to) (g.D.Disk.history c.sync.new.self)
    (c.in_ok-add_all.ensures.copied told) (c.in-Ok-sync.ensures.done told)

-- they weren't
pub returns-in_err-add_all-clause-refused : goal.returns-in_err-add_all-clause-refused
returns-in_err-add_all-clause-refused g c =
    let q = err_from_is_err_and c.from_residual.result c.from_residual.ensures.1 in
    rw (q.1, q.2) (λ told. c.in_err-add_all.ensures.refused told)

-- the file was made
pub add_all-requires-clause-new : goal.add_all-requires-clause-new
add_all-requires-clause-new g c told = (c.in-Ok.ensures.made told).file

-- what logs heard of it
pub returns-in_err-add_all-clause-heard : goal.returns-in_err-add_all-clause-heard
returns-in_err-add_all-clause-heard g c =
    let q = err_from_is_err_and c.from_residual.result c.from_residual.ensures.1 in
    rw (q.1, q.2) (λ told. c.in_err-add_all.ensures.heard told)

pub returns-in_default-clause-heard : goal.returns-in_default-clause-heard
returns-in_default-clause-heard g c told = untold_yet (seen (g.D.Disk.history c.args.from.now)) (g.L.Logs.logs c.args.logs.now)

pub returns-in-Err-clause-heard : goal.returns-in-Err-clause-heard
returns-in-Err-clause-heard g c told = told_but (seen (g.D.Disk.history c.args.from.now)) (g.L.Logs.logs c.args.logs.now) (g.L.Logs.logs c.add_all.new.logs) (c.in_ok-add_all.ensures.told told)
