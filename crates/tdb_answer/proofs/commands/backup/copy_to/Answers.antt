use Rattle.std.proofs.Common.{refl, inl, inr}
use Rattle.std.specs.Prelude.{IsTrue}
use Rattle.std.proofs.lemmas.Result.{IfErr-at_err}
use Rattle.tdb_disk.specs.History.{seen}
use Rattle.tdb_answer.proofs.BackingUp.{untaken_made, untaken_known, untaken_told, files_alone, removed_made, refused_known}
use Rattle.tdb_answer.specs.Commands.Backup.{RefusalHeard, copy_made, copy_failed}
use Rattle.tdb_answer.proofs.commands.backup.copy_to.Goals as goal

-- no new file was taken
pub returns-in-Err-clause-left : goal.returns-in-Err-clause-left
returns-in-Err-clause-left g c told =
    untaken_made g.F.D.Disk.tells c.in-Err.ending c.in-Err.ensures.known (seen (g.F.D.Disk.history c.args.from.now)) _ _ told (c.in-Err.ensures.left told)

pub returns-in-Err-clause-known : goal.returns-in-Err-clause-known
returns-in-Err-clause-known g c = untaken_known g.F.D.Disk.tells c.in-Err.ending c.in-Err.ensures.known

pub returns-in-Err-clause-counted : goal.returns-in-Err-clause-counted
returns-in-Err-clause-counted g c =
    files_alone (g.F.D.Disk.faults c.args.from.now) (g.F.D.Disk.faults c.args.from.now) (g.F.Files.faults c.args.files.now) (g.F.Files.faults c.take_anew.new.files) c.in-Err.ending refl c.in-Err.ensures.counted

-- all pairs came into the copy
pub returns-in-Ok-copied-clause-left : goal.returns-in-Ok-copied-clause-left
returns-in-Ok-copied-clause-left g c told = copy_made (g.F.D.Disk.history c.copy_file-copied.new.to) (c.give.ensures.held told) (c.in-Ok-copied.ensures.copied told)

-- they didn't, and it was removed
pub returns-in-Ok-remove-clause-left : goal.returns-in-Ok-remove-clause-left
returns-in-Ok-remove-clause-left g c told =
    removed_made (seen (g.F.D.Disk.history c.args.from.now)) (g.F.Files.held c.args.files.now c.args.name.now) (g.F.Files.held c.remove.new.self c.args.name.now) (c.in-Ok-remove.ensures.gone told)
    c.in-Err-copied.refusal c.from.result (rw c.in-Err-copied.is at c.from.ensures) (c.in-Err-copied.ensures.refused told)

pub returns-in-Ok-remove-clause-known : goal.returns-in-Ok-remove-clause-known
returns-in-Ok-remove-clause-known g c = refused_known _ c.from.result c.from.ensures

-- a call failed
pub returns-in-Err-Copy-Read-clause-left : goal.returns-in-Err-Copy-Read-clause-left
returns-in-Err-Copy-Read-clause-left g c told = copy_failed

pub returns-in-Err-remove-clause-left : goal.returns-in-Err-remove-clause-left
returns-in-Err-remove-clause-left g c told = copy_failed

-- what logs heard of it
pub returns-in-Err-clause-heard : goal.returns-in-Err-clause-heard
returns-in-Err-clause-heard g c told =
    untaken_told (seen (g.F.D.Disk.history c.args.from.now)) g.F.D.Disk.tells c.in-Err.ending (g.L.Logs.logs c.args.logs.now) told c.in-Err.ensures.known

pub returns-in-Ok-copied-clause-heard : goal.returns-in-Ok-copied-clause-heard
returns-in-Ok-copied-clause-heard g c told = inl (inl refl, c.in-Ok-copied.ensures.told told)

pub returns-in-Err-Copy-Read-clause-heard : goal.returns-in-Err-Copy-Read-clause-heard
returns-in-Err-Copy-Read-clause-heard g c told =
    let img = seen (g.F.D.Disk.history c.args.from.now) in
    inr (_, inr refl, IfErr-at_err (λ e. IsTrue g.F.D.Disk.tells → RefusalHeard img (g.L.Logs.logs c.args.logs.now) (g.L.Logs.logs c.copy_file-copied.new.logs) e) c.in-Err-Copy-Read.is c.copy_file-copied.ensures.heard told)

pub returns-in-Ok-remove-clause-heard : goal.returns-in-Ok-remove-clause-heard
returns-in-Ok-remove-clause-heard g c told = inr (c.in-Err-copied.refusal, inl (rw c.in-Err-copied.is at c.from.ensures), c.in-Err-copied.ensures.heard told)

pub returns-in-Err-remove-clause-heard : goal.returns-in-Err-remove-clause-heard
returns-in-Err-remove-clause-heard g c told = inr (c.in-Err-copied.refusal, inr refl, c.in-Err-copied.ensures.heard told)
