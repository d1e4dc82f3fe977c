use Rattle.std.proofs.Common.{◌≡◌, [], true, Some, sym, subst}
use Rattle.tdb_disk.specs.History.{seen, began}
use Rattle.tdb_disk.specs.declared.files.Take.TheVariants.{ReadOnly, New}
use Rattle.tdb_answer.specs.Commands.Mend.{StaysSynced}
use Rattle.tdb_answer.proofs.Damaged.{if_some_weaker, stays_synced}
use Rattle.tdb_answer.proofs.Held.{held_there}
use Rattle.tdb_answer.proofs.Mending.{synced_there}
use Rattle.tdb_answer.proofs.commands.mend.can_be_mended.Goals as goal
use Rattle.tdb_answer.proofs.commands.mend.can_be_mended.Goals.{After-give}

-- the file that was taken is what was held at its name
there : (g : _) (c : After-give g) → g.F.D.Disk.tells ≡ true → g.F.Files.held c.args.files.now c.args.file.now ≡ Some (g.F.D.Disk.history c.in-Ok.disk)
there g c told = held_there (g.F.Files.held c.args.files.now c.args.file.now) (began []) (g.F.D.Disk.history c.in-Ok.disk)
    (λ none. let alone : ReadOnly ≡ New → ⊥ = (λ e. cc) in let wrong = (c.in-Ok.ensures.missing told).1 (none, alone) in cc) (c.in-Ok.ensures.disk told)

pub returns-clause-mends : goal.returns-clause-mends
returns-clause-mends g c =
    let a = (goal.at.returns-clause-mends g c).After-give in
    if_some_weaker c.look_damaged-mends.result _ _ (λ b so told. (g.F.D.Disk.history c.in-Ok.disk, there g a told, so told)) c.look_damaged-mends.ensures.mends

pub returns-clause-kept : goal.returns-clause-kept
returns-clause-kept g c told =
    synced_there (g.F.Files.held c.args.files.now c.args.file.now) (g.F.Files.held c.give.new.self c.args.file.now) (g.F.D.Disk.history c.in-Ok.disk) (g.F.D.Disk.history c.look_damaged-mends.new.disk)
    (there g ((goal.at.returns-clause-kept g c).After-give) told) (c.give.ensures.held told) c.look_damaged-mends.ensures.tried

-- it wasn't taken
pub returns-in-Err-clause-kept : goal.returns-in-Err-clause-kept
returns-in-Err-clause-kept g c told =
    let held = g.F.Files.held c.args.files.now c.args.file.now in
    subst (StaysSynced held) (sym (c.in-Err.ensures.refused_held c.args.file.now)) (stays_synced held)
