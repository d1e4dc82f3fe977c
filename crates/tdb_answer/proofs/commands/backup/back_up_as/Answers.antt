use Rattle.std.proofs.Common.{inl, inr, refl, sym}
use Rattle.tdb_answer.specs.declared.ending.Ending.TheVariants.{Replied, DeviceFault}
use Rattle.tdb_answer.specs.declared.ending.Reply.TheVariants.{Copied}
use Rattle.tdb_answer.proofs.Acting.{rose_earlier}
use Rattle.tdb_answer.proofs.BackingUp.{one_stopped, one_copied, one_unnamed}
use Rattle.tdb_answer.proofs.Hearing.{copied_as}
use Rattle.tdb_answer.proofs.commands.backup.back_up_as.Goals as goal

-- the file wasn't copied
pub returns-in-Err-clause-done : goal.returns-in-Err-clause-done
returns-in-Err-clause-done g c told =
    one_stopped c.args.file.now c.args.copy.now c.args.new.now (g.F.Files.held c.args.files.now) (g.F.Files.held c.copy_opened.new.files) (g.F.Files.faults c.args.files.now) (g.F.Files.faults c.copy_opened.new.files)
    c.in-Err.ending (c.in-Err.ensures.copied told) c.in-Err.ensures.refused c.in-Err.ensures.counted.failed
    (c.copy_opened.ensures.others c.args.copy.now c.requires.copy_differs (λ is. c.requires.both_differ (sym is)))

-- it was, and the copy got its name
pub returns-in-Ok-rename-clause-done : goal.returns-in-Ok-rename-clause-done
returns-in-Ok-rename-clause-done g c told =
    one_copied c.args.file.now c.args.copy.now c.args.new.now (g.F.Files.held c.args.files.now) (g.F.Files.held c.copy_opened.new.files) (g.F.Files.faults c.args.files.now) (g.F.Files.faults c.copy_opened.new.files)
    (Replied Copied) (c.in-Ok.ensures.copied told) (g.F.Files.held c.rename.new.self) (g.F.Files.faults c.rename.new.self) refl
    (c.rename.ensures.others c.args.file.now (λ same. c.requires.new_differs (sym same)) (λ same. c.requires.copy_differs (sym same))) (c.in-Ok-rename.ensures.to told) (c.in-Ok-rename.ensures.from told)

-- it didn't get it
pub returns-in-Err-rename-clause-done : goal.returns-in-Err-rename-clause-done
returns-in-Err-rename-clause-done g c told =
    let before = g.F.Files.faults c.args.files.now in
    let between = g.F.Files.faults c.copy_opened.new.files in
    let after = g.F.Files.faults c.rename.new.self in
    one_unnamed c.args.file.now c.args.copy.now c.args.new.now (g.F.Files.held c.args.files.now) (g.F.Files.held c.copy_opened.new.files) before between
    (Replied Copied) (c.in-Ok.ensures.copied told) (g.F.Files.held c.rename.new.self) after refl (λ name. c.in-Err-rename.ensures.kept name)
    (c.copy_opened.ensures.others c.args.copy.now c.requires.copy_differs (λ same. c.requires.both_differ (sym same)))
    (rose_earlier before between after c.copy_opened.ensures.counted.never_falls c.in-Err-rename.ensures.cause.failed)

pub returns-in-Err-rename-clause-heard : goal.returns-in-Err-rename-clause-heard
returns-in-Err-rename-clause-heard g c told =
    copied_as (g.F.Files.held c.args.files.now c.args.file.now) DeviceFault (g.L.Logs.logs c.args.logs.now) (g.L.Logs.logs c.copy_opened.new.logs) (inr (inl refl)) (c.in-Ok.ensures.heard told)
