use Rattle.std.proofs.Common.{inr}
use Rattle.tdb_answer.specs.declared.ending.Ending.TheVariants.{DeviceFault}
use Rattle.tdb_answer.specs.declared.ending.Reply.TheVariants.{Done}
use Rattle.tdb_answer.proofs.Hearing.{opened_below_as}
use Rattle.tdb_answer.proofs.Repacking.{renamed_left, unnamed_left}
use Rattle.tdb_answer.proofs.commands.repack.repack_at.Goals as goal

-- the new file got the name
pub returns-in-Ok-rename-clause-left : goal.returns-in-Ok-rename-clause-left
returns-in-Ok-rename-clause-left g c told =
    let held = g.F.Files.held in
    let file = c.args.file.now in
    let new = c.args.new.now in
    renamed_left c.args.limit file (held c.args.files.now file) (held c.repack_opened.new.files file) (held c.rename.new.self file) (held c.args.files.now new) (held c.repack_opened.new.files new) (held c.rename.new.self new)
    (c.in-Ok.ensures.made told) (c.in-Ok-rename.ensures.to told) (c.in-Ok-rename.ensures.from told)

-- it didn't get it
pub returns-in-Err-rename-clause-left : goal.returns-in-Err-rename-clause-left
returns-in-Err-rename-clause-left g c told =
    let held = g.F.Files.held in
    let file = c.args.file.now in
    let new = c.args.new.now in
    unnamed_left c.args.limit file (held c.args.files.now file) (held c.repack_opened.new.files file) (held c.rename.new.self file) (held c.args.files.now new) (held c.repack_opened.new.files new) (held c.rename.new.self new)
    (c.in-Ok.ensures.made told) (c.in-Err-rename.ensures.kept file)

pub returns-in-Err-rename-clause-heard : goal.returns-in-Err-rename-clause-heard
returns-in-Err-rename-clause-heard g c told =
    opened_below_as c.args.limit (g.F.Files.held c.args.files.now c.args.file.now) Done DeviceFault (g.L.Logs.logs c.args.logs.now) (g.L.Logs.logs c.repack_opened.new.logs) (λ is. cc) (c.in-Ok.ensures.heard told)

-- it wasn't made
pub returns-in-Err-clause-left : goal.returns-in-Err-clause-left
returns-in-Err-clause-left g c told = inr (c.in-Err.ensures.refused told)
