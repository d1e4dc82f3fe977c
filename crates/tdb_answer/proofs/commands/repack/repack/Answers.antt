use Rattle.std.proofs.Common.{◌∙◌, subst}
use Rattle.tdb_answer.specs.Commands.Repack.{RepackLeft}
use Rattle.tdb_answer.proofs.Hearing.{print_wanting}
use Rattle.tdb_answer.proofs.Repacking.{repack_wants}
use Rattle.tdb_answer.proofs.commands.repack.repack.Goals as goal

-- the new file was made beside it
pub returns-in-Ok-clause-left : goal.returns-in-Ok-clause-left
returns-in-Ok-clause-left g c told =
    let old = g.F.Files.held c.args.files.now in
    let now = g.F.Files.held c.repack_at.new.files in
    let file = c.args.file.now in
    subst (λ n. RepackLeft c.args.limit file (old file) (now file) (old n) (now n) c.repack_at.result) (c.as_str.ensures ∙ c.in-Ok.ensures) (c.repack_at.ensures.left told)

-- memory was wanting for its name
pub returns-in-Err-clause-left : goal.returns-in-Err-clause-left
returns-in-Err-clause-left g c told = repack_wants c.args.limit c.args.file.now (g.F.Files.held c.args.files.now)

pub returns-in-Err-clause-heard : goal.returns-in-Err-clause-heard
returns-in-Err-clause-heard g c told = print_wanting c.args.limit (g.F.Files.held c.args.files.now c.args.file.now) (g.L.Logs.logs c.args.logs.now)
