-- Nobody could join; or the Start is done, or isn't, or the disk failed.
use Rattle.std.proofs.Common.{Err, None, sym, ◌∙◌, subst}
use Rattle.std.proofs.lemmas.Result.{err_from_is_err_and}
use Rattle.tdb_law.specs.Commands.Command.{OnGroup}
use Rattle.tdb_law.specs.Commands.GroupCommand.{Start}
use Rattle.tdb_group.specs.Files.{Started}
use Rattle.tdb_group.specs.Turns.{Did}
use Rattle.tdb_group.specs.declared.stop.FileStop.TheVariants.{Memory}
use Rattle.tdb_group.proofs.Parts.{as_io, not_started, started_failed, started_no, started_yes}
use Rattle.tdb_group.proofs.member.start.Goals as goal

pub returns-in_default-clause-started : goal.returns-in_default-clause-started
returns-in_default-clause-started g c = subst (λ w. Started g.D.Disk.tells c.args.world.now w (Err Memory)) (sym c.in_default.ensures.err) (not_started g.D.Disk.tells c.args.world.now)

pub returns-in_err-reply-clause-started : goal.returns-in_err-reply-clause-started
returns-in_err-reply-clause-started g c =
    let q = err_from_is_err_and c.from_residual.result c.from_residual.ensures.1 in
    rw (q.1, q.2)
    (as_io (λ e. Did g.D.Disk.tells (OnGroup Start) None c.join.new.self c.do_command.new.world (Err e)) (λ e. Started g.D.Disk.tells c.args.world.now c.do_command.new.world (Err e))
    c.in_err-reply.field-0.0 c.in_err-reply.ensures.fault.0
    (λ D. started_failed g.D.Disk.tells c.args.world.now c.join.new.self c.do_command.new.world c.in-Ok.field-0 c.in-Ok.ensures.joined D) c.in_err-reply.ensures.did)

pub returns-then-was_done-clause-started : goal.returns-then-was_done-clause-started
returns-then-was_done-clause-started g c =
    started_yes g.D.Disk.tells c.args.world.now c.join.new.self c.do_command.new.world c.in-Ok.field-0 c.in-Ok.ensures.joined c.in_ok-reply.reply (sym c.was_done.ensures ∙ c.if-was_done.true) c.in_ok-reply.ensures.ran c.in_ok-reply.ensures.did

pub returns-clause-started : goal.returns-clause-started
returns-clause-started g c =
    started_no g.D.Disk.tells c.args.world.now c.join.new.self c.do_command.new.world c.in-Ok.field-0 c.in-Ok.ensures.joined c.in_ok-reply.reply (sym c.was_done.ensures ∙ c.if-was_done.false) c.in_ok-reply.ensures.ran c.in_ok-reply.ensures.did
