-- The Cancel is done, or the disk failed.
use Rattle.std.proofs.Common.{Err, None, not, ap, ◌∙◌}
use Rattle.std.proofs.lemmas.Result.{err_from_is_err_and}
use Rattle.tdb_law.specs.Commands.Command.{OnGroup}
use Rattle.tdb_law.specs.Commands.GroupCommand.{Cancel}
use Rattle.tdb_group.specs.Files.{Cancelled}
use Rattle.tdb_group.specs.Turns.{Did}
use Rattle.tdb_group.proofs.Parts.{as_io, cancelled_failed, cancelled_no, cancelled_yes}
use Rattle.tdb_group.proofs.member.cancel.Goals as goal

pub returns-in_err-reply-clause-cancelled : goal.returns-in_err-reply-clause-cancelled
returns-in_err-reply-clause-cancelled g c =
    let q = err_from_is_err_and c.from_residual.result c.from_residual.ensures.1 in
    rw (q.1, q.2)
    (as_io (λ e. Did g.D.Disk.tells (OnGroup Cancel) None c.args.world.now c.do_command.new.world (Err e)) (λ e. Cancelled g.D.Disk.tells c.args.world.now c.do_command.new.world (Err e))
    c.in_err-reply.field-0.0 c.in_err-reply.ensures.fault.0 (λ D. cancelled_failed g.D.Disk.tells c.args.world.now c.do_command.new.world D) c.in_err-reply.ensures.did)

pub returns-then-is_none-clause-cancelled : goal.returns-then-is_none-clause-cancelled
returns-then-is_none-clause-cancelled g c =
    cancelled_no g.D.Disk.tells c.args.world.now c.do_command.new.world c.in_ok-reply.reply (c.is_none.ensures ∙ ap not c.if-is_none.true) c.in_ok-reply.ensures.did

pub returns-clause-cancelled : goal.returns-clause-cancelled
returns-clause-cancelled g c =
    cancelled_yes g.D.Disk.tells c.args.world.now c.do_command.new.world c.in_ok-reply.reply (c.is_none.ensures ∙ ap not c.if-is_none.false) c.in_ok-reply.ensures.ran c.in_ok-reply.ensures.did
