-- The Commit is done, or the disk failed.
use Rattle.std.proofs.Common.{Err, None, sym, ◌∙◌}
use Rattle.std.proofs.lemmas.Result.{err_from_is_err_and}
use Rattle.tdb_law.specs.Commands.Command.{OnGroup}
use Rattle.tdb_law.specs.Commands.GroupCommand.{Commit}
use Rattle.tdb_group.specs.Files.{Finished}
use Rattle.tdb_group.specs.Turns.{Did}
use Rattle.tdb_group.proofs.Parts.{as_io, finished_failed, finished_no, finished_yes}
use Rattle.tdb_group.proofs.member.finish.Goals as goal

pub returns-in_err-reply-clause-finished : goal.returns-in_err-reply-clause-finished
returns-in_err-reply-clause-finished g c =
    let q = err_from_is_err_and c.from_residual.result c.from_residual.ensures.1 in
    rw (q.1, q.2)
    (as_io (λ e. Did g.D.Disk.tells (OnGroup Commit) None c.args.world.now c.do_command.new.world (Err e)) (λ e. Finished g.D.Disk.tells c.args.world.now c.do_command.new.world (Err e))
    c.in_err-reply.field-0.0 c.in_err-reply.ensures.fault.0 (λ D. finished_failed g.D.Disk.tells c.args.world.now c.do_command.new.world D) c.in_err-reply.ensures.did)

pub returns-then-was_done-clause-finished : goal.returns-then-was_done-clause-finished
returns-then-was_done-clause-finished g c =
    finished_yes g.D.Disk.tells c.args.world.now c.do_command.new.world c.in_ok-reply.reply (sym c.was_done.ensures ∙ c.if-was_done.true) c.in_ok-reply.ensures.ran c.in_ok-reply.ensures.did

pub returns-clause-finished : goal.returns-clause-finished
returns-clause-finished g c =
    finished_no g.D.Disk.tells c.args.world.now c.do_command.new.world c.in_ok-reply.reply (sym c.was_done.ensures ∙ c.if-was_done.false) c.in_ok-reply.ensures.ran c.in_ok-reply.ensures.did
