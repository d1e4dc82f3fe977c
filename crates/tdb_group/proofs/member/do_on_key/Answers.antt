-- There is no memory for a copy, or the command is done in the turns that it takes, or the disk failed.
use Rattle.std.proofs.Common.{Err, None, Ok, subst}
use Rattle.std.proofs.lemmas.Result.{err_from_is_err_and}
use Rattle.tdb_commands.specs.InLaw.{law_command}
use Rattle.tdb_group.specs.Files.{Applied}
use Rattle.tdb_group.specs.Turns.{Did, Ran}
use Rattle.tdb_group.proofs.Parts.{applied_done, applied_failed, applied_none, applied_not, as_io, on_key}
use Rattle.tdb_group.proofs.member.do_on_key.Goals as goal

pub returns-in_default-clause-applied : goal.returns-in_default-clause-applied
returns-in_default-clause-applied g c = applied_not g.D.Disk.tells (law_command c.args.command) c.args.world.now

pub returns-in_err-reply-clause-applied : goal.returns-in_err-reply-clause-applied
returns-in_err-reply-clause-applied g c =
    let K = on_key c.args.command c.requires.on_key in
    let q = err_from_is_err_and c.from_residual.result c.from_residual.ensures.1 in
    rw (q.1, q.2)
    (as_io (λ e. Did g.D.Disk.tells (law_command c.args.command) None c.args.world.now c.do_command.new.world (Err e)) (λ e. Applied g.D.Disk.tells (law_command c.args.command) c.args.world.now c.do_command.new.world (Err e))
    c.in_err-reply.field-0.0 c.in_err-reply.ensures.fault.0
    (λ D. applied_failed g.D.Disk.tells (law_command c.args.command) K.on K.is K.keyed c.args.world.now c.do_command.new.world D) c.in_err-reply.ensures.did)

pub returns-in-Some-clause-applied : goal.returns-in-Some-clause-applied
returns-in-Some-clause-applied g c =
    let K = on_key c.args.command c.requires.on_key in
    applied_done g.D.Disk.tells (law_command c.args.command) K.on K.is K.keyed c.args.world.now c.do_command.new.world c.in-Some.reply
    (subst (λ r. Ran c.args.world.now c.do_command.new.world (Ok r)) c.in-Some.is c.in_ok-reply.ensures.ran)
    (subst (λ r. Did g.D.Disk.tells (law_command c.args.command) None c.args.world.now c.do_command.new.world (Ok r)) c.in-Some.is c.in_ok-reply.ensures.did)

pub returns-in-None-clause-applied : goal.returns-in-None-clause-applied
returns-in-None-clause-applied g c =
    let K = on_key c.args.command c.requires.on_key in
    applied_none g.D.Disk.tells (law_command c.args.command) K.on K.is K.keyed c.args.world.now c.do_command.new.world
    (subst (λ r. Did g.D.Disk.tells (law_command c.args.command) None c.args.world.now c.do_command.new.world (Ok r)) c.in-None.is c.in_ok-reply.ensures.did)
