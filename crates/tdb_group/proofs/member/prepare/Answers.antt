-- The length isn't told, before or afterwards; or the disk failed in the Prepare; or that is done, or isn't.
use Rattle.std.proofs.Common.{Err, None, Ok, sym, ap, subst, subst₂}
use Rattle.std.proofs.lemmas.Result.{err_from_is_err_and}
use Rattle.tdb_law.specs.Commands.Command.{OnGroup}
use Rattle.tdb_law.specs.Commands.GroupCommand.{Prepare}
use Rattle.tdb_world.specs.OverFile.{OverFile}
use Rattle.tdb_group.specs.Files.{Prepared}
use Rattle.tdb_group.specs.Turns.{Did, Ran}
use Rattle.tdb_group.proofs.Parts.{as_io, length_told, prepared_failed, prepared_not, prepared_so, prepared_unmeasured}
use Rattle.tdb_group.proofs.member.prepare.Goals as goal

pub returns-in_err-from-clause-prepared : goal.returns-in_err-from-clause-prepared
returns-in_err-from-clause-prepared g c =
    let q = err_from_is_err_and c.from_residual.result c.from_residual.ensures.1 in
    rw (q.1, q.2)
    (prepared_not g.D.Disk.tells c.args.world.now c.length.new.self (ap (λ (w : OverFile). w.history) c.in_err-from.ensures.kept) c.in_err-from.ensures.cause.failed)

pub returns-in_err-reply-clause-prepared : goal.returns-in_err-reply-clause-prepared
returns-in_err-reply-clause-prepared g c =
    let q = err_from_is_err_and c.from_residual-in_err-reply.result c.from_residual-in_err-reply.ensures.1 in
    let same = length_told c.args.world.now c.length.new.self c.in_ok-from.from c.requires.unspent c.in_ok-from.ensures.kept c.in_ok-from.ensures.cause in
    rw (q.1, q.2)
    (as_io (λ e. Did g.D.Disk.tells (OnGroup Prepare) None c.args.world.now c.do_command.new.world (Err e)) (λ e. Prepared g.D.Disk.tells c.args.world.now c.do_command.new.world (Err e))
    c.in_err-reply.field-0.0 c.in_err-reply.ensures.fault.0
    (λ D. prepared_failed g.D.Disk.tells c.args.world.now c.do_command.new.world D)
    (subst (λ w. Did g.D.Disk.tells (OnGroup Prepare) None w c.do_command.new.world (Err c.in_err-reply.field-0.0)) same c.in_err-reply.ensures.did))

pub returns-in_err-to-clause-prepared : goal.returns-in_err-to-clause-prepared
returns-in_err-to-clause-prepared g c =
    let q = err_from_is_err_and c.from_residual-in_err-to.result c.from_residual-in_err-to.ensures.1 in
    let same = length_told c.args.world.now c.length.new.self c.in_ok-from.from c.requires.unspent c.in_ok-from.ensures.kept c.in_ok-from.ensures.cause in
    rw (q.1, q.2)
    (prepared_unmeasured g.D.Disk.tells c.args.world.now c.do_command.new.world c.in_ok-reply.reply c.length-2.new.self (ap (λ (w : OverFile). w.history) c.in_err-to.ensures.kept) c.in_err-to.ensures.cause.failed
    (subst (λ w. Ran w c.do_command.new.world (Ok c.in_ok-reply.reply)) same c.in_ok-reply.ensures.ran)
    (subst (λ w. Did g.D.Disk.tells (OnGroup Prepare) None w c.do_command.new.world (Ok c.in_ok-reply.reply)) same c.in_ok-reply.ensures.did))

pub returns-clause-prepared : goal.returns-clause-prepared
returns-clause-prepared g c =
    let same = length_told c.args.world.now c.length.new.self c.in_ok-from.from c.requires.unspent c.in_ok-from.ensures.kept c.in_ok-from.ensures.cause in
    let later = length_told c.do_command.new.world c.length-2.new.self c.in_ok-to.to c.in_ok-reply.ensures.ran.unspent c.in_ok-to.ensures.kept c.in_ok-to.ensures.cause in
    subst₂ (λ w a. Prepared g.D.Disk.tells c.args.world.now w a) (sym later) (sym c.prepare_answer.ensures)
    (prepared_so g.D.Disk.tells c.args.world.now c.do_command.new.world c.in_ok-reply.reply c.tell_growth.result
    (subst (λ w. Ran w c.do_command.new.world (Ok c.in_ok-reply.reply)) same c.in_ok-reply.ensures.ran)
    (subst (λ w. Did g.D.Disk.tells (OnGroup Prepare) None w c.do_command.new.world (Ok c.in_ok-reply.reply)) same c.in_ok-reply.ensures.did))
