-- The copy of the key found no memory, the disk failed, or the command replied.
use Rattle.std.proofs.Common.{◌<◌, ◌^◌, length, subst, sym}
use Rattle.std.proofs.lemmas.Result.{err_from_is_err_and}
use Rattle.tdb_move.specs.declared.fault.MoveFault.TheVariants.{Device, KeyMissing}
use Rattle.tdb_move.proofs.Parts.{did_failed, did_goes, did_goes_failed, did_went, goes_none, went_none}
use Rattle.tdb_move.proofs.Steps.{as_done, stored_so, done_not, done_there, stop_there}
use Rattle.tdb_move.proofs.moving.store.Goals as goal

pub apply-requires-clause-short : goal.apply-requires-clause-short
apply-requires-clause-short g c = (subst (λ k. length k < 2 ^ 32) (sym c.in_ok-key.ensures) c.requires.key_short, c.requires.value_short)

pub returns-in_err-key-clause-went : goal.returns-in_err-key-clause-went
returns-in_err-key-clause-went g c =
    let q = err_from_is_err_and c.from_residual.result c.from_residual.ensures.1 in
    rw (q.1, q.2) (went_none g.D.Disk.tells c.args.group.now c.requires.none)

pub returns-in_err-key-clause-goes : goal.returns-in_err-key-clause-goes
returns-in_err-key-clause-goes g c =
    let q = err_from_is_err_and c.from_residual.result c.from_residual.ensures.1 in
    rw (q.1, q.2) (goes_none g.D.Disk.tells c.args.group.now c.requires.«open»)

pub returns-in_err-reply-clause-went : goal.returns-in_err-reply-clause-went
returns-in_err-reply-clause-went g c =
    let q = err_from_is_err_and c.from_residual-in_err-reply.result c.from_residual-in_err-reply.ensures.1 in
    rw (q.1, q.2) (did_failed g.D.Disk.tells _ _ _ _ c.in_err-reply.field-0.0 c.in_err-reply.ensures)

pub returns-in_err-reply-clause-goes : goal.returns-in_err-reply-clause-goes
returns-in_err-reply-clause-goes g c =
    let q = err_from_is_err_and c.from_residual-in_err-reply.result c.from_residual-in_err-reply.ensures.1 in
    rw (q.1, q.2) (did_goes_failed g.D.Disk.tells _ _ _ _ c.in_err-reply.field-0.0 c.in_err-reply.ensures)

pub returns-in_err-reply-clause-fault : goal.returns-in_err-reply-clause-fault
returns-in_err-reply-clause-fault g c =
    let q = err_from_is_err_and c.from_residual-in_err-reply.result c.from_residual-in_err-reply.ensures.1 in
    rw (q.1, q.2) (stop_there c.in_err-reply.field-0.0)

pub returns-clause-went : goal.returns-clause-went
returns-clause-went g c =
    did_went g.D.Disk.tells _ _ _ _ c.in_ok-reply.reply c.done.result (as_done Device c.in_ok-reply.reply c.done.result c.done.ensures (done_not c.in_ok-reply.reply)) c.in_ok-reply.ensures

pub returns-clause-goes : goal.returns-clause-goes
returns-clause-goes g c = did_goes g.D.Disk.tells _ _ _ _ c.in_ok-reply.reply c.done.result c.requires.«open» c.in_ok-reply.ensures

pub returns-clause-fault : goal.returns-clause-fault
returns-clause-fault g c = as_done KeyMissing c.in_ok-reply.reply c.done.result c.done.ensures (done_there c.in_ok-reply.reply)

pub returns-clause-stored : goal.returns-clause-stored
returns-clause-stored g c told ps has =
    stored_so g.D.Disk.tells _ _ c.args.key.now c.in_ok-reply.reply _ c.args.value c.in_ok-key.ensures c.in_ok-reply.ensures c.done.result c.done.ensures told ps has
