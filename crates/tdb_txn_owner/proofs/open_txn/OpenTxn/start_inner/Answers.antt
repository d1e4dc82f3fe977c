-- It is one of the law's turns.
use Rattle.std.proofs.Common.{refl}
use Rattle.tdb_locks.specs.declared.turn.Reply.{Reply}
use Rattle.tdb_law.specs.Commands.GroupCommand.{Start}
use Rattle.tdb_law.specs.Commands.Command.{OnGroup}
use Rattle.tdb_steps.specs.Turns.{number_of}
use Rattle.tdb_txn_turns.specs.InsideTxn.OwnTxns.{image_of, form_of}
use Rattle.tdb_txn_turns.specs.InsideTxn.Walks.{with_cursor}
use Rattle.tdb_txn_owner.proofs.Opened.{goes_still, granted_as, same_image}
use Rattle.tdb_txn_owner.proofs.open_txn.OpenTxn.start_inner.Goals as goal

pub returns-clause-turned : goal.returns-clause-turned
returns-clause-turned c o base x H R =
    let t = c.args.self.now in
    let own = c.start_inner.new.self in
    goes_still o t _ base x (OnGroup Start) Reply.Ok H refl tt (same_image t.own own base c.start_inner.ensures.view) c.start_inner.ensures.view.form refl
    (c.start_inner.ensures.turned (form_of t.own) base (with_cursor x t.walk) (number_of (form_of t.own) base) (number_of (form_of t.own) (image_of t.own base)) (granted_as o t base x (OnGroup Start) H R))
