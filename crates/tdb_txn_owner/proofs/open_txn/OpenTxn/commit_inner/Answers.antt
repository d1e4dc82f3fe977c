-- It is one of the law's turns.
use Rattle.std.proofs.Common.{refl}
use Rattle.tdb_law.specs.Commands.GroupCommand.{Commit}
use Rattle.tdb_law.specs.Commands.Command.{OnGroup}
use Rattle.tdb_steps.specs.Turns.{number_of}
use Rattle.tdb_txn_turns.specs.InsideTxn.OwnTxns.{image_of, form_of}
use Rattle.tdb_txn_turns.specs.InsideTxn.Walks.{with_cursor}
use Rattle.tdb_txn_owner.proofs.Opened.{goes_still, same_image}
use Rattle.tdb_txn_owner.proofs.open_txn.OpenTxn.commit_inner.Goals as goal

pub returns-clause-turned : goal.returns-clause-turned
returns-clause-turned c o base x H =
    let t = c.args.self.now in
    let own = c.commit_inner.new.self in
    goes_still o t _ base x (OnGroup Commit) c.commit_inner.result H refl tt (same_image t.own own base c.commit_inner.ensures.view) c.commit_inner.ensures.view.form refl
    (c.commit_inner.ensures.turned (form_of t.own) base (with_cursor x t.walk) (number_of (form_of t.own) base) (number_of (form_of t.own) (image_of t.own base)))
