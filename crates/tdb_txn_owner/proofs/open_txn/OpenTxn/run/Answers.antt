-- The command in the words of the law.
use Rattle.std.proofs.Common.{refl}
use Rattle.tdb_disk.specs.History.{seen}
use Rattle.tdb_law.specs.Commands.Command.{OnMap}
use Rattle.tdb_steps.specs.PlainCommands.{command_of}
use Rattle.tdb_txn_turns.specs.InsideTxn.Walks.{with_cursor}
use Rattle.tdb_txn_turns.proofs.InsideTxn.Fronts.{accepted_as}
use Rattle.tdb_txn_owner.proofs.Opened.{goes_by, granted_as, starved, weaker, weaker_with}
use Rattle.tdb_txn_turns.specs.InsideTxn.OwnTxns.{form_of, image_of}
use Rattle.tdb_txn_owner.proofs.Room.{memory_full, reply_full}
use Rattle.tdb_txn_owner.proofs.open_txn.OpenTxn.run.Goals as goal

pub returns-in-Ok-clause-turned : goal.returns-in-Ok-clause-turned
returns-in-Ok-clause-turned g c =
    let t = c.args.self.now in
    let base = seen (g.D.Disk.history c.args.d.now) in
    let command = OnMap (command_of c.args.command) in
    weaker_with c.run.result _ _ _
    (λ reply turned walks told o x H Rest M R.
    let granted = granted_as o t base x command H R in
    goes_by o t (record { own = c.run.new.self; held = t.held; walk = t.walk; counts = _; few = _ }) base x command reply H refl
    (turned told (accepted_as t.own.txn base M) (with_cursor x t.walk) granted)
    (walks told t.walk Rest c.in-Ok.ensures x granted)) c.run.ensures.turned c.run.ensures.walks

pub returns-in-Err-clause-turned : goal.returns-in-Err-clause-turned
returns-in-Err-clause-turned g c told o x H Rest M R =
    let t = c.args.self.now in
    let base = seen (g.D.Disk.history c.args.d.now) in
    starved o t base x (command_of c.args.command) H (accepted_as t.own.txn base M) R

-- Full, as the transaction's own machine tells it
pub returns-in-Ok-clause-full : goal.returns-in-Ok-clause-full
returns-in-Ok-clause-full g c =
    let t = c.args.self.now in
    let base = seen (g.D.Disk.history c.args.d.now) in
    weaker c.run.result _ _
    (λ reply full told M. reply_full (form_of t.own) (image_of t.own base) c.args.limit (OnMap (command_of c.args.command)) reply (full told (accepted_as t.own.txn base M))) c.run.ensures.full

pub returns-in-Err-clause-full : goal.returns-in-Err-clause-full
returns-in-Err-clause-full g c told M =
    let t = c.args.self.now in
    memory_full (form_of t.own) (image_of t.own (seen (g.D.Disk.history c.args.d.now))) c.args.limit (OnMap (command_of c.args.command))
