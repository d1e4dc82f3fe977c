-- The command in the words of the law, and what it leaves to a commit.
use Rattle.std.proofs.Common.{ℕ, refl, ◌∙◌, ap, subst}
use Rattle.std.specs.Prelude.{◌&&◌, ◌||◌, Contains}
use Rattle.tdb_law.specs.Commands.{is_done}
use Rattle.tdb_law.specs.Commands.Command.{OnMap}
use Rattle.tdb_law.specs.Commands.Turn.{Ends}
use Rattle.tdb_steps.specs.Room.{FullExactly}
use Rattle.tdb_txn.specs.Txn.{txn_image}
use Rattle.tdb_disk.specs.History.{seen}
use Rattle.tdb_steps.specs.PlainCommands.{IsKeyed, command_of, reply_of}
use Rattle.tdb_steps.specs.Turns.{number_of}
use Rattle.tdb_walk.specs.declared.standing.Standing.TheVariants.{On}
use Rattle.tdb_walk.specs.NextLive.{StandsIn}
use Rattle.tdb_txn_turns.specs.InsideTxn.Done.{ImageDone}
use Rattle.tdb_txn_turns.specs.InsideTxn.Spared.{WalkKept}
use Rattle.tdb_txn_turns.specs.InsideTxn.OwnTxns.{form_of, image_of}
use Rattle.tdb_txn_turns.proofs.InsideTxn.Fronts.{may_commit_still, accepted_as}
use Rattle.tdb_txn_turns.proofs.InsideTxn.PlainWalks.{plain_walks}
use Rattle.tdb_txn_turns.proofs.InsideTxn.Turned.{run_inside}
use Rattle.tdb_txn_turns.proofs.inside_txn.own_txn.OwnTxn.run.Goals as goal

pub returns-clause-turned : goal.returns-clause-turned
returns-clause-turned g c told A x R =
    let old = c.args.self.now in
    let base = seen (g.D.Disk.history c.args.d.now) in
    let e = c.in_ok-reply.ensures in
    run_inside x old (record { txn = c.take_in_pages-reply.new.txn; changed = old.changed || c.has_changed.result; numbered = old.numbered }) base (command_of c.args.command) (number_of (form_of old) base) (reply_of c.in_ok-reply.reply)
    (record { form = e.form; start = e.start; depth = e.depth; doomed = e.doomed; numbered = refl }) R
    (subst (λ d. ImageDone (form_of old) (image_of old base) (txn_image c.take_in_pages-reply.new.txn base) (command_of d.command) d.seqnum (reply_of c.in_ok-reply.reply)) c.new-machine.ensures (e.done told A))
    (ap (λ b. old.changed || b) (c.has_changed.ensures ∙ ap (λ b. b && is_done (reply_of c.in_ok-reply.reply)) c.changes-changes.ensures))

pub returns-clause-full : goal.returns-clause-full
returns-clause-full g c told A =
    let old = c.args.self.now in
    let base = seen (g.D.Disk.history c.args.d.now) in
    subst (λ d. FullExactly (form_of old) (image_of old base) c.args.limit (OnMap (command_of d.command)) (Ends (reply_of c.in_ok-reply.reply))) c.new-machine.ensures (c.in_ok-reply.ensures.full told A)

pub returns-clause-commits : goal.returns-clause-commits
returns-clause-commits g c told M =
    let old = c.args.self.now in
    let base = seen (g.D.Disk.history c.args.d.now) in
    let e = c.in_ok-reply.ensures in
    let D = e.done told (accepted_as old.txn base M) in
    may_commit_still old.txn c.take_in_pages-reply.new.txn base e.form D.accepted D.front M

pub returns-clause-walks : goal.returns-clause-walks
returns-clause-walks g c told walk R entered x granted =
    let old = c.args.self.now in
    let base = seen (g.D.Disk.history c.args.d.now) in
    let e = c.in_ok-reply.ensures in
    let a = image_of old base in
    let b = txn_image c.take_in_pages-reply.new.txn base in
    let r = reply_of c.in_ok-reply.reply in
    plain_walks x old (record { txn = c.take_in_pages-reply.new.txn; changed = old.changed || c.has_changed.result; numbered = old.numbered }) base walk c.args.command r c.args.stood_on.now
    (record { form = e.form; start = e.start; depth = e.depth; doomed = e.doomed; numbered = refl }) R entered granted (e.done told R.accepted).accepted
    (subst (λ d. IsKeyed d.command → (chain off : ℕ) → Contains c.args.stood_on.now off → StandsIn (form_of old) a (On chain off) → WalkKept (form_of old) a b chain off (command_of d.command) r) c.new-machine.ensures (e.walks told R.accepted))
