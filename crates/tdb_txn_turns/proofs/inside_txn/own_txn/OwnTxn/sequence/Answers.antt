-- The number that the opener sees, in the words of the law.
use Rattle.std.proofs.Common.{refl, ◌∙◌, ap, subst}
use Rattle.tdb_disk.specs.History.{seen}
use Rattle.tdb_law.specs.Commands.Command.{Seqnum}
use Rattle.tdb_law.specs.Commands.Reply.{Number}
use Rattle.tdb_law.specs.Images.{image_map}
use Rattle.tdb_steps.specs.Turns.{number_of}
use Rattle.tdb_txn_turns.specs.InsideTxn.OwnTxns.{law_txn, form_of, image_of, own_inside}
use Rattle.tdb_txn_turns.specs.InsideTxn.Turns.{TurnsInside}
use Rattle.tdb_txn_turns.proofs.InsideTxn.Nested.{numbers_inside}
use Rattle.tdb_txn_turns.proofs.InsideTxn.Turned.{same_own}
use Rattle.tdb_txn_turns.proofs.inside_txn.own_txn.OwnTxn.sequence.Goals as goal

pub returns-clause-turned : goal.returns-clause-turned
returns-clause-turned g c told whole longer x R =
    let old = c.args.self.now in
    let base = seen (g.D.Disk.history c.args.d.now) in
    let f = form_of old in
    let p = number_of f (image_of old base) in
    let e = c.in_ok-number.ensures in
    subst (λ y. TurnsInside f (own_inside x old base) y Seqnum (number_of f base) p p (Number c.from.result))
    (same_own x old (record { txn = c.number_seen.new.txn; changed = old.changed; numbered = old.numbered }) base
    (record { form = e.form; start = e.start; depth = e.depth; doomed = e.doomed; numbered = refl }) (ap (image_map f) e.image) refl)
    (numbers_inside f x (law_txn (image_map f (image_of old base)) old.txn old.changed old.numbered) (number_of f base) p c.from.result R (c.from.ensures ∙ e.value told whole longer))
