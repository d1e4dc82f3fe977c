-- The view of the pages shows them over the file, which no turn writes.
use Rattle.std.proofs.Common.{◌<◌, [], refl, sym, ◌∙◌, ap}
use Rattle.std.specs.Prelude.{◌^◌, IsTrue}
use Rattle.tdb_disk.specs.History.{seen}
use Rattle.tdb_space.specs.Accepted.{AcceptWith}
use Rattle.tdb_steps.specs.PlainCommands.{reply_of}
use Rattle.tdb_txn.specs.Txn.{txn_form, txn_image, txn_size}
use Rattle.tdb_txn_turns.specs.InsideTxn.Walks.{CursorDone, RestsIn}
use Rattle.tdb_txn_turns.proofs.InsideTxn.Overlays.{first_name, over_file, weaker}
use Rattle.tdb_txn_turns.proofs.inside_txn.walking.walk_in_pages.Goals as goal

pub returns-clause-done : goal.returns-clause-done
returns-clause-done g c =
    let d = ap (λ x. seen (g.D.Disk.history x)) c.new-view.ensures.disk in
    let h = ap (λ s. seen s.history) (c.take_walk.ensures.wrote.disk refl) in
    let kept = first_name _ _ _ _ c.take_walk.ensures.wrote.under in
    weaker c.take_walk.result _ _ (λ reply done told A R. done told c.requires.short A R)
    (over_file c.take_walk.result
    (λ old base new then reply. IsTrue g.D.Disk.tells → txn_size old < 2 ^ 32 → AcceptWith (txn_form old) (txn_image old base) [] → RestsIn (txn_form old) (txn_image old base) c.args.walk.now
    → CursorDone (txn_form old) (txn_image old base) (txn_image new then) c.args.goal c.args.walk.now c.take_walk.new.walk (reply_of reply))
    c.args.txn.now c.new-view.result.txn.now _ c.take_walk.new.s.txn.now (seen (g.D.Disk.history c.args.d.now)) (seen (g.D.Disk.history c.new-view.result.disk.now)) (seen (g.D.Disk.history c.take_walk.new.s.disk.now))
    c.new-view.ensures.txn d (h ∙ d) (sym (c.txn-1.given.1 (sym c.new-view.ensures.same_txn ∙ sym kept))) c.take_walk.ensures.done)
