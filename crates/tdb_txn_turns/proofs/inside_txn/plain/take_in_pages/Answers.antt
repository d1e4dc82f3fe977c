-- The view of the pages shows them over the file, which no turn writes.
use Rattle.std.proofs.Common.{ℕ, [], refl, sym, ◌∙◌, ap}
use Rattle.std.specs.Prelude.{Contains, IsTrue}
use Rattle.tdb_steps.specs.PlainCommands.{IsKeyed, command_of, reply_of}
use Rattle.tdb_disk.specs.History.{seen}
use Rattle.tdb_space.specs.Accepted.{AcceptWith}
use Rattle.tdb_txn.specs.Txn.{txn_form, txn_image}
use Rattle.tdb_walk.specs.declared.standing.Standing.TheVariants.{On}
use Rattle.tdb_walk.specs.NextLive.{StandsIn}
use Rattle.tdb_law.specs.Commands.Command.{OnMap}
use Rattle.tdb_law.specs.Commands.Turn.{Ends}
use Rattle.tdb_steps.specs.Room.{FullExactly}
use Rattle.tdb_txn_turns.specs.InsideTxn.Done.{ImageDone}
use Rattle.tdb_txn_turns.specs.InsideTxn.Spared.{WalkKept}
use Rattle.tdb_txn_turns.proofs.InsideTxn.Overlays.{first_name, over_file}
use Rattle.tdb_txn_turns.proofs.inside_txn.plain.take_in_pages.Goals as goal

pub returns-clause-done : goal.returns-clause-done
returns-clause-done g c =
    let d = ap (λ x. seen (g.D.Disk.history x)) c.new-view.ensures.disk in
    let h = ap (λ s. seen s.history) (c.take_turns.ensures.wrote.disk refl) in
    let kept = first_name _ _ _ _ c.take_turns.ensures.wrote.under in
    over_file c.take_turns.result
    (λ old base new then reply. IsTrue g.D.Disk.tells → AcceptWith (txn_form old) (txn_image old base) []
    → ImageDone (txn_form old) (txn_image old base) (txn_image new then) (command_of c.args.machine.now.command) c.args.machine.now.seqnum (reply_of reply))
    c.args.txn.now c.new-view.result.txn.now _ c.take_turns.new.s.txn.now (seen (g.D.Disk.history c.args.d.now)) (seen (g.D.Disk.history c.new-view.result.disk.now)) (seen (g.D.Disk.history c.take_turns.new.s.disk.now))
    c.new-view.ensures.txn d (h ∙ d) (sym (c.txn-1.given.1 (sym c.new-view.ensures.same_txn ∙ sym kept))) c.take_turns.ensures.done

pub returns-clause-full : goal.returns-clause-full
returns-clause-full g c =
    let d = ap (λ x. seen (g.D.Disk.history x)) c.new-view.ensures.disk in
    let h = ap (λ s. seen s.history) (c.take_turns.ensures.wrote.disk refl) in
    let kept = first_name _ _ _ _ c.take_turns.ensures.wrote.under in
    over_file c.take_turns.result
    (λ old base new then reply. IsTrue g.D.Disk.tells → AcceptWith (txn_form old) (txn_image old base) []
    → FullExactly (txn_form old) (txn_image old base) c.args.limit (OnMap (command_of c.args.machine.now.command)) (Ends (reply_of reply)))
    c.args.txn.now c.new-view.result.txn.now _ c.take_turns.new.s.txn.now (seen (g.D.Disk.history c.args.d.now)) (seen (g.D.Disk.history c.new-view.result.disk.now)) (seen (g.D.Disk.history c.take_turns.new.s.disk.now))
    c.new-view.ensures.txn d (h ∙ d) (sym (c.txn-1.given.1 (sym c.new-view.ensures.same_txn ∙ sym kept))) c.take_turns.ensures.full

pub returns-clause-walks : goal.returns-clause-walks
returns-clause-walks g c =
    let d = ap (λ x. seen (g.D.Disk.history x)) c.new-view.ensures.disk in
    let h = ap (λ s. seen s.history) (c.take_turns.ensures.wrote.disk refl) in
    let kept = first_name _ _ _ _ c.take_turns.ensures.wrote.under in
    over_file c.take_turns.result
    (λ old base new then reply. IsTrue g.D.Disk.tells → AcceptWith (txn_form old) (txn_image old base) [] → IsKeyed c.args.machine.now.command → (chain off : ℕ) → Contains c.args.stood_on.now off
    → StandsIn (txn_form old) (txn_image old base) (On chain off) → WalkKept (txn_form old) (txn_image old base) (txn_image new then) chain off (command_of c.args.machine.now.command) (reply_of reply))
    c.args.txn.now c.new-view.result.txn.now _ c.take_turns.new.s.txn.now (seen (g.D.Disk.history c.args.d.now)) (seen (g.D.Disk.history c.new-view.result.disk.now)) (seen (g.D.Disk.history c.take_turns.new.s.disk.now))
    c.new-view.ensures.txn d (h ∙ d) (sym (c.txn-1.given.1 (sym c.new-view.ensures.same_txn ∙ sym kept))) c.take_turns.ensures.walks
