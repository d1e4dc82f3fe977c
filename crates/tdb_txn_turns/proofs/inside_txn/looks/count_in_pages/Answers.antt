-- The view of the pages shows them over the file.
use Rattle.std.proofs.Common.{◌≡◌, List, ℕ, [], ap, subst}
use Rattle.std.specs.Prelude.{Result, IfOk, IsTrue}
use Rattle.tdb_disk.specs.History.{seen}
use Rattle.tdb_space.specs.Accepted.{AcceptWith}
use Rattle.tdb_law.specs.Commands.{Reply}
use Rattle.tdb_law.specs.Commands.MapCommand.{Check}
use Rattle.tdb_law.specs.Images.{image_map}
use Rattle.tdb_steps.specs.PlainCommands.{reply_of}
use Rattle.tdb_txn.specs.Txn.{txn_form, txn_image}
use Rattle.tdb_txn.specs.declared.txn.Txn.{Txn}
use Rattle.tdb_txn_turns.specs.InsideTxn.Done.{MapDone}
use Rattle.tdb_txn_turns.proofs.inside_txn.looks.count_in_pages.Goals as goal

abbrev Counted : Type 0 → Reply → Txn → List ℕ → Type 0
Counted tells r t base = tells → AcceptWith (txn_form t) (txn_image t base) [] → MapDone Check (image_map (txn_form t) (txn_image t base)) (image_map (txn_form t) (txn_image t base)) r

moved : {V F : Type 0} (answer : Result V F) (tells : Type 0) (r : V → Reply) (old view : Txn) (base was : List ℕ) → view ≡ old → was ≡ base → IfOk answer (λ v. Counted tells (r v) view was) → IfOk answer (λ v. Counted tells (r v) old base)
moved answer tells r old view base was same_view same_was done =
    subst (λ x. IfOk answer (λ v. Counted tells (r v) old x)) same_was (subst (λ t. IfOk answer (λ v. Counted tells (r v) t was)) same_view done)

pub returns-clause-done : goal.returns-clause-done
returns-clause-done g c =
    moved c.count_keys.result (IsTrue g.D.Disk.tells) reply_of c.args.txn.now c.new-view.result.txn.now (seen (g.D.Disk.history c.args.d.now)) (seen (g.D.Disk.history c.new-view.result.disk.now))
    c.new-view.ensures.txn (ap (λ x. seen (g.D.Disk.history x)) c.new-view.ensures.disk) c.count_keys.ensures.done
