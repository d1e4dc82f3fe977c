-- What is written to the pages lies in the part of them that is shown.
use Rattle.std.proofs.Common.{◌≡◌, length, refl, ◌∙◌, ap}
use Rattle.std.proofs.lemmas.Result.{MatchResult-weaker}
use Rattle.tdb_disk.specs.History.{seen}
use Rattle.tdb_txn.specs.Txn.{txn_image}
use Rattle.tdb_mend.proofs.Overwritten.{written_over, written_torn}
use Rattle.tdb_mend.proofs.file.MendedFile.write.Goals as goal

pub returns-clause-image : goal.returns-clause-image
returns-clause-image g c told =
    let m = c.args.self.now in
    let base = seen (g.D.Disk.history c.args.d.now) in
    let new = c.write.new.self.txn.now in
    let before : txn_image c.new-pages.result.txn.now (seen (g.D.Disk.history c.new-pages.result.disk.now)) ≡ txn_image m.pages base = λ j. txn_image (c.new-pages.ensures.txn j) (seen (g.D.Disk.history (c.new-pages.ensures.disk j))) in
    let after = ap (λ s. txn_image new (seen s.history)) (c.write.ensures.disk refl) ∙ ap (λ d. txn_image new (seen (g.D.Disk.history d))) c.new-pages.ensures.disk in
    MatchResult-weaker c.write.result (c.write.ensures.image told)
    (λ _ set. written_over m base _ _ _ before after c.args.bytes.now c.args.off c.requires.within set)
    (λ _ torn. written_torn m base _ _ _ before after c.args.off (length c.args.bytes.now) torn)
