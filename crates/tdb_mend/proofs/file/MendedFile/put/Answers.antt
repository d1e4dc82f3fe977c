-- There is room, and what is written to the pages lies in the part of them that is shown.
use Rattle.std.proofs.Common.{◌≡◌, refl, ◌∙◌, ap}
use Rattle.tdb_disk.specs.History.{seen}
use Rattle.tdb_txn.specs.Txn.{txn_image}
use Rattle.tdb_mend.proofs.Overwritten.{written_over}
use Rattle.tdb_mend.proofs.file.MendedFile.put.Goals as goal

pub returns-clause-set : goal.returns-clause-set
returns-clause-set g c told =
    let m = c.args.self.now in
    let base = seen (g.D.Disk.history c.args.d.now) in
    let new = c.write.new.self.txn.now in
    let before : txn_image c.ready.new.self.txn.now (seen (g.D.Disk.history c.ready.new.self.disk.now)) ≡ txn_image m.pages base = c.ready.ensures.image ∙ (λ j. txn_image (c.new-pages.ensures.txn j) (seen (g.D.Disk.history (c.new-pages.ensures.disk j)))) in
    let after = ap (λ s. txn_image new (seen s.history)) (c.write.ensures.disk refl ∙ c.ready.ensures.disk) ∙ ap (λ d. txn_image new (seen (g.D.Disk.history d))) c.new-pages.ensures.disk in
    written_over m base _ _ _ before after c.args.bytes.now c.args.off c.requires.within (c.in_ok-write.ensures.image told)
