-- The word that is written to the pages lies in the part of them that is shown.
use Rattle.std.proofs.Common.{rules, arith, ◌≡◌, length, refl, ◌∙◌, ap, inl, inr}
use Rattle.std.proofs.lemmas.Result.{MatchResult-weaker}
use Rattle.tdb_disk.specs.History.{seen}
use Rattle.tdb_txn.specs.Txn.{txn_image}
use Rattle.tdb_mend.proofs.Overwritten.{written_as, written_over}
use Rattle.tdb_mend.proofs.file.MendedFile.write_word.Goals as goal

pub returns-clause-image : goal.returns-clause-image
returns-clause-image g c told =
    let m = c.args.self.now in
    let base = seen (g.D.Disk.history c.args.d.now) in
    let new = c.write_word.new.self.txn.now in
    let before : txn_image c.new-pages.result.txn.now (seen (g.D.Disk.history c.new-pages.result.disk.now)) ≡ txn_image m.pages base = λ j. txn_image (c.new-pages.ensures.txn j) (seen (g.D.Disk.history (c.new-pages.ensures.disk j))) in
    let after = ap (λ s. txn_image new (seen s.history)) (c.write_word.ensures.disk refl) ∙ ap (λ d. txn_image new (seen (g.D.Disk.history d))) c.new-pages.ensures.disk in
    let wide : length c.args.word ≡ 4 = search rules in
    let over = written_over m base _ _ _ before after c.args.word c.args.off (omega (arith, wide, c.requires.within)) in
    MatchResult-weaker c.write_word.result (c.write_word.ensures.image told)
    (λ _ set. over set)
    (λ _ either. elim either [ inl same ↦ inl (written_as m base _ _ _ before after same) | inr set ↦ inr (over set) ])
