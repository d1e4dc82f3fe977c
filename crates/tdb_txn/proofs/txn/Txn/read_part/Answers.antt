use Rattle.std.proofs.Common.{◌∙◌, arith, refl, length}
use Rattle.std.proofs.lemmas.Grind.{common_steps}
use Rattle.tdb_disk.specs.History.{seen}
use Rattle.tdb_txn.specs.Stock.{page_list}
use Rattle.tdb_txn.proofs.Places.{page_read, file_read}
use Rattle.std.proofs.lemmas.Result.{on_ok_weaker}
use Rattle.tdb_txn.proofs.txn.Txn.read_part.Goals as goal

pub returns-then-copy_out-clause-bytes : goal.returns-then-copy_out-clause-bytes
returns-then-copy_out-clause-bytes g c = λ told.
    let there = c.if-copy_out.ensures.there refl in
    there.2 ∙ page_read (page_list c.args.self.now.pages) (seen (g.D.Disk.history c.args.d.now)) c.args.self.now.size
    c.args.number c.args.within (length c.args.buf.now) there.0 there.1 c.requires.one_page c.requires.inside

pub returns-clause-bytes : goal.returns-clause-bytes
returns-clause-bytes g c =
    let none = c.if-copy_out.ensures.none refl in
    on_ok_weaker c.read_file.result (λ read told.
    file_read (page_list c.args.self.now.pages) (seen (g.D.Disk.history c.args.d.now)) c.args.self.now.size
    c.args.number c.args.within (length c.args.buf.now) c.read_file.new.buf none.0 c.requires.one_page c.requires.inside
    (grind (arith, common_steps)) (λ k low. read told k (grind (arith, common_steps)))) c.read_file.ensures.bytes
