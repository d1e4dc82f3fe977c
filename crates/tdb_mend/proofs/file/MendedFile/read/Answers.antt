-- What is read of the pages, or of the file, is a part of what is shown.
use Rattle.std.proofs.Common.{◌≡◌, ◌+◌, [], length, take, drop, ◌∙◌, arith}
use Rattle.std.proofs.lemmas.List.{nil_from_length}
use Rattle.std.proofs.lemmas.Result.{on_ok_weaker}
use Rattle.tdb_disk.specs.History.{seen}
use Rattle.tdb_txn.specs.Txn.{txn_image, txn_pages}
use Rattle.tdb_mend.proofs.Viewed.{part_behind, part_shown, part_unpaged}
use Rattle.tdb_mend.proofs.file.MendedFile.read.Goals as goal

pub returns-clause-bytes : goal.returns-clause-bytes
returns-clause-bytes g c = on_ok_weaker c.read-2.result (λ h told.
    (let m = c.args.self.now in
    let n = length c.args.buf.now in
    let whole = txn_image m.pages (seen (g.D.Disk.history c.args.d.now)) in
    h told ∙ (λ j. take n (drop (m.start + c.args.off) (txn_image (c.new-pages.ensures.txn j) (seen (g.D.Disk.history (c.new-pages.ensures.disk j))))))
    ∙ part_behind whole m.start c.args.off n ∙ part_shown (drop m.start whole) m.len c.args.off n c.requires.within))
    c.read-2.ensures.bytes

-- without pages it is read from the file
pub returns-then-pages-eq0-clause-bytes : goal.returns-then-pages-eq0-clause-bytes
returns-then-pages-eq0-clause-bytes g c told =
    let m = c.args.self.now in
    let d = c.args.d.now in
    let none : txn_pages m.pages ≡ [] = nil_from_length (txn_pages m.pages) (omega (arith, c.pages.ensures, c.if-pages-eq0.true)) in
    c.in_ok-read.ensures.bytes told
    ∙ part_unpaged m (seen (g.D.Disk.history d)) c.args.off (length c.args.buf.now) none c.requires.within
    (omega (arith, m.behind, c.requires.sized, g.met.D.Disk.told_size d told))
