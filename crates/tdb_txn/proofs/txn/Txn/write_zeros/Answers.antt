-- All bytes that are written are zero.
use Rattle.std.proofs.Common.{ℕ, replicate, take, ◌∙◌, arith}
use Rattle.std.proofs.lemmas.Grind.{common_steps}
use Rattle.std.proofs.lemmas.List.{get_or-take, get_or-replicate}
use Rattle.tdb_disk.specs.History.{seen}
use Rattle.tdb_txn.specs.Pages.{length_filled, byte_over}
use Rattle.tdb_txn.specs.Stock.{page_list}
use Rattle.tdb_txn.specs.Txn.{txn_image}
use Rattle.tdb_txn.proofs.Blanks.{blanked_written}
use Rattle.tdb_txn.proofs.txn.Txn.write_zeros.Goals as goal

pub returns-clause-blanked : goal.returns-clause-blanked
returns-clause-blanked g c told =
    let r = seen (g.D.Disk.history c.args.d.now) in
    blanked_written c.args.off c.args.count (take c.args.count (replicate {A = ℕ} 4096 0)) (txn_image c.args.self.now r) (txn_image c.write.new.self r)
    (grind (arith, common_steps))
    (λ k low. get_or-take c.args.count (replicate {A = ℕ} 4096 0) k 0 low ∙ get_or-replicate 4096 k 0 0 (omega (arith, low, c.requires.most)))
    (omega (arith, c.requires.inside, length_filled (byte_over (page_list c.args.self.now.pages) r) c.args.self.now.size))
    (c.in_ok-write.ensures.image told)
