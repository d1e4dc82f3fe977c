-- Each byte of the transaction's image is what the pages make of the file's.
use Rattle.std.proofs.Common.{ℕ, List, refl, subst, inr, arith}
use Rattle.tdb_disk.specs.History.{seen}
use Rattle.tdb_space.proofs.Extents.Counts.{once_out}
use Rattle.tdb_txn.specs.Found.{Blanked, WhereStarved}
use Rattle.tdb_txn.specs.Pages.{byte_over}
use Rattle.tdb_txn.specs.Txn.{txn_image}
use Rattle.tdb_txn.specs.Stock.{page_list}
use Rattle.tdb_txn.proofs.Places.{filled_at}
use Rattle.tdb_txn.proofs.Plans.{starved_refused}
use Rattle.tdb_txn.proofs.txn.Txn.changes.Goals as goal

no_hole : (r : List ℕ) → Blanked (0, 0) r r
no_hole r = record { inside = λ i held. absurd (omega (arith, held, once_out (0, 0) i (inr (omega arith)))); outside = λ i none. refl }

pub returns-in-Ok-clause-runs : goal.returns-in-Ok-clause-runs
returns-in-Ok-clause-runs g c told =
    let r = seen (g.D.Disk.history c.args.d.now) in
    let t = c.args.self.now in
    c.in-Ok.ensures.runs told r (txn_image t r) (no_hole r) (λ i low. filled_at (byte_over (page_list t.pages) r) t.size i (omega (arith, low, t.longer)))

pub returns-in-Err-Memory-clause-refusal : goal.returns-in-Err-Memory-clause-refusal
returns-in-Err-Memory-clause-refusal g c told =
    let r = seen (g.D.Disk.history c.args.d.now) in
    let t = c.args.self.now in
    starved_refused t c.args.limit r c.args.area c.in-Err-Memory.content c.without_runs.result c.requires.short
    (subst (WhereStarved _) c.in-Err-Memory.field-0-is c.in-Err-Memory.ensures.starved told r (txn_image t r) (no_hole r) (λ i low. filled_at (byte_over (page_list t.pages) r) t.size i (omega (arith, low, t.longer)))) c.without_runs.ensures
