use Rattle.std.proofs.Common.{IsTrue, IfOk, subst}
use Rattle.tdb_disk.specs.History.{seen}
use Rattle.tdb_space.specs.Form.{form_in}
use Rattle.tdb_space.specs.Accepted.{Accept}
use Rattle.tdb_check.specs.Report.{IsFormOf, Counted}
use Rattle.tdb_open.proofs.opening.check_disk.Goals as goal

-- the view is the disk itself
pub returns-clause-accepted : goal.returns-clause-accepted
returns-clause-accepted g c =
    subst (λ h. IfOk c.check.result (λ r. IsTrue g.D.Disk.tells → IsFormOf (form_in h) (seen (g.D.Disk.history c.args.disk.now)) → Accept (seen (g.D.Disk.history c.args.disk.now)) × Counted (seen (g.D.Disk.history c.args.disk.now)) r)) c.new-space.ensures.header
    (subst (λ d. IfOk c.check.result (λ r. IsTrue g.D.Disk.tells → IsFormOf (form_in c.new-space.result.header) (seen (g.D.Disk.history d)) → Accept (seen (g.D.Disk.history d)) × Counted (seen (g.D.Disk.history d)) r)) c.new-space.ensures.disk c.check.ensures.accepted)
