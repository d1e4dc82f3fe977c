-- The view of the disk shows its bytes.
use Rattle.std.proofs.Common.{◌≡◌, [], length, ap, subst}
use Rattle.std.specs.Prelude.{IfOk, IsTrue}
use Rattle.tdb_disk.specs.History.{seen}
use Rattle.tdb_space.specs.Accepted.{AcceptWith}
use Rattle.tdb_space.specs.Form.{form_in}
use Rattle.tdb_space.specs.Pairs.{order_of}
use Rattle.tdb_gen.proofs.keys.keys_on_disk.Goals as goal

pub returns-clause-counted : goal.returns-clause-counted
returns-clause-counted g c =
    subst (λ f. IfOk c.live_keys.result (λ live. IsTrue g.D.Disk.tells → AcceptWith f (seen (g.D.Disk.history c.args.disk.now)) [] → live ≡ length (order_of f (seen (g.D.Disk.history c.args.disk.now))))) (ap form_in c.new-space.ensures.header)
    (subst (λ d. IfOk c.live_keys.result (λ live. IsTrue g.D.Disk.tells → AcceptWith (form_in c.new-space.result.header) (seen (g.D.Disk.history d)) [] → live ≡ length (order_of (form_in c.new-space.result.header) (seen (g.D.Disk.history d)))))
    c.new-space.ensures.disk c.live_keys.ensures.counted)
