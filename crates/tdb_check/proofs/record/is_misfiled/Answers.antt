-- By the list and the two hashes.
use Rattle.std.proofs.Common.{ap, refl, not, eqb}
use Rattle.std.proofs.lemmas.Bool.{eq-eqb, ne_eqb}
use Rattle.tdb_check.proofs.record.is_misfiled.Goals as goal

pub returns-then-r-own_hash : goal.returns-then-r-own_hash
returns-then-r-own_hash c = rw c.in-Chain.is (rw (ne_eqb c.args.r.now.full_hash c.args.own_hash c.if-r-own_hash.true) refl)

pub returns-else-r-own_hash : goal.returns-else-r-own_hash
returns-else-r-own_hash c = rw c.in-Chain.is (rw (eq-eqb c.args.r.now.full_hash c.args.own_hash c.if-r-own_hash.false) (ap (λ n. not (eqb n c.in-Chain.j)) c.chain_of.ensures))

pub returns-in-Free : goal.returns-in-Free
returns-in-Free c = rw c.in-Free.is refl
