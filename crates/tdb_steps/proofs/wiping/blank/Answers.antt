-- The zeros are as many as are wanted.
use Rattle.std.proofs.Common.{◌≡◌, length, sym, subst, arith}
use Rattle.tdb_disk.specs.Stop.{Torn}
use Rattle.tdb_steps.specs.Wiped.{MadeFree}
use Rattle.tdb_steps.proofs.FreeWrites.{zeros_of, zeros_long, torn_put, blanked}
use Rattle.tdb_steps.proofs.wiping.blank.Goals as goal

pub returns-in_err-write-clause-only : goal.returns-in_err-write-clause-only
returns-in_err-write-clause-only g c told =
    let long : length (zeros_of c.args.count 28) ≡ c.args.count = zeros_long c.args.count 28 (omega (arith, c.requires.short)) in
    subst (λ n. Torn c.args.from n (g.S.Space.image c.args.s.now) (g.S.Space.image c.write.new.self)) long (c.in_err-write.ensures.image told)

pub returns-clause-zeros : goal.returns-clause-zeros
returns-clause-zeros g c told next =
    subst (λ b. MadeFree (g.S.Space.form c.args.s.now) (g.S.Space.image c.args.s.now) b c.args.from c.args.count next next) (sym (c.in_ok-write.ensures.image told))
    (blanked (g.S.Space.form c.args.s.now) (g.S.Space.image c.args.s.now) c.args.from c.args.count next c.requires.short (omega (arith, g.met.S.Space.told_size c.args.s.now told, c.requires.within)))

pub returns-clause-only : goal.returns-clause-only
returns-clause-only g c told =
    let zeros = zeros_of c.args.count 28 in
    torn_put (g.S.Space.image c.args.s.now) (g.S.Space.image c.write.new.self) c.args.from zeros c.args.count (zeros_long c.args.count 28 (omega (arith, c.requires.short)))
    (c.in_ok-write.ensures.image told)
