-- Where no pair is read the record has none; else it has the one that was read.
use Rattle.std.proofs.Common.{arith}
use Rattle.tdb_backup.specs.Held.{pair_held}
use Rattle.tdb_rewrite.proofs.Reading.{no_pair, used_pair}
use Rattle.tdb_rewrite.proofs.rewriting.read_pair.Goals as goal

pub returns-then-rec-ne-USED-clause-pair : goal.returns-then-rec-ne-USED-clause-pair
returns-then-rec-ne-USED-clause-pair g c told stands =
    no_pair (g.S.Space.form c.args.s.now) (g.S.Space.image c.args.s.now) c.args.found.off c.args.found.rec stands.0 stands.1 c.args.len
    (omega (arith, g.met.S.Space.told_size c.args.s.now told, c.requires.length)) c.then-rec-ne-USED.either

pub returns-clause-pair : goal.returns-clause-pair
returns-clause-pair g c told stands =
    used_pair (g.S.Space.form c.args.s.now) (g.S.Space.image c.args.s.now) c.args.found.off c.args.found.rec stands.0 stands.1 c.if-rec-ne-USED.false (pair_held c.read_known.new.self)
    (c.in_ok-read_known.ensures.pair told)
