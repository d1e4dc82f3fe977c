-- The last of the places is given.
use Rattle.std.proofs.Common.{◌*◌, sym, ◌∙◌, arith}
use Rattle.std.specs.Prelude.{◌/◌}
use Rattle.std.proofs.lemmas.List.Elements.{All-pop}
use Rattle.tdb_space.specs.Chain.{chain_of}
use Rattle.tdb_space.specs.Pairs.{joined}
use Rattle.tdb_rewrite.specs.Places.{HasHeader, most_to_come}
use Rattle.tdb_rewrite.proofs.Coming.{gave_last, none_to_come, one_fewer}
use Rattle.tdb_rewrite.proofs.places.Places.next.Goals as goal

pub returns-clause-gives : goal.returns-clause-gives
returns-clause-gives g c told low R =
    let below = joined c.fill.new.self.chains (chain_of (g.S.Space.form c.args.s.now) (g.S.Space.image c.args.s.now)) in
    sym (c.in_ok-fill.ensures.kept told low R) ∙ gave_last below c.fill.new.self.records.items c.pop.new.self.items c.pop.result c.pop.ensures.items

pub returns-clause-headers : goal.returns-clause-headers
returns-clause-headers g c told headers =
    All-pop (HasHeader (g.S.Space.form c.args.s.now) (g.S.Space.image c.args.s.now)) c.fill.new.self.records.items c.pop.new.self.items c.pop.result c.pop.ensures.items
    (c.in_ok-fill.ensures.headers told headers)

pub returns-clause-none : goal.returns-clause-none
returns-clause-none g c =
    let left = c.fill.new.self.records in
    let then = c.pop.new.self in
    none_to_come left.len then.len left.items then.items (omega (arith, left.ok.0)) (omega (arith, then.ok.0)) (chain_of (g.S.Space.form c.args.s.now) (g.S.Space.image c.args.s.now)) c.fill.new.self.chains
    c.pop.result c.pop.ensures.cases c.in_ok-fill.ensures.filled

pub returns-clause-fewer : goal.returns-clause-fewer
returns-clause-fewer g c =
    let left = c.fill.new.self.records in
    let then = c.pop.new.self in
    one_fewer left.len then.len left.items then.items (omega (arith, left.ok.0)) (omega (arith, then.ok.0)) (c.fill.new.self.chains * (c.fill.new.self.len / 4)) (most_to_come c.args.self.now)
    c.pop.result c.pop.ensures.cases c.in_ok-fill.ensures.no_more
