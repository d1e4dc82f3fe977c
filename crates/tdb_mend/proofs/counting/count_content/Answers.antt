-- None so far, one block more, and all.
use Rattle.std.proofs.Common.{◌≡◌, ◌+◌, ◌≤◌, length, take, drop, length-take, ◌∙◌, arith, rules}
use Rattle.tdb_mend.proofs.Counts.{content_none, content_more, content_all}
use Rattle.tdb_mend.proofs.counting.count_content.Goals as goal

pub loop-at-init : goal.loop-at-init
loop-at-init g c = record {
  from = omega arith;
  within = omega arith;
  most = omega arith;
  count = λ told. content_none (g.S.Space.image c.args.s.now) c.args.from;
  looked = search rules;
  faults = search rules;
}

pub loop-at-preserved : goal.loop-at-preserved
loop-at-preserved g c =
    let v = c.loop-at.invariant in
    let img = g.S.Space.image c.args.s.now in
    let size : length (take c.min-size.result c.loop-at.block) ≡ c.min-size.result = omega (arith, length-take c.min-size.result c.loop-at.block, c.min-size.ensures) in
    let sized : length c.read.new.buf ≡ c.min-size.result = c.read.auto.buf ∙ size in
    let fits : c.loop-at.at + c.min-size.result ≤ c.args.to = omega (arith, c.min-size.ensures, c.loop-at-test.true) in
    record {
      from = omega (arith, v.from);
      within = omega (arith, v.from, fits);
      most = omega (arith, v.most, v.from, c.content_in-count.ensures.most, sized);
      count = λ told.
          (let read : c.read.new.buf ≡ take c.min-size.result (drop c.loop-at.at img) = c.in_ok-read.ensures.bytes told ∙ (λ j. take (size j) (drop c.loop-at.at (v.looked.image j))) in
          omega (arith, v.count told, c.content_in-count.ensures.count, content_more img c.read.new.buf c.args.from c.loop-at.at c.min-size.result v.from read sized));
      looked = search rules;
      faults = search rules;
    }

pub returns-clause-count : goal.returns-clause-count
returns-clause-count g c told =
    let v = c.loop-at.invariant in
    v.count told ∙ content_all (g.S.Space.image c.args.s.now) c.args.from c.args.to c.loop-at.at v.from v.within (omega (arith, c.loop-at-test.false))
