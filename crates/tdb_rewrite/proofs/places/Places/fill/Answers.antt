-- One chain more was walked along, until there is a record or no chain is left.
use Rattle.std.proofs.Common.{◌≡◌, ◌++◌, [], ◌+◌, ◌-◌, ◌*◌, ◌<◌, ◌≤◌, length, subst, sym, ◌∙◌, ap, rules, arith}
use Rattle.std.specs.Prelude.{◌/◌}
use Rattle.tdb_space.specs.Chain.{chain_of}
use Rattle.tdb_rewrite.specs.Places.{HaveHeaders, offs_of, most_to_come}
use Rattle.tdb_rewrite.specs.Readable.{Readable}
use Rattle.tdb_rewrite.proofs.Coming.{is_nil, isnt_nil, walked_along, walked_fewer}
use Rattle.tdb_rewrite.proofs.Walking.{moved}
use Rattle.tdb_rewrite.proofs.places.Places.fill.Goals as goal

pub loop-self-preserved : goal.loop-self-preserved
loop-self-preserved g c = record {
  kept = λ told low R.
      (let f = g.S.Space.form c.args.s.now in
      let img = g.S.Space.image c.args.s.now in
      let k = g.S.Space.form c.loop-self.s in
      let v = g.S.Space.image c.loop-self.s in
      let looked = c.loop-self.invariant.looked in
      let chains = c.loop-self.self.chains in
      let m = c.add_chain.new.self.chains in
      let before = c.loop-self.self.records in
      let now = c.add_chain.new.self.records.items in
      let none : before.items ≡ [] = is_nil before.items before.len c.is_empty.result c.is_empty.ensures (omega (arith, before.ok.0)) c.loop-self-test.true in
      let there = moved (λ x i. Readable x i) k f v img (sym looked.form) (sym looked.image) R in
      let within : chains - 1 < k.chains = omega (arith, c.if-self-gt0.true, c.loop-self.invariant.chains, low, ap (λ x. x.chains) looked.form) in
      let found : offs_of now ≡ offs_of before.items ++ chain_of f img (chains - 1) = moved (λ x i. offs_of now ≡ offs_of before.items ++ chain_of x i (chains - 1)) f k img v looked.form looked.image (c.in_ok-add_chain.ensures.added told within there) in
      walked_along chains m before.items now c.if-self-gt0.true c.add_chain.ensures.chains none (chain_of f img) (found ∙ ap (λ j. offs_of before.items ++ chain_of f img j) (sym c.add_chain.ensures.chains))
      ∙ c.loop-self.invariant.kept told low R);
  headers = λ told headers.
      (let f = g.S.Space.form c.args.s.now in
      let img = g.S.Space.image c.args.s.now in
      let k = g.S.Space.form c.loop-self.s in
      let v = g.S.Space.image c.loop-self.s in
      let looked = c.loop-self.invariant.looked in
      let before = moved (λ x i. HaveHeaders x i c.loop-self.self.records.items) k f v img (sym looked.form) (sym looked.image) (c.loop-self.invariant.headers told headers) in
      moved (λ x i. HaveHeaders x i c.add_chain.new.self.records.items) f k img v looked.form looked.image (c.in_ok-add_chain.ensures.headers told before));
  no_more =
      (let before = c.loop-self.self.records in
      let none : before.items ≡ [] = is_nil before.items before.len c.is_empty.result c.is_empty.ensures (omega (arith, before.ok.0)) c.loop-self-test.true in
      subst (λ n. c.add_chain.new.self.chains * (n / 4) + length c.add_chain.new.self.records.items ≤ most_to_come c.args.self.now) (sym c.add_chain.ensures.same)
      (walked_fewer c.loop-self.self.chains c.add_chain.new.self.chains before.items c.add_chain.new.self.records.items c.if-self-gt0.true c.add_chain.ensures.chains none c.loop-self.self.len (most_to_come c.args.self.now)
      c.in_ok-add_chain.ensures.few c.loop-self.invariant.no_more));
  chains = omega (arith, c.add_chain.ensures.chains, c.loop-self.invariant.chains);
  len = c.add_chain.ensures.same ∙ c.loop-self.invariant.len;
  looked = search rules;
  faults = search rules;
}

pub returns-else-self-gt0-clause-filled : goal.returns-else-self-gt0-clause-filled
returns-else-self-gt0-clause-filled g c none = omega (arith, c.if-self-gt0.false)

pub returns-after-loop-self-clause-filled : goal.returns-after-loop-self-clause-filled
returns-after-loop-self-clause-filled g c none =
    let before = c.loop-self.self.records in
    absurd (isnt_nil before.items before.len c.is_empty.result c.is_empty.ensures (omega (arith, before.ok.0)) c.loop-self-test.false none)
