-- One chain more, and all chains.
use Rattle.std.proofs.Common.{◌≡◌, ◌+◌, ◌<◌, sym, ap, subst, rules, arith}
use Rattle.tdb_space.specs.Accepted.{AcceptWith}
use Rattle.tdb_rewrite.specs.Sums.{Sums, pairs_below}
use Rattle.tdb_rewrite.proofs.Walking.{moved}
use Rattle.tdb_rewrite.proofs.summing.pair_bytes.Goals as goal

pub loop-chain-preserved : goal.loop-chain-preserved
loop-chain-preserved g c = record {
  sums = λ told hands A.
      (let f = g.S.Space.form c.args.s.now in
      let img = g.S.Space.image c.args.s.now in
      let k = g.S.Space.form c.loop-chain.s in
      let v = g.S.Space.image c.loop-chain.s in
      let looked = c.loop-chain.invariant.looked in
      let j = c.loop-chain.chain in
      let number : j < k.chains = omega (arith, c.loop-chain-test.true, c.hash_size-chain-end.ensures, ap (λ x. x.chains) looked.form) in
      let there = moved (λ x i. AcceptWith x i hands) k f v img (sym looked.form) (sym looked.image) A in
      let before = moved (λ x i. Sums (pairs_below x i j) c.loop-chain.sums) k f v img (sym looked.form) (sym looked.image) (c.loop-chain.invariant.sums told hands A) in
      moved (λ x i. Sums (pairs_below x i (j + 1)) c.add_chain.new.self) f k img v looked.form looked.image (c.in_ok-add_chain.ensures.added told number hands there before));
  looked = search rules;
  faults = search rules;
  bytes_read = search rules;
}

pub returns-clause-sums : goal.returns-clause-sums
returns-clause-sums g c told hands A =
    let f = g.S.Space.form c.args.s.now in
    let img = g.S.Space.image c.args.s.now in
    let all : c.loop-chain.chain ≡ f.chains = omega (arith, c.loop-chain-test.false, c.loop-chain.auto.chain-end, c.hash_size-chain-end.ensures) in
    subst (λ n. Sums (pairs_below f img n) c.loop-chain.sums) all (c.loop-chain.invariant.sums told hands A)
