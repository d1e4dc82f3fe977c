-- A block of heads is those of the image.
use Rattle.std.proofs.Common.{◌≡◌, ◌*◌, Some, None, length, take, drop, length-take, ◌∙◌, subst, arith, rules}
use Rattle.tdb_space.specs.Form.{chain_head}
use Rattle.tdb_walk.specs.Heads.{IsFirstWord}
use Rattle.tdb_walk.proofs.Filled.{block_found, block_empty}
use Rattle.tdb_walk.proofs.heads.first_filled.Goals as goal

pub returns-in-Some-clause-found : goal.returns-in-Some-clause-found
returns-in-Some-clause-found g c told =
    let f = g.S.Space.form c.args.s.now in
    let img = g.S.Space.image c.args.s.now in
    let v = c.loop-chain.invariant in
    let chain = c.loop-chain.chain in
    let count = c.min-count.result in
    let size : length (take (4 * count) c.loop-chain.block) ≡ 4 * count = omega (arith, length-take (4 * count) c.loop-chain.block, c.min-count.ensures, c.min-count.array_long) in
    let read : c.read.new.buf ≡ take (4 * count) (drop (chain_head chain) img) = c.in_ok-read.ensures.bytes told ∙ (λ k. take (size k) (drop (c.chain_head.ensures k) (v.looked.image k))) in
    block_found f.order img c.read.new.buf count chain c.args.from read v.least (v.empty told) f.chains c.in-Some.head (omega (arith, c.min-count.ensures, c.hash_size-chains.ensures, c.loop-chain-test.true))
    (subst (λ o. IsFirstWord o c.read.new.buf count chain (Some c.in-Some.head)) c.order-order.ensures c.in-Some.ensures)

pub loop-chain-preserved : goal.loop-chain-preserved
loop-chain-preserved g c =
    let f = g.S.Space.form c.args.s.now in
    let img = g.S.Space.image c.args.s.now in
    let v = c.loop-chain.invariant in
    let chain = c.loop-chain.chain in
    let count = c.min-count.result in
    record {
      empty = λ told.
          (let size : length (take (4 * count) c.loop-chain.block) ≡ 4 * count = omega (arith, length-take (4 * count) c.loop-chain.block, c.min-count.ensures, c.min-count.array_long) in
          let read : c.read.new.buf ≡ take (4 * count) (drop (chain_head chain) img) = c.in_ok-read.ensures.bytes told ∙ (λ k. take (size k) (drop (c.chain_head.ensures k) (v.looked.image k))) in
          block_empty f.order img c.read.new.buf count chain c.args.from read v.least (v.empty told)
          (subst (λ o. IsFirstWord o c.read.new.buf count chain None) c.order-order.ensures c.in_default.ensures));
      least = omega (arith, v.least);
      looked = search rules;
      faults = search rules;
      most = omega (arith, v.most, c.min-count.ensures, c.loop-chain-test.true);
      read = record {
        no_more = omega (arith, v.read.no_more, v.least, c.in_ok-read.ensures.bytes_read.no_more, length-take (4 * count) c.loop-chain.block, c.min-count.ensures, c.min-count.array_long);
        never_falls = omega (arith, v.read.never_falls, c.in_ok-read.ensures.bytes_read.never_falls);
      };
    }
