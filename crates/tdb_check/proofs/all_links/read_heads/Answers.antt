-- One more block of heads.
use Rattle.std.proofs.Common.{◌≡◌, ◌+◌, ◌*◌, ◌<◌, ◌≤◌, length, take, drop, length-take, sym, ◌∙◌, ap, subst, arith, rules}
use Rattle.tdb_space.specs.Form.{chain_head}
use Rattle.tdb_check.specs.Links.{HeadsRead}
use Rattle.tdb_check.proofs.Rising.{rose_then}
use Rattle.tdb_check.proofs.all_links.read_heads.Goals as goal

pub loop-first-preserved : goal.loop-first-preserved
loop-first-preserved g c =
    let f = g.S.Space.form c.args.s.now in
    let img = g.S.Space.image c.args.s.now in
    let v = c.loop-first.invariant in
    let first = c.loop-first.first in
    let count = c.min-count.result in
    let size : length (take (4 * count) c.loop-first.block) ≡ 4 * count = omega (arith, length-take (4 * count) c.loop-first.block, c.min-count.ensures, c.min-count.array_long) in
    record {
      heads = λ told.
          (let read : c.read.new.buf ≡ take (4 * count) (drop (chain_head (length c.loop-first.heads.items)) img) =
          c.in_ok-read.ensures.bytes told ∙ (λ k. take (size k) (drop (chain_head (sym v.long k)) (v.looked.image k))) in
          let order = c.order.ensures ∙ ap (λ h. h.order) (c.read.ensures.form ∙ v.looked.form) in
          c.in_ok-put_words.ensures.heads f img order read (v.heads told));
      long = omega (arith, v.long, c.in_ok-put_words.ensures.long);
      within = omega (arith, v.within, c.min-count.ensures);
      small = v.small;
      chains = v.chains;
      bytes_read = rose_then _ _ _ _ _ _ v.bytes_read c.read.ensures.bytes_read (omega (arith, size));
      looked = search rules;
      faults = search rules;
    }

pub returns-clause-heads : goal.returns-clause-heads
returns-clause-heads g c told = c.loop-first.invariant.heads told
