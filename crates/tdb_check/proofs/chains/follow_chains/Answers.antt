-- One more block of heads, or the first chain with a fault.
use Rattle.std.proofs.Common.{◌≡◌, ◌+◌, ◌*◌, ◌≤◌, length, take, drop, length-take, sym, ◌∙◌, ap, subst, arith, rules}
use Rattle.tdb_space.specs.Form.{chain_head}
use Rattle.tdb_check.specs.Extent.{extents_seen}
use Rattle.tdb_check.specs.Tails.{TailsOf}
use Rattle.tdb_check.specs.Seen.{Names}
use Rattle.tdb_check.specs.Chains.{ChainsTo, FirstInChains}
use Rattle.tdb_disk.specs.Count.{RoseUpTo}
use Rattle.tdb_check.specs.Reads.{chains_reads}
use Rattle.tdb_check.proofs.Rising.{rose_then, rose_within}
use Rattle.tdb_check.proofs.ChainSums.{chains_next, chains_both, chains_less}
use Rattle.tdb_check.proofs.Still.{still_then}
use Rattle.tdb_check.proofs.SameViews.{same_view}
use Rattle.tdb_check.proofs.chains.follow_chains.Goals as goal

pub loop-first-preserved : goal.loop-first-preserved
loop-first-preserved g c =
    let f = g.S.Space.form c.args.s.now in
    let img = g.S.Space.image c.args.s.now in
    let f2 = g.S.Space.form c.read.new.self in
    let img2 = g.S.Space.image c.read.new.self in
    let v = c.loop-first.invariant in
    let form : f2 ≡ f = c.read.ensures.form ∙ v.looked.form in
    let image : img2 ≡ img = c.read.ensures.image ∙ v.looked.image in
    let size : length (take (4 * c.min-count.result) c.loop-first.block) ≡ 4 * c.min-count.result = omega (arith, length-take (4 * c.min-count.result) c.loop-first.block, c.min-count.ensures, c.min-count.array_long) in
    record {
      followed = λ told long.
          (let again : length img2 ≡ c.args.len = ap length image ∙ long in
          let read : c.read.new.buf ≡ take (4 * c.min-count.result) (drop (chain_head c.loop-first.first) img2) =
          c.in_ok-read.ensures.bytes told ∙ (λ k. take (size k) (drop (chain_head c.loop-first.first) (sym c.read.ensures.image k))) in
          let so_far = v.followed told long in
          let to : ChainsTo f2 img2 c.loop-first.first c.args.extents.now.items c.loop-first.extents.items c.loop-first.live =
          same_view (λ k i. ChainsTo k i c.loop-first.first c.args.extents.now.items c.loop-first.extents.items c.loop-first.live) f f2 img img2 form image so_far.0 in
          let tails : TailsOf f2 img2 (extents_seen c.loop-first.extents.items) c.loop-first.notes.tails =
          same_view (λ k i. TailsOf k i (extents_seen c.loop-first.extents.items) c.loop-first.notes.tails) f f2 img img2 form image so_far.1 in
          let both = c.in-Ok.ensures.sound told again read c.args.extents.now.items c.loop-first.live to tails in (
            same_view (λ k i. ChainsTo k i (c.loop-first.first + c.min-count.result) c.args.extents.now.items c.follow_block.new.extents.items (c.loop-first.live + c.in-Ok.used)) f2 f img2 img (sym form) (sym image) both.0,
            same_view (λ k i. TailsOf k i (extents_seen c.follow_block.new.extents.items) c.follow_block.new.notes.tails) f2 f img2 img (sym form) (sym image) both.1,
          ));
      bytes_read = λ told long.
          (let again : length img2 ≡ c.args.len = ap length image ∙ long in
          let read : c.read.new.buf ≡ take (4 * c.min-count.result) (drop (chain_head c.loop-first.first) img2) =
          c.in_ok-read.ensures.bytes told ∙ (λ k. take (size k) (drop (chain_head c.loop-first.first) (sym c.read.ensures.image k))) in
          let block = still_then (λ k i. RoseUpTo (chains_reads 1 k i c.loop-first.first c.min-count.result) (g.S.Space.bytes_read c.read.new.self) (g.S.Space.bytes_read c.follow_block.new.s)) form image (c.in-Ok.ensures.bytes_read told again read) in
          rose_then _ _ _ _ _ _ (rose_then _ _ (4 * c.loop-first.first + chains_reads 1 f img 0 c.loop-first.first + 4 * c.min-count.result) _ _ _ (v.bytes_read told long) c.read.ensures.bytes_read (omega (arith, size))) block
          (omega (arith, chains_next f img c.loop-first.first c.min-count.result)));
      chains = v.chains;
      within = search rules;
      count = omega (arith, v.count, c.in-Ok.ensures.count);
      looked = search rules;
      faults = search rules;
    }

pub returns-in-Err-clause-bad : goal.returns-in-Err-clause-bad
returns-in-Err-clause-bad g c told long =
    let f = g.S.Space.form c.args.s.now in
    let img = g.S.Space.image c.args.s.now in
    let f2 = g.S.Space.form c.read.new.self in
    let img2 = g.S.Space.image c.read.new.self in
    let v = c.loop-first.invariant in
    let form : f2 ≡ f = c.read.ensures.form ∙ v.looked.form in
    let image : img2 ≡ img = c.read.ensures.image ∙ v.looked.image in
    let size : length (take (4 * c.min-count.result) c.loop-first.block) ≡ 4 * c.min-count.result = omega (arith, length-take (4 * c.min-count.result) c.loop-first.block, c.min-count.ensures, c.min-count.array_long) in
    let again : length img2 ≡ c.args.len = ap length image ∙ long in
    let read : c.read.new.buf ≡ take (4 * c.min-count.result) (drop (chain_head c.loop-first.first) img2) =
    c.in_ok-read.ensures.bytes told ∙ (λ k. take (size k) (drop (chain_head c.loop-first.first) (sym c.read.ensures.image k))) in
    let so_far = v.followed told long in
    let to : ChainsTo f2 img2 c.loop-first.first c.args.extents.now.items c.loop-first.extents.items c.loop-first.live =
    same_view (λ k i. ChainsTo k i c.loop-first.first c.args.extents.now.items c.loop-first.extents.items c.loop-first.live) f f2 img img2 form image so_far.0 in
    let tails : TailsOf f2 img2 (extents_seen c.loop-first.extents.items) c.loop-first.notes.tails =
    same_view (λ k i. TailsOf k i (extents_seen c.loop-first.extents.items) c.loop-first.notes.tails) f f2 img img2 form image so_far.1 in
    same_view (λ k i. Names c.in-Err.e (FirstInChains k i)) f2 f img2 img (sym form) (sym image) (c.in-Err.ensures.bad told again read c.args.extents.now.items c.loop-first.live to tails)

pub returns-in_err-read-clause-bytes_in_all : goal.returns-in_err-read-clause-bytes_in_all
returns-in_err-read-clause-bytes_in_all g c told long =
    let f = g.S.Space.form c.args.s.now in
    let img = g.S.Space.image c.args.s.now in
    let f2 = g.S.Space.form c.read.new.self in
    let img2 = g.S.Space.image c.read.new.self in
    let v = c.loop-first.invariant in
    let form : f2 ≡ f = c.read.ensures.form ∙ v.looked.form in
    let image : img2 ≡ img = c.read.ensures.image ∙ v.looked.image in
    let size : length (take (4 * c.min-count.result) c.loop-first.block) ≡ 4 * c.min-count.result = omega (arith, length-take (4 * c.min-count.result) c.loop-first.block, c.min-count.ensures, c.min-count.array_long) in
    let low : c.loop-first.first + c.min-count.result ≤ f.chains = omega (arith, c.min-count.ensures, v.chains, v.within) in
    rose_then _ _ _ _ _ _ (v.bytes_read told long) c.read.ensures.bytes_read (omega (arith, size, low, chains_both f img c.loop-first.first c.min-count.result f.chains low))

pub returns-in-Err-clause-bytes_in_all : goal.returns-in-Err-clause-bytes_in_all
returns-in-Err-clause-bytes_in_all g c told long =
    let f = g.S.Space.form c.args.s.now in
    let img = g.S.Space.image c.args.s.now in
    let f2 = g.S.Space.form c.read.new.self in
    let img2 = g.S.Space.image c.read.new.self in
    let v = c.loop-first.invariant in
    let form : f2 ≡ f = c.read.ensures.form ∙ v.looked.form in
    let image : img2 ≡ img = c.read.ensures.image ∙ v.looked.image in
    let size : length (take (4 * c.min-count.result) c.loop-first.block) ≡ 4 * c.min-count.result = omega (arith, length-take (4 * c.min-count.result) c.loop-first.block, c.min-count.ensures, c.min-count.array_long) in
    let low : c.loop-first.first + c.min-count.result ≤ f.chains = omega (arith, c.min-count.ensures, v.chains, v.within) in
    let again : length img2 ≡ c.args.len = ap length image ∙ long in
    let read : c.read.new.buf ≡ take (4 * c.min-count.result) (drop (chain_head c.loop-first.first) img2) =
    c.in_ok-read.ensures.bytes told ∙ (λ k. take (size k) (drop (chain_head c.loop-first.first) (sym c.read.ensures.image k))) in
    let block = still_then (λ k i. RoseUpTo (chains_reads 65 k i c.loop-first.first c.min-count.result) (g.S.Space.bytes_read c.read.new.self) (g.S.Space.bytes_read c.follow_block.new.s)) form image (c.in-Err.ensures.bytes_in_all told again read) in
    rose_then _ _ _ _ _ _ (rose_then _ _ (4 * c.loop-first.first + chains_reads 1 f img 0 c.loop-first.first + 4 * c.min-count.result) _ _ _ (v.bytes_read told long) c.read.ensures.bytes_read (omega (arith, size))) block
    (omega (arith, low, chains_both f img c.loop-first.first c.min-count.result f.chains low))

pub returns-clause-bytes_read : goal.returns-clause-bytes_read
returns-clause-bytes_read g c told long =
    let f = g.S.Space.form c.args.s.now in
    let img = g.S.Space.image c.args.s.now in
    let v = c.loop-first.invariant in
    let all : c.loop-first.first ≡ f.chains = omega (arith, v.within, v.chains) in
    subst (λ n. RoseUpTo (4 * n + chains_reads 1 f img 0 n) (g.S.Space.bytes_read c.args.s.now) (g.S.Space.bytes_read c.loop-first.s)) all (v.bytes_read told long)

pub returns-clause-bytes_in_all : goal.returns-clause-bytes_in_all
returns-clause-bytes_in_all g c told long =
    let f = g.S.Space.form c.args.s.now in
    let img = g.S.Space.image c.args.s.now in
    let v = c.loop-first.invariant in
    let all : c.loop-first.first ≡ f.chains = omega (arith, v.within, v.chains) in
    rose_within _ _ _ _ (v.bytes_read told long) (omega (arith, all, chains_less f img 0 c.loop-first.first, ap (chains_reads 65 f img 0) all))
