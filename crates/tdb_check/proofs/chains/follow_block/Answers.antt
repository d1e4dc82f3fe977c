-- One more chain, or the first with a fault.
use Rattle.std.proofs.Common.{◌≡◌, ◌+◌, ◌*◌, ◌<◌, length, sym, ◌∙◌, ap, subst, arith, rules}
use Rattle.tdb_words.specs.Word.{word}
use Rattle.tdb_words.proofs.Words.{word_of_part}
use Rattle.tdb_space.specs.Form.{chain_head}
use Rattle.tdb_space.specs.FirstFault.{chain_number, FirstInList}
use Rattle.tdb_check.specs.Extent.{extents_seen}
use Rattle.tdb_check.specs.Tails.{TailsOf}
use Rattle.tdb_check.specs.Chains.{ChainsTo, FirstInChains}
use Rattle.tdb_check.specs.Followed.{ChainFollowed}
use Rattle.tdb_check.proofs.Following.{names_then}
use Rattle.tdb_disk.specs.Count.{RoseUpTo}
use Rattle.tdb_check.specs.Reads.{chain_reads, chains_reads}
use Rattle.tdb_check.proofs.Rising.{rose_then, rose_within}
use Rattle.tdb_check.proofs.ChainSums.{chains_push, chains_upto, chains_less}
use Rattle.tdb_check.proofs.Still.{still_then}
use Rattle.tdb_check.proofs.SameViews.{same_view}
use Rattle.tdb_check.proofs.AllChains.{chains_more, chains_fault}
use Rattle.tdb_check.proofs.chains.follow_block.Goals as goal

pub returns-in-Err-clause-bad : goal.returns-in-Err-clause-bad
returns-in-Err-clause-bad g c told long read before n to tails =
    let f = g.S.Space.form c.args.s.now in
    let img = g.S.Space.image c.args.s.now in
    let f2 = g.S.Space.form c.loop-i.s in
    let img2 = g.S.Space.image c.loop-i.s in
    let v = c.loop-i.invariant in
    let again : length img2 ≡ c.args.len = ap length v.looked.image ∙ long in
    let j = c.args.first + c.loop-i.i in
    let place : chain_head c.args.first + 4 * c.loop-i.i ≡ chain_head j = omega arith in
    let head : word f.order img (chain_head j) ≡ c.word_in-head.result =
    sym (c.word_in-head.ensures ∙ (λ k. word (c.order-order.ensures k) (read k) (4 * c.loop-i.i)) ∙ word_of_part f.order img (chain_head c.args.first) (4 * c.args.count) (4 * c.loop-i.i) (omega arith) ∙ ap (word f.order img) place) in
    let there : word f2.order img2 (chain_head j) ≡ c.word_in-head.result = (λ k. word (v.looked.form k).order (v.looked.image k) (chain_head j)) ∙ head in
    let low : j < f.chains = omega (arith, c.requires.chains) in
    names_then c.in-Err.e (FirstInList f2 (chain_number j) img2 (chain_head j)) (FirstInChains f img)
    (λ fault found. chains_fault f img j before c.loop-i.extents.items (n + c.loop-i.live) (v.followed told long read before n to tails).0 low fault
    (same_view (λ k i. FirstInList k (chain_number j) i (chain_head j) fault) f2 f img2 img (sym v.looked.form) (sym v.looked.image) found))
    (c.in-Err.ensures.bad told again there)

pub loop-i-preserved : goal.loop-i-preserved
loop-i-preserved g c =
    let f = g.S.Space.form c.args.s.now in
    let img = g.S.Space.image c.args.s.now in
    let f2 = g.S.Space.form c.loop-i.s in
    let img2 = g.S.Space.image c.loop-i.s in
    let v = c.loop-i.invariant in
    let j = c.args.first + c.loop-i.i in
    record {
      followed = λ told long read before n to tails.
          (let again : length img2 ≡ c.args.len = ap length v.looked.image ∙ long in
          let place : chain_head c.args.first + 4 * c.loop-i.i ≡ chain_head j = omega arith in
          let head : word f.order img (chain_head j) ≡ c.word_in-head.result =
          sym (c.word_in-head.ensures ∙ (λ k. word (c.order-order.ensures k) (read k) (4 * c.loop-i.i)) ∙ word_of_part f.order img (chain_head c.args.first) (4 * c.args.count) (4 * c.loop-i.i) (omega arith) ∙ ap (word f.order img) place) in
          let there : word f2.order img2 (chain_head j) ≡ c.word_in-head.result = (λ k. word (v.looked.form k).order (v.looked.image k) (chain_head j)) ∙ head in
          let so_far = v.followed told long read before n to tails in
          let both : ChainFollowed f j img c.loop-i.extents.items c.follow_chain.new.extents.items c.in-Ok.used × TailsOf f img (extents_seen c.follow_chain.new.extents.items) c.follow_chain.new.notes.tails =
          same_view (λ k i. ChainFollowed k j i c.loop-i.extents.items c.follow_chain.new.extents.items c.in-Ok.used × TailsOf k i (extents_seen c.follow_chain.new.extents.items) c.follow_chain.new.notes.tails) f2 f img2 img (sym v.looked.form) (sym v.looked.image)
          (c.in-Ok.ensures.sound told again there (same_view (λ k i. TailsOf k i (extents_seen c.loop-i.extents.items) c.loop-i.notes.tails) f f2 img img2 v.looked.form v.looked.image so_far.1)) in
          let more = chains_more f img j before c.loop-i.extents.items c.follow_chain.new.extents.items (n + c.loop-i.live) c.in-Ok.used so_far.0 both.0 in
          let number : j + 1 ≡ c.args.first + (c.loop-i.i + 1) = omega arith in
          let total : n + c.loop-i.live + c.in-Ok.used ≡ n + (c.loop-i.live + c.in-Ok.used) = omega arith in (
            subst (λ k. ChainsTo f img k before c.follow_chain.new.extents.items (n + (c.loop-i.live + c.in-Ok.used))) number
                (subst (λ k. ChainsTo f img (j + 1) before c.follow_chain.new.extents.items k) total more),
            both.1,
          ));
      bytes_read = λ told long read.
          (let again : length img2 ≡ c.args.len = ap length v.looked.image ∙ long in
          let place : chain_head c.args.first + 4 * c.loop-i.i ≡ chain_head j = omega arith in
          let head : word f.order img (chain_head j) ≡ c.word_in-head.result =
          sym (c.word_in-head.ensures ∙ (λ k. word (c.order-order.ensures k) (read k) (4 * c.loop-i.i)) ∙ word_of_part f.order img (chain_head c.args.first) (4 * c.args.count) (4 * c.loop-i.i) (omega arith) ∙ ap (word f.order img) place) in
          let there : word f2.order img2 (chain_head j) ≡ c.word_in-head.result = (λ k. word (v.looked.form k).order (v.looked.image k) (chain_head j)) ∙ head in
          let one = still_then (λ k i. RoseUpTo (chain_reads 1 k i j) (g.S.Space.bytes_read c.loop-i.s) (g.S.Space.bytes_read c.follow_chain.new.s)) v.looked.form v.looked.image (c.in-Ok.ensures.bytes_read told again there) in
          rose_then _ _ _ _ _ _ (v.bytes_read told long read) one (omega (arith, chains_push 1 f img c.args.first c.loop-i.i)));
      count = omega (arith, v.count, c.in-Ok.ensures.count);
      looked = search rules;
      faults = search rules;
    }

pub returns-clause-sound : goal.returns-clause-sound
returns-clause-sound g c told long read before n to tails =
    let f = g.S.Space.form c.args.s.now in
    let img = g.S.Space.image c.args.s.now in
    let all : c.args.first + c.loop-i.i ≡ c.args.first + c.args.count = omega arith in
    let so_far = c.loop-i.invariant.followed told long read before n to tails in
    (subst (λ k. ChainsTo f img k before c.loop-i.extents.items (n + c.loop-i.live)) all so_far.0, so_far.1)

pub returns-in-Err-clause-bytes_in_all : goal.returns-in-Err-clause-bytes_in_all
returns-in-Err-clause-bytes_in_all g c told long read =
    let f = g.S.Space.form c.args.s.now in
    let img = g.S.Space.image c.args.s.now in
    let f2 = g.S.Space.form c.loop-i.s in
    let img2 = g.S.Space.image c.loop-i.s in
    let v = c.loop-i.invariant in
    let again : length img2 ≡ c.args.len = ap length v.looked.image ∙ long in
    let j = c.args.first + c.loop-i.i in
    let place : chain_head c.args.first + 4 * c.loop-i.i ≡ chain_head j = omega arith in
    let head : word f.order img (chain_head j) ≡ c.word_in-head.result =
    sym (c.word_in-head.ensures ∙ (λ k. word (c.order-order.ensures k) (read k) (4 * c.loop-i.i)) ∙ word_of_part f.order img (chain_head c.args.first) (4 * c.args.count) (4 * c.loop-i.i) (omega arith) ∙ ap (word f.order img) place) in
    let there : word f2.order img2 (chain_head j) ≡ c.word_in-head.result = (λ k. word (v.looked.form k).order (v.looked.image k) (chain_head j)) ∙ head in
    let low : c.loop-i.i < c.args.count = omega arith in
    let one = still_then (λ k i. RoseUpTo (chain_reads 65 k i j) (g.S.Space.bytes_read c.loop-i.s) (g.S.Space.bytes_read c.follow_chain.new.s)) v.looked.form v.looked.image (c.in-Err.ensures.bytes_in_all told again there) in
    rose_then _ _ _ _ _ _ (v.bytes_read told long read) one (chains_upto f img c.args.first c.loop-i.i c.args.count low)

pub returns-clause-bytes_read : goal.returns-clause-bytes_read
returns-clause-bytes_read g c told long read =
    let f = g.S.Space.form c.args.s.now in
    let img = g.S.Space.image c.args.s.now in
    let all : c.loop-i.i ≡ c.args.count = omega arith in
    subst (λ n. RoseUpTo (chains_reads 1 f img c.args.first n) (g.S.Space.bytes_read c.args.s.now) (g.S.Space.bytes_read c.loop-i.s)) all (c.loop-i.invariant.bytes_read told long read)

pub returns-clause-bytes_in_all : goal.returns-clause-bytes_in_all
returns-clause-bytes_in_all g c told long read =
    let f = g.S.Space.form c.args.s.now in
    let img = g.S.Space.image c.args.s.now in
    let all : c.loop-i.i ≡ c.args.count = omega arith in
    rose_within _ _ _ _ (c.loop-i.invariant.bytes_read told long read) (omega (arith, chains_less f img c.args.first c.loop-i.i, ap (chains_reads 65 f img c.args.first) all))
