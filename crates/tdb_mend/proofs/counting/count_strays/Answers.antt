-- No gap so far, one more with the extent behind it, and the last one.
use Rattle.std.proofs.Common.{◌≡◌, ◌+◌, ◌*◌, min, max, get_or, length, sym, ◌∙◌, ap, subst, arith, rules}
use Rattle.tdb_space.specs.Form.{data_start}
use Rattle.tdb_check.specs.declared.extent.Extent.{Extent}
use Rattle.tdb_check.specs.Extent.{off_of}
use Rattle.tdb_mend.specs.Counting.{content_between}
use Rattle.tdb_mend.proofs.Counted.{CountedTo, counted_none, counted_more, counted_end}
use Rattle.tdb_mend.proofs.counting.count_strays.Goals as goal

pub loop-e-init : goal.loop-e-init
loop-e-init g c =
    let start : c.data_start-from.result ≡ data_start (g.S.Space.form c.args.s.now) = c.data_start-from.ensures ∙ ap (λ n. 168 + 4 * (n + 1)) c.hash_size.ensures in
    record {
      above = omega (arith, start);
      within = omega (arith, start, c.requires.heads);
      fits = omega arith;
      counted = λ told.
          subst (λ n. CountedTo c.args.extents.now (g.S.Space.image c.args.s.now) (data_start (g.S.Space.form c.args.s.now)) 0 n 0) (sym start)
          (counted_none c.args.extents.now (g.S.Space.image c.args.s.now) (data_start (g.S.Space.form c.args.s.now)));
      looked = search rules;
      faults = search rules;
    }

pub loop-e-preserved : goal.loop-e-preserved
loop-e-preserved g c =
    let v = c.loop-e.invariant in
    let most = c.in_ok-found.ensures.most in
    record {
      above = omega (arith, v.above, c.max-from.ensures);
      within = omega (arith, v.within, c.max-from.ensures, c.min.ensures);
      fits = omega (arith, v.fits, most, c.min-to.ensures, c.max-from.ensures, c.min.ensures, c.end.ensures);
      counted = λ told.
          (let img = g.S.Space.image c.args.s.now in
          let xs = c.args.extents.now in
          let start = data_start (g.S.Space.form c.args.s.now) in
          let long : length img ≡ c.args.len = g.met.S.Space.told_size c.args.s.now told ∙ sym c.requires.length in
          let e : Extent = get_or c.args.extents.now c.loop-e.e-index (record { off = 0; rec_len = 0 }) in
          let to : c.min-to.result ≡ min (off_of e) (length img) = c.min-to.ensures ∙ ap (min (off_of e)) (sym long) in
          let next = c.max-from.ensures ∙ ap (max c.loop-e.from) (c.min.ensures ∙ (λ j. min (c.end.ensures j) (sym long j))) in
          let found : c.in_ok-found.found ≡ content_between img c.loop-e.from (min (off_of e) (length img)) =
          c.in_ok-found.ensures.count told ∙ (λ j. content_between (v.looked.image j) c.loop-e.from (to j)) in
          subst (λ n. CountedTo xs img start (c.loop-e.e-index + 1) n (c.loop-e.strays + c.in_ok-found.found)) (sym next)
          (subst (λ n. CountedTo xs img start (c.loop-e.e-index + 1) (max c.loop-e.from (min (e.off + 24 + e.rec_len) (length img))) (c.loop-e.strays + n)) (sym found)
          (counted_more xs img start c.loop-e.e-index c.loop-e.from c.loop-e.strays (record { off = 0; rec_len = 0 }) c.requires.ordered c.loop-e-test.true v.above (omega (arith, v.within, long)) (v.counted told))));
      looked = search rules;
      faults = search rules;
    }

pub returns-clause-count : goal.returns-clause-count
returns-clause-count g c told =
    let img = g.S.Space.image c.args.s.now in
    let xs = c.args.extents.now in
    let v = c.loop-e.invariant in
    let start = data_start (g.S.Space.form c.args.s.now) in
    let long : length img ≡ c.args.len = g.met.S.Space.told_size c.args.s.now told ∙ sym c.requires.length in
    let all : c.loop-e.e-index ≡ length c.args.extents.now = omega arith in
    let last : c.in_ok-last.last ≡ content_between img c.loop-e.from (length img) = c.in_ok-last.ensures.count told ∙ (λ j. content_between (v.looked.image j) c.loop-e.from (sym long j)) in
    ap (λ n. c.loop-e.strays + n) last
    ∙ counted_end xs img start c.loop-e.from c.loop-e.strays v.above (omega (arith, v.within, long)) (subst (λ n. CountedTo xs img start n c.loop-e.from c.loop-e.strays) all (v.counted told))
