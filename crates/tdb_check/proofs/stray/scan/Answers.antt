-- A gap, without content and with, and the last one.
use Rattle.std.proofs.Common.{◌≡◌, ◌+◌, ◌-◌, ◌≤◌, min, max, get_or, length, sym, ◌∙◌, ap, subst, arith, rules}
use Rattle.std.proofs.lemmas.Result.{err_from_is_err_and}
use Rattle.tdb_space.specs.Form.{data_start}
use Rattle.tdb_check.specs.declared.extent.Extent.{Extent}
use Rattle.tdb_check.specs.Extent.{off_of}
use Rattle.tdb_check.specs.Stray.{NoContent, FirstContent}
use Rattle.tdb_check.proofs.Following.{names_then}
use Rattle.tdb_check.proofs.Gaps.{Scanned, scanned_more, scanned_end, stray_before, stray_at_end}
use Rattle.tdb_check.proofs.stray.scan.Goals as goal

pub returns-in_err-scan_gap-clause-found : goal.returns-in_err-scan_gap-clause-found
returns-in_err-scan_gap-clause-found g c =
    let p = err_from_is_err_and c.from_residual.result c.from_residual.ensures.1 in
    rw (p.1, p.2)
    (λ told long.
    (let img = g.S.Space.image c.args.s.now in
    let xs = c.args.extents.now in
    let v = c.loop-e.invariant in
    let start = data_start (g.S.Space.form c.args.s.now) in
    let e : Extent = get_or c.args.extents.now c.loop-e.e-index (record { off = 0; rec_len = 0 }) in
    let to : c.min-to.result ≡ min (off_of e) (length img) = c.min-to.ensures ∙ ap (min (off_of e)) (sym long) in
    names_then c.in_err-scan_gap.field-0.0 _ _
    (λ fault f. (
      f.0,
      stray_before xs img start c.loop-e.e-index c.loop-e.from c.loop-e.dead fault.1 (record { off = 0; rec_len = 0 }) c.requires.ordered c.loop-e-test.true v.above (v.scanned told long)
          (subst (λ n. FirstContent img c.loop-e.from n fault.1) to (subst (λ i. FirstContent i c.loop-e.from c.min-to.result fault.1) v.looked.image f.1)),
    ))
    (c.in_err-scan_gap.ensures.found told)))

pub returns-in_err-scan_gap-2-clause-found : goal.returns-in_err-scan_gap-2-clause-found
returns-in_err-scan_gap-2-clause-found g c =
    let p = err_from_is_err_and c.from_residual-in_err-scan_gap-2.result c.from_residual-in_err-scan_gap-2.ensures.1 in
    rw (p.1, p.2)
    (λ told long.
    (let img = g.S.Space.image c.args.s.now in
    let xs = c.args.extents.now in
    let v = c.loop-e.invariant in
    let start = data_start (g.S.Space.form c.args.s.now) in
    let all : c.loop-e.e-index ≡ length c.args.extents.now = omega arith in
    names_then c.in_err-scan_gap-2.field-0.0 _ _
    (λ fault f. (
      f.0,
      stray_at_end xs img start c.loop-e.from c.loop-e.dead fault.1 v.above (subst (λ n. Scanned xs img start n c.loop-e.from c.loop-e.dead) all (v.scanned told long))
          (subst (λ n. FirstContent img c.loop-e.from n fault.1) (sym long) (subst (λ i. FirstContent i c.loop-e.from c.args.len fault.1) v.looked.image f.1)),
    ))
    (c.in_err-scan_gap-2.ensures.found told)))

pub loop-e-preserved : goal.loop-e-preserved
loop-e-preserved g c =
    let v = c.loop-e.invariant in
    record {
      above = omega arith;
      within = omega arith;
      fits = omega arith;
      scanned = λ told long.
          (let img = g.S.Space.image c.args.s.now in
          let xs = c.args.extents.now in
          let start = data_start (g.S.Space.form c.args.s.now) in
          let e : Extent = get_or c.args.extents.now c.loop-e.e-index (record { off = 0; rec_len = 0 }) in
          let to : c.min-to.result ≡ min (off_of e) (length img) = c.min-to.ensures ∙ ap (min (off_of e)) (sym long) in
          let clean : NoContent img c.loop-e.from (min (off_of e) (length img)) =
          subst (NoContent img c.loop-e.from) to (subst (λ i. NoContent i c.loop-e.from c.min-to.result) v.looked.image (c.in_ok-scan_gap.ensures.clean told)) in
          let next = c.max-from.ensures ∙ ap (max c.loop-e.from) (c.min.ensures ∙ (λ j. min (c.end.ensures j) (sym long j))) in
          let count = ap (λ n. c.loop-e.dead + n) (c.saturating_sub-dead.ensures ∙ ap (λ n. n - c.loop-e.from) to) in
          subst (λ n. Scanned xs img start (c.loop-e.e-index + 1) n (c.loop-e.dead + c.saturating_sub-dead.result)) (sym next)
          (subst (Scanned xs img start (c.loop-e.e-index + 1) (max c.loop-e.from (min (e.off + 24 + e.rec_len) (length img)))) (sym count)
          (scanned_more xs img start c.loop-e.e-index c.loop-e.from c.loop-e.dead (record { off = 0; rec_len = 0 }) c.requires.ordered c.loop-e-test.true v.above (v.scanned told long) clean)));
      looked = search rules;
      bytes_read = search rules;
      faults = search rules;
    }

pub returns-clause-clean : goal.returns-clause-clean
returns-clause-clean g c told long =
    let img = g.S.Space.image c.args.s.now in
    let xs = c.args.extents.now in
    let v = c.loop-e.invariant in
    let start = data_start (g.S.Space.form c.args.s.now) in
    let all : c.loop-e.e-index ≡ length c.args.extents.now = omega arith in
    let within : c.loop-e.from ≤ length img = omega (arith, v.within, long) in
    let clean : NoContent img c.loop-e.from (length img) = subst (NoContent img c.loop-e.from) (sym long) (subst (λ i. NoContent i c.loop-e.from c.args.len) v.looked.image (c.in_ok-scan_gap-2.ensures.clean told)) in
    let r = scanned_end xs img start c.loop-e.from c.loop-e.dead v.above within (subst (λ n. Scanned xs img start n c.loop-e.from c.loop-e.dead) all (v.scanned told long)) clean in
    (r.0, ap (λ n. c.loop-e.dead + (n - c.loop-e.from)) (sym long) ∙ r.1)
