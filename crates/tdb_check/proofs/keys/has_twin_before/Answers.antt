-- Those with another hash have another key; so has one that was compared, or it is the twin.
use Rattle.std.proofs.Common.{◌≡◌, ◌+◌, ◌-◌, ◌<◌, length, get_or, sym, ◌∙◌, ap, arith, rules}
use Rattle.std.proofs.lemmas.Bool.{MatchBool-at_true, MatchBool-at_false}
use Rattle.tdb_check.specs.declared.keys.Noted.{Noted}
use Rattle.tdb_check.specs.Keys.{AllNoted, key_of_noted}
use Rattle.tdb_check.proofs.Notings.{apart_before, one_before, twin_here}
use Rattle.tdb_check.proofs.Pairs.{one_compared}
use Rattle.tdb_check.proofs.SameViews.{same_view}
use Rattle.tdb_check.proofs.keys.has_twin_before.Goals as goal

pub returns-then-other-last-clause-twin : goal.returns-then-other-last-clause-twin
returns-then-other-last-clause-twin g c told long mark all =
    let f = g.S.Space.form c.args.s.now in
    let img = g.S.Space.image c.args.s.now in
    let next : c.loop-k.k ≡ (c.loop-k.k - 1) + 1 = omega arith in
    let before : c.loop-k.k - 1 < c.args.i = omega arith in
    apart_before mark f img c.args.sorted.now c.args.i (c.loop-k.k - 1) c.loop-k.k _ next c.requires.ordered all c.requires.within before c.if-other-last.true (c.loop-k.invariant.apart told long mark all)

pub returns-in-Err-clause-no_fault : goal.returns-in-Err-clause-no_fault
returns-in-Err-clause-no_fault g c told long mark all =
    let f = g.S.Space.form c.args.s.now in
    let img = g.S.Space.image c.args.s.now in
    let f2 = g.S.Space.form c.loop-k.s in
    let img2 = g.S.Space.image c.loop-k.s in
    let v = c.loop-k.invariant in
    let there : AllNoted mark f2 img2 c.args.sorted.now = same_view (λ h i. AllNoted mark h i c.args.sorted.now) f f2 img img2 v.looked.form v.looked.image all in
    let before : c.loop-k.k - 1 < length c.args.sorted.now = omega arith in
    c.in-Err.ensures.no_fault told (ap length v.looked.image ∙ long) mark (there (c.loop-k.k - 1) _ before) (there c.args.i _ c.requires.within)

pub returns-then-same-clause-twin : goal.returns-then-same-clause-twin
returns-then-same-clause-twin g c told long mark all =
    let f = g.S.Space.form c.args.s.now in
    let img = g.S.Space.image c.args.s.now in
    let f2 = g.S.Space.form c.loop-k.s in
    let img2 = g.S.Space.image c.loop-k.s in
    let v = c.loop-k.invariant in
    let there : AllNoted mark f2 img2 c.args.sorted.now = same_view (λ h i. AllNoted mark h i c.args.sorted.now) f f2 img img2 v.looked.form v.looked.image all in
    let before : c.loop-k.k - 1 < length c.args.sorted.now = omega arith in
    let less : c.loop-k.k - 1 < c.args.i = omega arith in
    let none : Noted = record { mark = 0; key_len = 0; at = 0 } in
    let same = MatchBool-at_true _ _ c.if-same.true (c.in-Ok.ensures.same told mark (there (c.loop-k.k - 1) none before) (there c.args.i none c.requires.within)) in
    twin_here f img c.args.sorted.now c.args.i (c.loop-k.k - 1) none none c.requires.within less
    ((λ i. key_of_noted (sym v.looked.form i) (sym v.looked.image i) (get_or c.args.sorted.now (c.loop-k.k - 1) none))
    ∙ same
    ∙ (λ i. key_of_noted (v.looked.form i) (v.looked.image i) (get_or c.args.sorted.now c.args.i none)))

pub loop-k-preserved : goal.loop-k-preserved
loop-k-preserved g c =
    let f = g.S.Space.form c.args.s.now in
    let img = g.S.Space.image c.args.s.now in
    let f2 = g.S.Space.form c.loop-k.s in
    let img2 = g.S.Space.image c.loop-k.s in
    let v = c.loop-k.invariant in
    let before : c.loop-k.k - 1 < length c.args.sorted.now = omega arith in
    let none : Noted = record { mark = 0; key_len = 0; at = 0 } in
    record {
      within = omega arith;
      no_more = λ d. omega (arith, v.no_more d, one_compared c.args.sorted.now c.args.i c.loop-k.k d none c.loop-k-test.true v.within c.requires.within c.if-other-last.false, c.in-Ok.ensures.bytes_read.no_more);
      never_falls = omega (arith, v.never_falls, c.in-Ok.ensures.bytes_read.never_falls);
      apart = λ told long mark all.
          (let there : AllNoted mark f2 img2 c.args.sorted.now = same_view (λ h i. AllNoted mark h i c.args.sorted.now) f f2 img img2 v.looked.form v.looked.image all in
          let other = MatchBool-at_false _ _ c.if-same.false (c.in-Ok.ensures.same told mark (there (c.loop-k.k - 1) none before) (there c.args.i none c.requires.within)) in
          one_before f img c.args.sorted.now c.args.i c.loop-k.k (c.loop-k.k - 1) none before c.requires.within (omega arith) (v.apart told long mark all)
          (λ same. other ((λ i. key_of_noted (v.looked.form i) (v.looked.image i) (get_or c.args.sorted.now (c.loop-k.k - 1) none)) ∙ same
          ∙ (λ i. key_of_noted (sym v.looked.form i) (sym v.looked.image i) (get_or c.args.sorted.now c.args.i none)))));
      looked = search rules;
      faults = search rules;
    }

pub returns-clause-twin : goal.returns-clause-twin
returns-clause-twin g c told long mark all k d from under same = c.loop-k.invariant.apart told long mark all k d (omega (arith, from)) under same

pub returns-then-other-last-clause-bytes_read : goal.returns-then-other-last-clause-bytes_read
returns-then-other-last-clause-bytes_read g c d = let v = c.loop-k.invariant in record { no_more = omega (arith, v.no_more d); never_falls = v.never_falls }

pub returns-in-Err-clause-bytes_read : goal.returns-in-Err-clause-bytes_read
returns-in-Err-clause-bytes_read g c d =
    let v = c.loop-k.invariant in
    let none : Noted = record { mark = 0; key_len = 0; at = 0 } in
    let one = one_compared c.args.sorted.now c.args.i c.loop-k.k d none c.loop-k-test.true v.within c.requires.within c.if-other-last.false in
    record { no_more = omega (arith, v.no_more d, one, c.in-Err.ensures.bytes_read.no_more); never_falls = omega (arith, v.never_falls, c.in-Err.ensures.bytes_read.never_falls) }

pub returns-then-same-clause-bytes_read : goal.returns-then-same-clause-bytes_read
returns-then-same-clause-bytes_read g c d =
    let v = c.loop-k.invariant in
    let none : Noted = record { mark = 0; key_len = 0; at = 0 } in
    let one = one_compared c.args.sorted.now c.args.i c.loop-k.k d none c.loop-k-test.true v.within c.requires.within c.if-other-last.false in
    record { no_more = omega (arith, v.no_more d, one, c.in-Ok.ensures.bytes_read.no_more); never_falls = omega (arith, v.never_falls, c.in-Ok.ensures.bytes_read.never_falls) }

pub returns-clause-bytes_read : goal.returns-clause-bytes_read
returns-clause-bytes_read g c d = let v = c.loop-k.invariant in record { no_more = omega (arith, v.no_more d); never_falls = v.never_falls }
