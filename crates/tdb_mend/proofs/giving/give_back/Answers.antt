-- An entry that passes the end, one more that was given back, and the end.
use Rattle.std.proofs.Common.{◌≡◌, ◌+◌, ◌-◌, ◌<◌, sym, subst, ◌∙◌, ap, arith, rules}
use Rattle.std.specs.Prelude.{slice_index}
use Rattle.std.proofs.lemmas.Result.{err_from_is_err_and}
use Rattle.tdb_words.specs.Word.{word}
use Rattle.tdb_undo.specs.Torn.{Put}
use Rattle.tdb_check.proofs.Following.{names_then}
use Rattle.tdb_mend.specs.Giving.{content_end_of, gives}
use Rattle.tdb_mend.proofs.GivenBack.{Giving, giving_none, word_same, given_bad, giving_more, giving_all}
use Rattle.tdb_mend.proofs.giving.give_back.Goals as goal

pub loop-place-init : goal.loop-place-init
loop-place-init g c = record {
  above = omega (arith, c.content-place.ensures);
  within = omega (arith, c.content-place.ensures, c.content_end-end.ensures.end);
  giving = λ told.
      subst (λ n. Giving (g.S.Space.form c.args.s.now).order c.args.area.now (g.S.Space.image c.args.s.now) n (g.S.Space.image c.args.s.now)) (sym c.content-place.ensures)
      (giving_none (g.S.Space.form c.args.s.now).order c.args.area.now (g.S.Space.image c.args.s.now));
  wrote = search rules;
  size = search rules;
  faults = search rules;
}

pub returns-then-end-next-clause-bad : goal.returns-then-end-next-clause-bad
returns-then-end-next-clause-bad g c told =
    let o = (g.S.Space.form c.args.s.now).order in
    let a = c.args.area.now in
    let first = g.S.Space.image c.args.s.now in
    let now = g.S.Space.image c.loop-place.s in
    let place = c.loop-place.place in
    let v = c.loop-place.invariant in
    let stop : c.content_end-end.result ≡ content_end_of a = c.content_end-end.ensures.end in
    let low : c.loop-place.place + 8 < content_end_of a = omega (arith, c.loop-place-test.true, stop) in
    let words = c.in_ok-off.ensures.words told in
    let form : (g.S.Space.form c.loop-place.s).order ≡ o = ap (λ f. f.order) v.wrote.form in
    let is_off : c.in_ok-off.off ≡ word o first place = words.0 ∙ ap (λ q. word q now place) form ∙ word_same o a first now place (v.giving told) c.requires.content v.above place (omega arith) (omega (arith, low)) in
    let is_len : c.in_ok-off.len ≡ word o first (place + 4) = words.1 ∙ ap (λ q. word q now (place + 4)) form ∙ word_same o a first now place (v.giving told) c.requires.content v.above (place + 4) (omega arith) (omega (arith, low)) in
    given_bad o a first now place (v.giving told) c.requires.content v.above c.in_ok-off.off c.in_ok-off.len low is_off is_len (omega (arith, c.if-end-next.true, stop))

pub returns-in_err-give_entry-clause-bad : goal.returns-in_err-give_entry-clause-bad
returns-in_err-give_entry-clause-bad g c =
    let p = err_from_is_err_and c.from_residual-in_err-give_entry.result c.from_residual-in_err-give_entry.ensures.1 in
    rw (p.1, p.2) (λ told. names_then c.in_err-give_entry.field-0.0 _ _ (λ fault none. absurd none) c.in_err-give_entry.ensures.refusal)

pub loop-place-preserved : goal.loop-place-preserved
loop-place-preserved g c =
    let v = c.loop-place.invariant in
    record {
      above = omega (arith, v.above);
      within = omega (arith, c.if-end-next.false);
      giving = λ told.
          (let o = (g.S.Space.form c.args.s.now).order in
          let a = c.args.area.now in
          let first = g.S.Space.image c.args.s.now in
          let now = g.S.Space.image c.loop-place.s in
          let after = g.S.Space.image c.give_entry.new.s in
          let place = c.loop-place.place in
          let stop : c.content_end-end.result ≡ content_end_of a = c.content_end-end.ensures.end in
          let low : c.loop-place.place + 8 < content_end_of a = omega (arith, c.loop-place-test.true, stop) in
          let words = c.in_ok-off.ensures.words told in
          let form : (g.S.Space.form c.loop-place.s).order ≡ o = ap (λ f. f.order) v.wrote.form in
          let is_off : c.in_ok-off.off ≡ word o first place = words.0 ∙ ap (λ q. word q now place) form ∙ word_same o a first now place (v.giving told) c.requires.content v.above place (omega arith) (omega (arith, low)) in
          let is_len : c.in_ok-off.len ≡ word o first (place + 4) = words.1 ∙ ap (λ q. word q now (place + 4)) form ∙ word_same o a first now place (v.giving told) c.requires.content v.above (place + 4) (omega arith) (omega (arith, low)) in
          giving_more o a first now place (v.giving told) c.requires.content v.above c.in_ok-off.off c.in_ok-off.len low is_off is_len after (omega (arith, c.if-end-next.false, stop))
          (subst (λ img. Put (gives a c.in_ok-off.off c.in_ok-off.len) (λ i. slice_index img (c.loop-place.place + 8 + (i - c.in_ok-off.off))) img after) c.in_ok-off.ensures.looked.image (c.in_ok-give_entry.ensures.put told)));
      wrote = search rules;
      size = search rules;
      faults = search rules;
    }

pub returns-clause-given : goal.returns-clause-given
returns-clause-given g c told =
    let o = (g.S.Space.form c.args.s.now).order in
    let a = c.args.area.now in
    giving_all o a (g.S.Space.image c.args.s.now) (g.S.Space.image c.loop-place.s) c.loop-place.place (c.loop-place.invariant.giving told) (omega (arith, c.loop-place-test.false, c.content_end-end.ensures.end))
