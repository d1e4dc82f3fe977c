-- One record more, the record itself, and the ends of the chain.
use Rattle.std.proofs.Common.{◌≡◌, ◌+◌, refl, sym, ◌∙◌, ap, subst, rules}
use Rattle.std.specs.Prelude.{IfSome}
use Rattle.tdb_words.specs.declared.record.Rec.{Rec}
use Rattle.tdb_words.specs.Record.{rec_at}
use Rattle.tdb_space.specs.Record.{Whole}
use Rattle.tdb_walk.proofs.Placed.{Comes, comes_start, comes_whole, comes_here, comes_more}
use Rattle.tdb_walk.proofs.purging.dead_place.Goals as goal

pub loop-turn-init : goal.loop-turn-init
loop-turn-init g c = record {
  comes = λ told hands A dead.
      comes_start (g.S.Space.form c.args.s.now) (g.S.Space.image c.args.s.now) c.args.chain c.args.off c.chain_head-before.result c.in_ok-at.at hands A c.requires.below dead.member c.chain_head-before.ensures (c.in_ok-at.ensures.value told);
  led = search rules;
  aligned = search rules;
  short = search rules;
  looked = search rules;
  faults = search rules;
  bytes_read = search rules;
}

-- no record can stand there
pub returns-in_default-clause-found : goal.returns-in_default-clause-found
returns-in_default-clause-found g c told hands A dead =
    let f = g.S.Space.form c.args.s.now in
    let img = g.S.Space.image c.args.s.now in
    let v = c.loop-turn.invariant in
    let at = c.loop-turn.at in
    let whole = comes_whole f img c.args.chain c.args.off c.loop-turn._turn c.loop-turn.before at (v.comes told hands A dead) in
    c.in_default.not-Some (rec_at (g.S.Space.form c.loop-turn.s).order (g.S.Space.image c.loop-turn.s) at)
    (c.in_ok-rec.ensures.there told (subst (λ x. Whole x (g.S.Space.image c.loop-turn.s) at) (sym v.looked.form) (subst (λ i. Whole f i at) (sym v.looked.image) whole)))

-- the record isn't there yet
pub loop-turn-preserved : goal.loop-turn-preserved
loop-turn-preserved g c =
    let f = g.S.Space.form c.args.s.now in
    let img = g.S.Space.image c.args.s.now in
    let v = c.loop-turn.invariant in
    let at = c.loop-turn.at in
    record {
      comes = λ told hands A dead.
          (let read : c.in-Some.rec ≡ rec_at f.order img at =
          subst (λ found. IfSome found (λ r. r ≡ rec_at (g.S.Space.form c.loop-turn.s).order (g.S.Space.image c.loop-turn.s) at)) c.in-Some.is (c.in_ok-rec.ensures.header told) ∙ (λ j. rec_at (v.looked.form j).order (v.looked.image j) at) in
          subst (Comes f img c.args.chain c.args.off (c.loop-turn._turn + 1) at) (sym (ap (λ (r : Rec). r.next) read))
          (comes_more f img c.args.chain c.args.off c.loop-turn._turn c.loop-turn.before at (v.comes told hands A dead) c.if-at-off.false));
      led = search rules;
      aligned = search rules;
      short = search rules;
      looked = search rules;
      faults = search rules;
      bytes_read = search rules;
    }

-- the record is there
pub returns-then-at-off-clause-found : goal.returns-then-at-off-clause-found
returns-then-at-off-clause-found g c told hands A dead =
    let f = g.S.Space.form c.args.s.now in
    let img = g.S.Space.image c.args.s.now in
    let v = c.loop-turn.invariant in
    let at = c.loop-turn.at in
    let read : c.in-Some.rec ≡ rec_at f.order img at =
    subst (λ found. IfSome found (λ r. r ≡ rec_at (g.S.Space.form c.loop-turn.s).order (g.S.Space.image c.loop-turn.s) at)) c.in-Some.is (c.in_ok-rec.ensures.header told) ∙ (λ j. rec_at (v.looked.form j).order (v.looked.image j) at) in
    record {
      there = refl;
      leads = comes_here f img c.args.chain c.args.off c.loop-turn._turn c.loop-turn.before at (v.comes told hands A dead) c.if-at-off.true;
      header = read ∙ ap (rec_at f.order img) c.if-at-off.true;
    }
