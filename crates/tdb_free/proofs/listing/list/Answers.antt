-- One record more, and the ends of the list.
use Rattle.std.proofs.Common.{◌≡◌, sym, ◌∙◌, subst, arith, rules}
use Rattle.std.specs.Prelude.{IfSome}
use Rattle.tdb_words.specs.Record.{rec_at}
use Rattle.tdb_space.specs.Record.{Whole}
use Rattle.tdb_space.specs.Standing.{Stands}
use Rattle.tdb_free.proofs.PutDown.{put_more, put_end, put_all}
use Rattle.tdb_free.proofs.listing.list.Goals as goal

-- no record can stand there
pub returns-in_default-clause-listed : goal.returns-in_default-clause-listed
returns-in_default-clause-listed g c told offs free =
    let f = g.S.Space.form c.args.s.now in
    let img = g.S.Space.image c.args.s.now in
    let v = c.loop-turn.invariant in
    let there = c.in_ok-rec.ensures.there told in
    let never : Whole f img c.loop-turn.at → ⊥ = λ whole. c.in_default.not-Some (rec_at (g.S.Space.form c.loop-turn.s).order (g.S.Space.image c.loop-turn.s) c.loop-turn.at) (there (subst (λ x. Whole x (g.S.Space.image c.loop-turn.s) c.loop-turn.at) (sym v.looked.form) (subst (λ i. Whole f i c.loop-turn.at) (sym v.looked.image) whole))) in
    put_end f img offs c.loop-turn.records c.loop-turn._turn c.loop-turn.at (v.put told offs free) never

-- one record more
pub loop-turn-preserved : goal.loop-turn-preserved
loop-turn-preserved g c =
    let f = g.S.Space.form c.args.s.now in
    let img = g.S.Space.image c.args.s.now in
    let v = c.loop-turn.invariant in
    record {
      put = λ told offs free.
          (let stands = subst (λ found. IfSome found (λ r. Stands (g.S.Space.form c.loop-turn.s) (g.S.Space.size c.loop-turn.s) c.loop-turn.at r.rec_len)) c.in-Some.is c.in_ok-rec.ensures.stands in
          let some : c.loop-turn.at ≡ 0 → ⊥ = λ e. absurd (omega (arith, e, stands.above)) in
          let read : c.in-Some.rec ≡ rec_at f.order img c.loop-turn.at =
          subst (λ found. IfSome found (λ r. r ≡ rec_at (g.S.Space.form c.loop-turn.s).order (g.S.Space.image c.loop-turn.s) c.loop-turn.at)) c.in-Some.is (c.in_ok-rec.ensures.header told)
          ∙ (λ j. rec_at (v.looked.form j).order (v.looked.image j) c.loop-turn.at) in
          put_more f img offs c.loop-turn.records c.loop-turn._turn c.loop-turn.at (v.put told offs free) c.in-Some.rec c.push.new.self some read c.in_ok-push.ensures.ok);
      looked = search rules;
      faults = search rules;
      bytes_read = search rules;
    }

-- as many records were passed as the image has words
pub returns-clause-listed : goal.returns-clause-listed
returns-clause-listed g c told offs free =
    let f = g.S.Space.form c.args.s.now in
    let img = g.S.Space.image c.args.s.now in
    let v = c.loop-turn.invariant in
    put_all f img offs c.loop-turn.records c.loop-turn._turn c.loop-turn.at (v.put told offs free) free
    (omega (arith, g.met.S.Space.told_size c.args.s.now told, c.in_ok-len.ensures.length, c.loop-turn-test.false))
