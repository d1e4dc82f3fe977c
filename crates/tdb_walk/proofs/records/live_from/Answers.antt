-- One record more, the first live record, and the ends of the chain.
use Rattle.std.proofs.Common.{◌≡◌, ℕ, ◌+◌, Some, length, sym, ◌∙◌, ap, subst, arith, rules}
use Rattle.std.specs.Prelude.{◌/◌, IfSome}
use Rattle.tdb_words.specs.declared.record.Rec.{Rec}
use Rattle.tdb_words.specs.Record.{rec_at}
use Rattle.tdb_space.specs.Record.{Whole}
use Rattle.tdb_space.specs.Standing.{Stands}
use Rattle.tdb_walk.specs.declared.live.Live.{Live}
use Rattle.tdb_walk.specs.NextLive.{live_at}
use Rattle.tdb_walk.proofs.Costs.{OnTheWay, way_start, way_ended, way_passed}
use Rattle.tdb_walk.proofs.Left.{Left, left_start, left_end, left_more, left_met}
use Rattle.tdb_walk.proofs.records.live_from.Goals as goal

pub loop-turn-init : goal.loop-turn-init
loop-turn-init g c = record {
  left = λ told offs linked filed. left_start (g.S.Space.form c.args.s.now) (g.S.Space.image c.args.s.now) c.args.chain offs c.args.first linked filed;
  looked = search rules;
  faults = search rules;
  bytes_read = search rules;
  reads = λ told. way_start (g.S.Space.form c.args.s.now) (g.S.Space.image c.args.s.now) c.args.first (g.S.Space.bytes_read c.args.s.now);
}

-- no record can stand there
pub returns-in_default-clause-found : goal.returns-in_default-clause-found
returns-in_default-clause-found g c told offs linked filed =
    let f = g.S.Space.form c.args.s.now in
    let img = g.S.Space.image c.args.s.now in
    let v = c.loop-turn.invariant in
    let at = c.loop-turn.at in
    let there = c.in_ok-rec.ensures.there told in
    let never : Whole f img at → ⊥ = λ whole. c.in_default.not-Some (rec_at (g.S.Space.form c.loop-turn.s).order (g.S.Space.image c.loop-turn.s) at) (there (subst (λ x. Whole x (g.S.Space.image c.loop-turn.s) at) (sym v.looked.form) (subst (λ i. Whole f i at) (sym v.looked.image) whole))) in
    ap (live_at f img c.args.chain) (sym (left_end f img c.args.chain offs c.loop-turn._turn at (v.left told offs linked filed) never))

-- a used record there has no room for what it holds
pub returns-then-held-rec-clause-found : goal.returns-then-held-rec-clause-found
returns-then-held-rec-clause-found g c told offs linked filed =
    let f = g.S.Space.form c.args.s.now in
    let img = g.S.Space.image c.args.s.now in
    let v = c.loop-turn.invariant in
    let at = c.loop-turn.at in
    let stands = subst (λ found. IfSome found (λ r. Stands (g.S.Space.form c.loop-turn.s) (g.S.Space.size c.loop-turn.s) at r.rec_len)) c.in-Some.is c.in_ok-rec.ensures.stands in
    let some : at ≡ 0 → ⊥ = λ e. absurd (omega (arith, e, stands.above)) in
    let read : c.in-Some.rec ≡ rec_at f.order img at =
    subst (λ found. IfSome found (λ r. r ≡ rec_at (g.S.Space.form c.loop-turn.s).order (g.S.Space.image c.loop-turn.s) at)) c.in-Some.is (c.in_ok-rec.ensures.header told) ∙ (λ j. rec_at (v.looked.form j).order (v.looked.image j) at) in
    let met = left_met f img c.args.chain offs c.loop-turn._turn at (v.left told offs linked filed) some (ap (λ (r : Rec). r.magic) (sym read) ∙ c.if-rec-eq-USED.true) in
    absurd (omega (arith, met.0.fits, c.if-held-rec.true, ap (λ (r : Rec). r.key_len) read, ap (λ (r : Rec). r.data_len) read, ap (λ (r : Rec). r.rec_len) read))

-- the record there is live
pub returns-then-rec-eq-USED-clause-found : goal.returns-then-rec-eq-USED-clause-found
returns-then-rec-eq-USED-clause-found g c told offs linked filed =
    let f = g.S.Space.form c.args.s.now in
    let img = g.S.Space.image c.args.s.now in
    let v = c.loop-turn.invariant in
    let at = c.loop-turn.at in
    let stands = subst (λ found. IfSome found (λ r. Stands (g.S.Space.form c.loop-turn.s) (g.S.Space.size c.loop-turn.s) at r.rec_len)) c.in-Some.is c.in_ok-rec.ensures.stands in
    let some : at ≡ 0 → ⊥ = λ e. absurd (omega (arith, e, stands.above)) in
    let read : c.in-Some.rec ≡ rec_at f.order img at =
    subst (λ found. IfSome found (λ r. r ≡ rec_at (g.S.Space.form c.loop-turn.s).order (g.S.Space.image c.loop-turn.s) at)) c.in-Some.is (c.in_ok-rec.ensures.header told) ∙ (λ j. rec_at (v.looked.form j).order (v.looked.image j) at) in
    let met = left_met f img c.args.chain offs c.loop-turn._turn at (v.left told offs linked filed) some (ap (λ (r : Rec). r.magic) (sym read) ∙ c.if-rec-eq-USED.true) in
    (λ j. Some (live_of c.args.chain at (read j))) ∙ ap (live_at f img c.args.chain) (sym met.1)
  where
    live_of : ℕ → ℕ → Rec → Live
    live_of chain off rec = record { chain = chain; off = off; rec = rec }

-- the record there isn't live
pub loop-turn-preserved : goal.loop-turn-preserved
loop-turn-preserved g c =
    let f = g.S.Space.form c.args.s.now in
    let img = g.S.Space.image c.args.s.now in
    let v = c.loop-turn.invariant in
    let at = c.loop-turn.at in
    record {
      left = λ told offs linked filed.
          (let stands = subst (λ found. IfSome found (λ r. Stands (g.S.Space.form c.loop-turn.s) (g.S.Space.size c.loop-turn.s) at r.rec_len)) c.in-Some.is c.in_ok-rec.ensures.stands in
          let some : at ≡ 0 → ⊥ = λ e. absurd (omega (arith, e, stands.above)) in
          let read : c.in-Some.rec ≡ rec_at f.order img at =
          subst (λ found. IfSome found (λ r. r ≡ rec_at (g.S.Space.form c.loop-turn.s).order (g.S.Space.image c.loop-turn.s) at)) c.in-Some.is (c.in_ok-rec.ensures.header told) ∙ (λ j. rec_at (v.looked.form j).order (v.looked.image j) at) in
          subst (Left f img c.args.chain offs (c.loop-turn._turn + 1)) (sym (ap (λ (r : Rec). r.next) read))
          (left_more f img c.args.chain offs c.loop-turn._turn at (v.left told offs linked filed) some (λ used. c.if-rec-eq-USED.false (ap (λ (r : Rec). r.magic) read ∙ used))));
      looked = search rules;
      faults = search rules;
      bytes_read = search rules;
      reads = λ told.
          (let stands = subst (λ found. IfSome found (λ r. Stands (g.S.Space.form c.loop-turn.s) (g.S.Space.size c.loop-turn.s) at r.rec_len)) c.in-Some.is c.in_ok-rec.ensures.stands in
          let some : at ≡ 0 → ⊥ = λ e. absurd (omega (arith, e, stands.above)) in
          let read : c.in-Some.rec ≡ rec_at f.order img at =
          subst (λ found. IfSome found (λ r. r ≡ rec_at (g.S.Space.form c.loop-turn.s).order (g.S.Space.image c.loop-turn.s) at)) c.in-Some.is (c.in_ok-rec.ensures.header told) ∙ (λ j. rec_at (v.looked.form j).order (v.looked.image j) at) in
          let long : length img ≡ c.args.len = g.met.S.Space.told_size c.args.s.now told ∙ sym c.requires.length in
          subst (λ n. OnTheWay f img c.args.first (c.loop-turn._turn + 1) n (g.S.Space.bytes_read c.args.s.now) (g.S.Space.bytes_read c.read_listed.new.s)) (sym (ap (λ (r : Rec). r.next) read))
          (way_passed f img c.args.first c.loop-turn._turn at (g.S.Space.bytes_read c.args.s.now) (g.S.Space.bytes_read c.loop-turn.s) (g.S.Space.bytes_read c.read_listed.new.s) (v.reads told) some
          (omega (arith, c.loop-turn-test.true, ap (λ n. n / 4) long)) (λ used. c.if-rec-eq-USED.false (ap (λ (r : Rec). r.magic) read ∙ used)) c.read_listed.ensures.bytes_read.no_more));
    }

-- what was read where the walk ends
pub returns-in_err-rec-clause-reads : goal.returns-in_err-rec-clause-reads
returns-in_err-rec-clause-reads g c told =
    let v = c.loop-turn.invariant in
    way_ended (g.S.Space.form c.args.s.now) (g.S.Space.image c.args.s.now) c.args.first c.loop-turn._turn c.loop-turn.at (g.S.Space.bytes_read c.args.s.now) (g.S.Space.bytes_read c.loop-turn.s) (g.S.Space.bytes_read c.read_listed.new.s) (v.reads told) v.bytes_read c.read_listed.ensures.bytes_read

pub returns-in_default-clause-reads : goal.returns-in_default-clause-reads
returns-in_default-clause-reads g c told =
    let v = c.loop-turn.invariant in
    way_ended (g.S.Space.form c.args.s.now) (g.S.Space.image c.args.s.now) c.args.first c.loop-turn._turn c.loop-turn.at (g.S.Space.bytes_read c.args.s.now) (g.S.Space.bytes_read c.loop-turn.s) (g.S.Space.bytes_read c.read_listed.new.s) (v.reads told) v.bytes_read c.read_listed.ensures.bytes_read

pub returns-then-held-rec-clause-reads : goal.returns-then-held-rec-clause-reads
returns-then-held-rec-clause-reads g c told =
    let v = c.loop-turn.invariant in
    way_ended (g.S.Space.form c.args.s.now) (g.S.Space.image c.args.s.now) c.args.first c.loop-turn._turn c.loop-turn.at (g.S.Space.bytes_read c.args.s.now) (g.S.Space.bytes_read c.loop-turn.s) (g.S.Space.bytes_read c.read_listed.new.s) (v.reads told) v.bytes_read c.read_listed.ensures.bytes_read

pub returns-then-rec-eq-USED-clause-reads : goal.returns-then-rec-eq-USED-clause-reads
returns-then-rec-eq-USED-clause-reads g c told =
    let v = c.loop-turn.invariant in
    way_ended (g.S.Space.form c.args.s.now) (g.S.Space.image c.args.s.now) c.args.first c.loop-turn._turn c.loop-turn.at (g.S.Space.bytes_read c.args.s.now) (g.S.Space.bytes_read c.loop-turn.s) (g.S.Space.bytes_read c.read_listed.new.s) (v.reads told) v.bytes_read c.read_listed.ensures.bytes_read

pub returns-clause-reads : goal.returns-clause-reads
returns-clause-reads g c told = record { no_more = omega (arith, c.loop-turn.invariant.reads told); never_falls = c.loop-turn.invariant.bytes_read }
