-- The first record, one step more, and the ways out of the walk.
use Rattle.std.proofs.Common.{◌≡◌, false, refl, sym, ◌∙◌, ap, subst, inl, inr, arith, rules}
use Rattle.std.specs.Prelude.{IfSome}
use Rattle.std.proofs.lemmas.Bool.{le-leb, lt-leb}
use Rattle.tdb_words.specs.Record.{rec_at}
use Rattle.tdb_space.specs.Record.{Whole}
use Rattle.tdb_free.specs.FreeList.{is_long_enough}
use Rattle.tdb_space.specs.Standing.{Stands}
use Rattle.tdb_free.proofs.Passed.{passed_start, passed_end, passed_more, passed_found, passed_all}
use Rattle.tdb_free.proofs.search.find_fit.Goals as goal

pub loop-turn-init : goal.loop-turn-init
loop-turn-init g c = record {
  passed = λ told offs list. passed_start (g.S.Space.form c.args.s.now) (g.S.Space.image c.args.s.now) offs (is_long_enough c.args.rec_len) c.in_ok-at.at (c.in_ok-at.ensures.leads told offs list);
  led_aligned = refl;
  led = inl refl;
  looked = search rules;
  faults = search rules;
  bytes_read = search rules;
  most = omega (arith, c.first_free.ensures.bytes_read.no_more);
}

-- no record can stand there
pub returns-in_default-clause-found : goal.returns-in_default-clause-found
returns-in_default-clause-found g c told offs list =
    let f = g.S.Space.form c.args.s.now in
    let img = g.S.Space.image c.args.s.now in
    let v = c.loop-turn.invariant in
    let there = c.in_ok-rec.ensures.there told in
    let never : Whole f img c.loop-turn.at → ⊥ = λ whole. c.in_default.not-Some (rec_at (g.S.Space.form c.loop-turn.s).order (g.S.Space.image c.loop-turn.s) c.loop-turn.at) (there (subst (λ x. Whole x (g.S.Space.image c.loop-turn.s) c.loop-turn.at) (sym v.looked.form) (subst (λ i. Whole f i c.loop-turn.at) (sym v.looked.image) whole))) in
    passed_end f img offs (is_long_enough c.args.rec_len) c.loop-turn._turn c.loop-turn.before c.loop-turn.at (v.passed told offs list) never

-- the record there is wanted
pub returns-then-rec_len-rec-clause-found : goal.returns-then-rec_len-rec-clause-found
returns-then-rec_len-rec-clause-found g c told offs list =
    let f = g.S.Space.form c.args.s.now in
    let img = g.S.Space.image c.args.s.now in
    let v = c.loop-turn.invariant in
    let at = c.loop-turn.at in
    let rec = c.in-Some.rec in
    let stands = subst (λ found. IfSome found (λ r. Stands (g.S.Space.form c.loop-turn.s) (g.S.Space.size c.loop-turn.s) at r.rec_len)) c.in-Some.is c.in_ok-rec.ensures.stands in
    let read : rec ≡ rec_at f.order img at =
    subst (λ found. IfSome found (λ r. r ≡ rec_at (g.S.Space.form c.loop-turn.s).order (g.S.Space.image c.loop-turn.s) at)) c.in-Some.is (c.in_ok-rec.ensures.header told)
    ∙ (λ j. rec_at (v.looked.form j).order (v.looked.image j) at) in
    passed_found f img offs (is_long_enough c.args.rec_len) c.loop-turn._turn c.loop-turn.before at (v.passed told offs list)
    (record { off = at; before = c.loop-turn.before; next = rec.next; rec_len = rec.rec_len })
    (omega (arith, stands.above, ap (λ x. x.chains) v.looked.form)) refl refl (ap (λ q. q.next) read) (ap (λ q. q.rec_len) read) (le-leb c.args.rec_len rec.rec_len c.if-rec_len-rec.true)

-- one step more
pub loop-turn-preserved : goal.loop-turn-preserved
loop-turn-preserved g c =
    let f = g.S.Space.form c.args.s.now in
    let img = g.S.Space.image c.args.s.now in
    let v = c.loop-turn.invariant in
    let at = c.loop-turn.at in
    let rec = c.in-Some.rec in
    let stands = subst (λ found. IfSome found (λ r. Stands (g.S.Space.form c.loop-turn.s) (g.S.Space.size c.loop-turn.s) at r.rec_len)) c.in-Some.is c.in_ok-rec.ensures.stands in
    record {
      passed = λ told offs list.
          (let read : rec ≡ rec_at f.order img at =
          subst (λ found. IfSome found (λ r. r ≡ rec_at (g.S.Space.form c.loop-turn.s).order (g.S.Space.image c.loop-turn.s) at)) c.in-Some.is (c.in_ok-rec.ensures.header told)
          ∙ (λ j. rec_at (v.looked.form j).order (v.looked.image j) at) in
          passed_more f img offs (is_long_enough c.args.rec_len) c.loop-turn._turn c.loop-turn.before at (v.passed told offs list) rec.next (omega (arith, stands.above, ap (λ x. x.chains) v.looked.form)) (ap (λ q. q.next) read)
          (subst (λ n. is_long_enough c.args.rec_len (at, n) ≡ false) (ap (λ q. q.rec_len) read) (lt-leb c.args.rec_len rec.rec_len c.if-rec_len-rec.false)));
      led_aligned = stands.aligned;
      led = inr (omega (arith, stands.within, v.looked.size));
      looked = search rules;
      faults = search rules;
      bytes_read = search rules;
      most = omega (arith, v.most, c.read_listed.ensures.bytes_read.no_more);
    }

-- as many records were passed as the image has words
pub returns-clause-found : goal.returns-clause-found
returns-clause-found g c told offs list =
    let f = g.S.Space.form c.args.s.now in
    let img = g.S.Space.image c.args.s.now in
    let v = c.loop-turn.invariant in
    passed_all f img offs (is_long_enough c.args.rec_len) c.loop-turn._turn c.loop-turn.before c.loop-turn.at (v.passed told offs list)
    (omega (arith, g.met.S.Space.told_size c.args.s.now told, c.requires.length, c.loop-turn-test.false))

-- what was read where the search ends
pub returns-in_err-rec-clause-reads : goal.returns-in_err-rec-clause-reads
returns-in_err-rec-clause-reads g c told offs list =
    let v = c.loop-turn.invariant in
    record {
      no_more = omega (arith, v.most, (v.passed told offs list).count, c.read_listed.ensures.bytes_read.no_more);
      never_falls = omega (arith, v.bytes_read, c.read_listed.ensures.bytes_read.never_falls);
    }

pub returns-in_default-clause-reads : goal.returns-in_default-clause-reads
returns-in_default-clause-reads g c told offs list =
    let v = c.loop-turn.invariant in
    record {
      no_more = omega (arith, v.most, (v.passed told offs list).count, c.read_listed.ensures.bytes_read.no_more);
      never_falls = omega (arith, v.bytes_read, c.read_listed.ensures.bytes_read.never_falls);
    }

pub returns-then-rec_len-rec-clause-reads : goal.returns-then-rec_len-rec-clause-reads
returns-then-rec_len-rec-clause-reads g c told offs list =
    let v = c.loop-turn.invariant in
    record {
      no_more = omega (arith, v.most, (v.passed told offs list).count, c.read_listed.ensures.bytes_read.no_more);
      never_falls = omega (arith, v.bytes_read, c.read_listed.ensures.bytes_read.never_falls);
    }

pub returns-clause-reads : goal.returns-clause-reads
returns-clause-reads g c told offs list =
    let v = c.loop-turn.invariant in
    record { no_more = omega (arith, v.most, (v.passed told offs list).count); never_falls = v.bytes_read }
