-- Dead records are passed, and a used one gives its pair.
use Rattle.std.proofs.Common.{◌≡◌, ◌+◌, ◌-◌, ◌≤◌, min, max, ◌∙◌, refl, sym, ap, subst, rules, arith, IsTrue}
use Rattle.std.specs.Prelude.{Some, IfSome}
use Rattle.tdb_words.specs.declared.record.TheConstants.{USED}
use Rattle.tdb_words.specs.declared.record.Rec.{Rec}
use Rattle.tdb_words.specs.Record.{rec_at}
use Rattle.tdb_space.specs.Form.{data_start}
use Rattle.tdb_space.specs.Record.{Fits, magic_of}
use Rattle.tdb_space.specs.Chain.{IsLink}
use Rattle.tdb_free.proofs.Results.{on_err}
use Rattle.tdb_backup.specs.Held.{IsPairOf, Shows}
use Rattle.tdb_backup.specs.Traversal.{pair_at_hand}
use Rattle.tdb_backup.specs.Reads.{pair_bytes, record_reads}
use Rattle.tdb_backup.proofs.Costs.{front_cost, front_read, tested, read_whole, used_cost, passed}
use Rattle.tdb_backup.proofs.Walk.{moved, gave_out, gave_none, gave_kept, stepped_pair, stepped_dead}
use Rattle.tdb_backup.proofs.traversal.Traversal.advance_in_chain.Goals as goal

pub returns-in_err-rec-clause-kept : goal.returns-in_err-rec-clause-kept
returns-in_err-rec-clause-kept g c =
    let same = c.record_ahead.ensures.same_place in
    on_err c.from_residual.result (λ told given h.
    gave_kept (g.S.Space.form c.args.s.now) (g.S.Space.image c.args.s.now) given c.loop-self.self c.record_ahead.new.self (c.loop-self.invariant.gave told given h) same.0 same.1 same.2)

-- no record is ahead
pub returns-in_default-clause-gave : goal.returns-in_default-clause-gave
returns-in_default-clause-gave g c told given h =
    let f = g.S.Space.form c.args.s.now in
    let img = g.S.Space.image c.args.s.now in
    let at = c.loop-self.self.at in
    let r = c.record_ahead.new.self in
    let same = c.record_ahead.ensures.same_place in
    let looked = c.loop-self.invariant.looked in
    let found = c.in_ok-rec.field-0 in
    let there = moved (λ x i. IsLink x i at → (magic_of x.order i at ≡ USED → Fits x.order i at) → found ≡ Some (rec_at x.order i at)) f (g.S.Space.form c.loop-self.s) img (g.S.Space.image c.loop-self.s) looked.form looked.image (c.in_ok-rec.ensures.there told) in
    let here = subst (λ p. IsLink f img p → (magic_of f.order img p ≡ USED → Fits f.order img p) → found ≡ Some (rec_at f.order img at)) (sym same.0) there in
    gave_none f img given r found (rec_at f.order img at) (gave_kept f img given c.loop-self.self r (c.loop-self.invariant.gave told given h) same.0 same.1 same.2) here (c.in_default.not-Some (rec_at f.order img at))

-- as many records were read as the file has words
pub returns-clause-gave : goal.returns-clause-gave
returns-clause-gave g c told given h =
    gave_out (g.S.Space.form c.args.s.now) (g.S.Space.image c.args.s.now) given c.loop-self.self (c.loop-self.invariant.gave told given h) (omega (arith, c.loop-self-test.false))

-- a used record gives its pair
pub returns-then-rec-eq-USED-clause-gave : goal.returns-then-rec-eq-USED-clause-gave
returns-then-rec-eq-USED-clause-gave g c told given h =
    let f = g.S.Space.form c.args.s.now in
    let img = g.S.Space.image c.args.s.now in
    let at = c.loop-self.self.at in
    let r = c.record_ahead.new.self in
    let u = c.take_pair.new.self in
    let rec = c.in-Some.rec in
    let same = c.record_ahead.ensures.same_place in
    let looked = c.loop-self.invariant.looked in
    let before = g.S.Space.image c.loop-self.s in
    let now = g.S.Space.image c.record_ahead.new.s in
    let above : data_start (g.S.Space.form c.loop-self.s) ≤ at = subst (λ o. IfSome o (λ x. data_start (g.S.Space.form c.loop-self.s) ≤ at)) c.in-Some.is c.in_ok-rec.ensures.above in
    let read : rec ≡ rec_at (g.S.Space.form c.loop-self.s).order before at = subst (λ o. IfSome o (λ x. x ≡ rec_at (g.S.Space.form c.loop-self.s).order before at)) c.in-Some.is (c.in_ok-rec.ensures.header told) in
    let shown : IsTrue g.S.Space.tells → Shows r.held before at = subst (λ o. IfSome o (λ x. IsTrue g.S.Space.tells → Shows r.held before at)) c.in-Some.is c.in_ok-rec.ensures.shows in
    let shows = subst (λ i. Shows r.held i r.at) (sym c.record_ahead.ensures.looked.image) (subst (Shows r.held before) (sym same.0) (shown told)) in
    let held = subst (λ i. IsPairOf rec i r.at (pair_at_hand u)) (c.record_ahead.ensures.looked.image ∙ looked.image) (c.in_ok-take_pair.ensures.pair told shows) in
    stepped_pair f img given r u rec
    (gave_kept f img given c.loop-self.self r (c.loop-self.invariant.gave told given h) same.0 same.1 same.2)
    (omega (arith, above, same.0, ap (λ x. x.chains) looked.form))
    (read ∙ (λ j. rec_at (looked.form j).order (looked.image j) (sym same.0 j)))
    c.in_ok-take_pair.ensures.passed.0 c.in_ok-take_pair.ensures.passed.1 c.take_pair.ensures.same_chain c.if-rec-eq-USED.true held

pub returns-in_err-take_pair-clause-kept : goal.returns-in_err-take_pair-clause-kept
returns-in_err-take_pair-clause-kept g c =
    let f = g.S.Space.form c.args.s.now in
    let img = g.S.Space.image c.args.s.now in
    let r = c.record_ahead.new.self in
    let same = c.record_ahead.ensures.same_place in
    let stays = c.in_err-take_pair.ensures.stays in
    on_err c.from_residual-in_err-take_pair.result (λ told given h.
    gave_kept f img given r c.take_pair.new.self
    (gave_kept f img given c.loop-self.self r (c.loop-self.invariant.gave told given h) same.0 same.1 same.2)
    stays.0 stays.1 c.take_pair.ensures.same_chain)

-- a dead record is passed
pub loop-self-preserved : goal.loop-self-preserved
loop-self-preserved g c = record {
  gave = λ told given h.
      (let f = g.S.Space.form c.args.s.now in
      let img = g.S.Space.image c.args.s.now in
      let at = c.loop-self.self.at in
      let r = c.record_ahead.new.self in
      let rec = c.in-Some.rec in
      let same = c.record_ahead.ensures.same_place in
      let looked = c.loop-self.invariant.looked in
      let before = g.S.Space.image c.loop-self.s in
      let above : data_start (g.S.Space.form c.loop-self.s) ≤ at = subst (λ o. IfSome o (λ x. data_start (g.S.Space.form c.loop-self.s) ≤ at)) c.in-Some.is c.in_ok-rec.ensures.above in
      let read : rec ≡ rec_at (g.S.Space.form c.loop-self.s).order before at = subst (λ o. IfSome o (λ x. x ≡ rec_at (g.S.Space.form c.loop-self.s).order before at)) c.in-Some.is (c.in_ok-rec.ensures.header told) in
      stepped_dead f img given r _ rec
      (gave_kept f img given c.loop-self.self r (c.loop-self.invariant.gave told given h) same.0 same.1 same.2)
      (omega (arith, above, same.0, ap (λ x. x.chains) looked.form))
      (read ∙ (λ j. rec_at (looked.form j).order (looked.image j) (sym same.0 j)))
      refl refl refl c.if-rec-eq-USED.false);
  same_chain = search rules;
  no_more = search rules;
  looked = search rules;
  faults = search rules;
  bytes_read = search rules;
  reads = λ told.
      (let f = g.S.Space.form c.args.s.now in
      let img = g.S.Space.image c.args.s.now in
      let t = c.loop-self.self in
      let rec = c.in-Some.rec in
      let same = c.record_ahead.ensures.same_place in
      let looked = c.loop-self.invariant.looked in
      let above : data_start (g.S.Space.form c.loop-self.s) ≤ t.at = subst (λ o. IfSome o (λ x. data_start (g.S.Space.form c.loop-self.s) ≤ t.at)) c.in-Some.is c.in_ok-rec.ensures.above in
      let read : rec ≡ rec_at f.order img t.at = subst (λ o. IfSome o (λ x. x ≡ rec_at (g.S.Space.form c.loop-self.s).order (g.S.Space.image c.loop-self.s) t.at)) c.in-Some.is (c.in_ok-rec.ensures.header told) ∙ (λ j. rec_at (looked.form j).order (looked.image j) t.at) in
      passed f img t (record { next_chain = c.record_ahead.new.self.next_chain; at = rec.next; left = c.record_ahead.new.self.left - 1; held = c.record_ahead.new.self.held }) (g.S.Space.bytes_read c.loop-self.s) (g.S.Space.bytes_read c.record_ahead.new.s) _ c.loop-self-test.true (λ none. omega (arith, none, above)) (ap (λ (x : Rec). x.next) read) (ap (λ n. n - 1) same.1)
      (omega (arith, c.in_ok-rec.ensures.bytes_read.no_more, front_cost f img t.at (c.args.len - t.at))) (c.loop-self.invariant.reads told));
}

-- what was read
pub returns-in_err-rec-clause-reads_at_most : goal.returns-in_err-rec-clause-reads_at_most
returns-in_err-rec-clause-reads_at_most g c told =
    let t = c.loop-self.self in
    record {
      no_more = tested (g.S.Space.form c.args.s.now) (g.S.Space.image c.args.s.now) t (c.args.len - t.at) (g.S.Space.bytes_read c.loop-self.s) (g.S.Space.bytes_read c.record_ahead.new.s) _ c.loop-self-test.true
          c.record_ahead.ensures.bytes_read.no_more (c.loop-self.invariant.reads told);
      never_falls = omega (arith, c.loop-self.invariant.bytes_read, c.record_ahead.ensures.bytes_read.never_falls);
    }

pub returns-in_default-clause-reads_at_most : goal.returns-in_default-clause-reads_at_most
returns-in_default-clause-reads_at_most g c told =
    let t = c.loop-self.self in
    record {
      no_more = tested (g.S.Space.form c.args.s.now) (g.S.Space.image c.args.s.now) t (c.args.len - t.at) (g.S.Space.bytes_read c.loop-self.s) (g.S.Space.bytes_read c.record_ahead.new.s) _ c.loop-self-test.true
          c.record_ahead.ensures.bytes_read.no_more (c.loop-self.invariant.reads told);
      never_falls = omega (arith, c.loop-self.invariant.bytes_read, c.record_ahead.ensures.bytes_read.never_falls);
    }

pub returns-clause-reads_at_most : goal.returns-clause-reads_at_most
returns-clause-reads_at_most g c told = record { no_more = omega (arith, c.loop-self.invariant.reads told); never_falls = c.loop-self.invariant.bytes_read }

pub returns-then-rec-eq-USED-clause-reads : goal.returns-then-rec-eq-USED-clause-reads
returns-then-rec-eq-USED-clause-reads g c told more =
    let f = g.S.Space.form c.args.s.now in
    let img = g.S.Space.image c.args.s.now in
    let t = c.loop-self.self in
    let rec = c.in-Some.rec in
    let same = c.record_ahead.ensures.same_place in
    let looked = c.loop-self.invariant.looked in
    let above : data_start (g.S.Space.form c.loop-self.s) ≤ t.at = subst (λ o. IfSome o (λ x. data_start (g.S.Space.form c.loop-self.s) ≤ t.at)) c.in-Some.is c.in_ok-rec.ensures.above in
    let read : rec ≡ rec_at f.order img t.at = subst (λ o. IfSome o (λ x. x ≡ rec_at (g.S.Space.form c.loop-self.s).order (g.S.Space.image c.loop-self.s) t.at)) c.in-Some.is (c.in_ok-rec.ensures.header told) ∙ (λ j. rec_at (looked.form j).order (looked.image j) t.at) in
    let end : c.record_ahead.new.self.held.end ≡ min 128 (c.args.len - t.at) = subst (λ o. IfSome o (λ x. c.record_ahead.new.self.held.end ≡ min 128 (c.args.len - t.at))) c.in-Some.is c.in_ok-rec.ensures.end in
    let cost : c.record_ahead.new.self.held.end + (24 + rec.key_len + rec.data_len - c.record_ahead.new.self.held.end) ≤ record_reads f img t.at =
    subst (λ x. c.record_ahead.new.self.held.end + (24 + rec.key_len + rec.data_len - c.record_ahead.new.self.held.end) ≤ max 128 (pair_bytes x)) read (used_cost rec c.record_ahead.new.self.held.end c.if-rec-eq-USED.true (omega (arith, end))) in
    let front = front_read t.at (c.args.len - t.at) (λ none. omega (arith, none, above)) in
    passed f img t c.take_pair.new.self (g.S.Space.bytes_read c.loop-self.s) (g.S.Space.bytes_read c.take_pair.new.s) _ c.loop-self-test.true (λ none. omega (arith, none, above))
    (c.in_ok-take_pair.ensures.passed.0 ∙ ap (λ (x : Rec). x.next) read) (c.in_ok-take_pair.ensures.passed.1 ∙ ap (λ n. n - 1) same.1)
    (omega (arith, c.record_ahead.ensures.bytes_read.no_more, c.take_pair.ensures.bytes_read.no_more, end, cost, front)) (c.loop-self.invariant.reads told)

pub returns-then-rec-eq-USED-clause-reads_at_most : goal.returns-then-rec-eq-USED-clause-reads_at_most
returns-then-rec-eq-USED-clause-reads_at_most g c told = record {
  no_more = (let sum = returns-then-rec-eq-USED-clause-reads g c told refl in omega (arith, sum));
  never_falls = omega (arith, c.loop-self.invariant.bytes_read, c.record_ahead.ensures.bytes_read.never_falls, c.take_pair.ensures.bytes_read.never_falls);
}

pub returns-in_err-take_pair-clause-reads_at_most : goal.returns-in_err-take_pair-clause-reads_at_most
returns-in_err-take_pair-clause-reads_at_most g c told =
    let f = g.S.Space.form c.args.s.now in
    let img = g.S.Space.image c.args.s.now in
    let t = c.loop-self.self in
    let rec = c.in-Some.rec in
    let looked = c.loop-self.invariant.looked in
    let above : data_start (g.S.Space.form c.loop-self.s) ≤ t.at = subst (λ o. IfSome o (λ x. data_start (g.S.Space.form c.loop-self.s) ≤ t.at)) c.in-Some.is c.in_ok-rec.ensures.above in
    let read : rec ≡ rec_at f.order img t.at = subst (λ o. IfSome o (λ x. x ≡ rec_at (g.S.Space.form c.loop-self.s).order (g.S.Space.image c.loop-self.s) t.at)) c.in-Some.is (c.in_ok-rec.ensures.header told) ∙ (λ j. rec_at (looked.form j).order (looked.image j) t.at) in
    let end : c.record_ahead.new.self.held.end ≡ min 128 (c.args.len - t.at) = subst (λ o. IfSome o (λ x. c.record_ahead.new.self.held.end ≡ min 128 (c.args.len - t.at))) c.in-Some.is c.in_ok-rec.ensures.end in
    let cost : c.record_ahead.new.self.held.end + (24 + rec.key_len + rec.data_len - c.record_ahead.new.self.held.end) ≤ record_reads f img t.at =
    subst (λ x. c.record_ahead.new.self.held.end + (24 + rec.key_len + rec.data_len - c.record_ahead.new.self.held.end) ≤ max 128 (pair_bytes x)) read (used_cost rec c.record_ahead.new.self.held.end c.if-rec-eq-USED.true (omega (arith, end))) in
    let front = front_read t.at (c.args.len - t.at) (λ none. omega (arith, none, above)) in
    record {
      no_more = read_whole f img t (g.S.Space.bytes_read c.loop-self.s) (g.S.Space.bytes_read c.take_pair.new.s) _ c.loop-self-test.true (λ none. omega (arith, none, above))
          (omega (arith, c.record_ahead.ensures.bytes_read.no_more, c.take_pair.ensures.bytes_read.no_more, end, cost, front)) (c.loop-self.invariant.reads told);
      never_falls = omega (arith, c.loop-self.invariant.bytes_read, c.record_ahead.ensures.bytes_read.never_falls, c.take_pair.ensures.bytes_read.never_falls);
    }
