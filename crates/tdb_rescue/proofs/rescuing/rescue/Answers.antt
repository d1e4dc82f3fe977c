-- Each place is looked at, what is found there is held and handed on; what was written is a front of the text, and in
-- the end all of it.
use Rattle.std.proofs.Common.{◌+◌, ◌*◌, ◌<◌, ◌≤◌, length, IsTrue, refl, sym, ◌∙◌, ap, subst, rules, arith}
use mir.Val.{bool_byte}
use Rattle.tdb_rescue.specs.Window.{Shows}
use Rattle.tdb_rescue.specs.Text.{rescued_text}
use Rattle.tdb_rescue.proofs.Progress.{Progress, on_err, wrote_nothing, progress_start, progress_next, progress_on, progress_failed, progress_front, progress_number, progress_done}
use Rattle.tdb_rescue.proofs.rescuing.rescue.Goals as goal
use Rattle.tdb_rescue.proofs.rescuing.rescue.Goals.{In_ok-found}

pub returns-in_err-len-clause-front : goal.returns-in_err-len-clause-front
returns-in_err-len-clause-front g c = on_err c.from_residual.result (λ told heard. wrote_nothing (g.K.Sink.written c.args.out.now) (rescued_text (g.S.Space.form c.args.s.now) (g.S.Space.image c.args.s.now)))

pub loop-s-init : goal.loop-s-init
loop-s-init g c =
    let f = g.S.Space.form c.args.s.now in
    let start = c.data_start-at.ensures ∙ ap (λ n. 168 + 4 * (n + 1)) (c.hash_size.ensures ∙ ap (λ f. f.chains) c.len.ensures.form) in
    record {
      shows = λ told. c.new-window.ensures (g.S.Space.image c.args.s.now);
      progress = λ told. progress_start (IsTrue g.K.Sink.tells) f (g.S.Space.image c.args.s.now) (g.K.Sink.written c.args.out.now) _ _ _ _ start refl refl c.new-text.ensures.items;
      few = omega arith;
      looked = search rules;
      faults = search rules;
      sink_faults = refl;
      bytes_read = search rules;
    }

-- how far it has come behind the place that was looked at
behind : (g : _) (c : In_ok-found g) → IsTrue g.S.Space.tells
    → Progress (IsTrue g.K.Sink.tells) (g.S.Space.form c.args.s.now) (g.S.Space.image c.args.s.now) (g.K.Sink.written c.args.out.now) (g.K.Sink.written c.loop-s.out)
    c.push_readable.new.text.items (c.loop-s.at + 4) (c.loop-s.count + bool_byte c.in_ok-found.found)
behind g c told =
    let f = g.S.Space.form c.args.s.now in
    let img = g.S.Space.image c.args.s.now in
    let looked = c.loop-s.invariant.looked in
    let shows = subst (λ i. Shows i c.loop-s.window) (sym looked.image) (c.loop-s.invariant.shows told) in
    let within : c.loop-s.at + 4 ≤ length img = omega (arith, c.loop-s-test.true, c.saturating_sub.ensures, c.in_ok-len.ensures.length, g.met.S.Space.told_size c.args.s.now told) in
    progress_next (IsTrue g.K.Sink.tells) f img (g.K.Sink.written c.args.out.now) (g.S.Space.form c.loop-s.s) (g.S.Space.image c.loop-s.s) looked.form looked.image
    (g.K.Sink.written c.loop-s.out) c.loop-s.text.items c.push_readable.new.text.items c.loop-s.at c.loop-s.count _ c.in_ok-found.found (c.loop-s.invariant.progress told)
    within (c.in_ok-found.ensures.readable told shows) (c.in_ok-found.ensures.text told shows) refl

pub returns-in_err-found-clause-front : goal.returns-in_err-found-clause-front
returns-in_err-found-clause-front g c = on_err c.from_residual-in_err-found.result (λ told heard.
    progress_front (IsTrue g.K.Sink.tells) (g.S.Space.form c.args.s.now) (g.S.Space.image c.args.s.now) (g.K.Sink.written c.args.out.now) (g.K.Sink.written c.loop-s.out) c.loop-s.text.items c.loop-s.at c.loop-s.count (c.loop-s.invariant.progress told) heard)

pub returns-in_err-hand_on-clause-front : goal.returns-in_err-hand_on-clause-front
returns-in_err-hand_on-clause-front g c = on_err c.from_residual-in_err-hand_on.result (λ told heard.
    progress_failed (IsTrue g.K.Sink.tells) (g.S.Space.form c.args.s.now) (g.S.Space.image c.args.s.now) (g.K.Sink.written c.args.out.now) (g.K.Sink.written c.loop-s.out) c.push_readable.new.text.items _ _
    (behind g ((goal.at.returns-in_err-hand_on-clause-front g c).In_ok-found) told) heard
    (g.K.Sink.written c.hand_on.new.out) (c.in_err-hand_on.ensures.failed heard))

pub loop-s-preserved : goal.loop-s-preserved
loop-s-preserved g c =
    let looked = c.loop-s.invariant.looked in
    record {
      shows = λ told. subst (λ i. Shows i c.push_readable.new.window) looked.image (c.in_ok-found.ensures.shows told (subst (λ i. Shows i c.loop-s.window) (sym looked.image) (c.loop-s.invariant.shows told)));
      progress = λ told. progress_on (IsTrue g.K.Sink.tells) (g.S.Space.form c.args.s.now) (g.S.Space.image c.args.s.now) (g.K.Sink.written c.args.out.now) (g.K.Sink.written c.loop-s.out) c.push_readable.new.text.items
          (g.K.Sink.written c.hand_on.new.out) c.hand_on.new.text.items _ _ (behind g ((goal.at.loop-s-preserved g c).In_ok-found) told) c.in_ok-hand_on.ensures.done;
      few = search rules;
      looked = search rules;
      faults = search rules;
      sink_faults = search rules;
      bytes_read = search rules;
    }

pub returns-in_err-hand_on-2-clause-front : goal.returns-in_err-hand_on-2-clause-front
returns-in_err-hand_on-2-clause-front g c = on_err c.from_residual-in_err-hand_on-2.result (λ told heard.
    progress_failed (IsTrue g.K.Sink.tells) (g.S.Space.form c.args.s.now) (g.S.Space.image c.args.s.now) (g.K.Sink.written c.args.out.now) (g.K.Sink.written c.loop-s.out) c.loop-s.text.items c.loop-s.at c.loop-s.count (c.loop-s.invariant.progress told) heard
    (g.K.Sink.written c.hand_on-2.new.out) (c.in_err-hand_on-2.ensures.failed heard))

pub returns-clause-number : goal.returns-clause-number
returns-clause-number g c told =
    let img = g.S.Space.image c.args.s.now in
    let near : length img < c.loop-s.at + 28 = omega (arith, c.loop-s-test.false, c.saturating_sub.ensures, c.in_ok-len.ensures.length, g.met.S.Space.told_size c.args.s.now told) in
    progress_number (IsTrue g.K.Sink.tells) (g.S.Space.form c.args.s.now) img (g.K.Sink.written c.args.out.now) (g.K.Sink.written c.loop-s.out) c.loop-s.text.items c.loop-s.at c.loop-s.count (c.loop-s.invariant.progress told) near

pub returns-clause-written : goal.returns-clause-written
returns-clause-written g c told heard =
    let img = g.S.Space.image c.args.s.now in
    let near : length img < c.loop-s.at + 28 = omega (arith, c.loop-s-test.false, c.saturating_sub.ensures, c.in_ok-len.ensures.length, g.met.S.Space.told_size c.args.s.now told) in
    progress_done (IsTrue g.K.Sink.tells) (g.S.Space.form c.args.s.now) img (g.K.Sink.written c.args.out.now) (g.K.Sink.written c.loop-s.out) c.loop-s.text.items c.loop-s.at c.loop-s.count (c.loop-s.invariant.progress told) near heard
    (g.K.Sink.written c.hand_on-2.new.out) c.hand_on-2.new.text.items (c.in_ok-hand_on-2.ensures.done heard) (c.in_ok-hand_on-2.ensures.left (omega arith))
