-- Each chain's lines are put behind the others; what was written is a front of the text, and in the end all of it.
use Rattle.std.proofs.Common.{◌≡◌, ◌+◌, ◌<◌, ◌≤◌, ◌++◌, [], refl, sym, ◌∙◌, ap, subst, rules, arith}
use Rattle.tdb_free.proofs.Results.{on_err}
use Rattle.tdb_space.specs.Accepted.{AcceptWith}
use Rattle.tdb_rewrite.proofs.Streamed.{Streamed, streamed_start, streamed_more, streamed_on, streamed_front, streamed_failed, streamed_all}
use Rattle.tdb_rewrite.specs.Lines.{lines_of}
use Rattle.tdb_rewrite.specs.Text.{spots_text, chains_text}
use Rattle.tdb_rewrite.proofs.Walking.{moved}
use Rattle.tdb_rewrite.proofs.Written.{text_below, text_more, text_front}
use Rattle.tdb_rewrite.proofs.writing.write_chains.Goals as goal

pub loop-chain-init : goal.loop-chain-init
loop-chain-init g c = record {
  streamed = λ told heard hands A.
      (let w = g.K.Sink.written c.args.out.now in subst (λ held. Streamed w w held []) (sym c.new-text.ensures.items) (streamed_start w));
  looked = search rules;
  faults = refl;
  sink_faults = refl;
  bytes_read = search rules;
}

pub loop-chain-preserved : goal.loop-chain-preserved
loop-chain-preserved g c = record {
  streamed = λ told heard hands A.
      (let f = g.S.Space.form c.args.s.now in
      let img = g.S.Space.image c.args.s.now in
      let k = g.S.Space.form c.loop-chain.s in
      let v = g.S.Space.image c.loop-chain.s in
      let looked = c.loop-chain.invariant.looked in
      let j = c.loop-chain.chain in
      let before = g.K.Sink.written c.args.out.now in
      let now = g.K.Sink.written c.loop-chain.out in
      let number : j < k.chains = omega (arith, c.loop-chain-test.true, c.hash_size-chain-end.ensures, ap (λ x. x.chains) looked.form) in
      let there = moved (λ x i. AcceptWith x i hands) k f v img (sym looked.form) (sym looked.image) A in
      let shown = c.in_ok-shown.shown in
      let here : shown ≡ lines_of f img j = moved (λ x i. shown ≡ lines_of x i j) f k img v looked.form looked.image (c.in_ok-shown.ensures.shown told number hands there) in
      let put : c.push_spots.new.text.items ≡ c.loop-chain.text.items ++ spots_text (lines_of f img j) =
      c.in_ok-push_spots.ensures ∙ ap (λ l. c.loop-chain.text.items ++ spots_text l) (c.as_slice.ensures ∙ here) in
      let more = streamed_more before now c.loop-chain.text.items (text_below f img j) (c.loop-chain.invariant.streamed told heard hands A) c.push_spots.new.text.items (spots_text (lines_of f img j)) put in
      subst (Streamed before (g.K.Sink.written c.hand_on.new.out) c.hand_on.new.text.items) (sym (text_more f img j))
      (streamed_on before now c.push_spots.new.text.items (text_below f img j ++ spots_text (lines_of f img j)) more (g.K.Sink.written c.hand_on.new.out) c.hand_on.new.text.items (c.in_ok-hand_on.ensures.done heard)));
  looked = search rules;
  faults = search rules;
  sink_faults = search rules;
  bytes_read = search rules;
}

pub returns-in_err-shown-clause-front : goal.returns-in_err-shown-clause-front
returns-in_err-shown-clause-front g c = on_err c.from_residual.result (λ told heard hands A.
    (let f = g.S.Space.form c.args.s.now in
    let img = g.S.Space.image c.args.s.now in
    let j = c.loop-chain.chain in
    let low : j ≤ f.chains = omega (arith, c.loop-chain-test.true, c.hash_size-chain-end.ensures) in
    let rest = text_front f img j low in
    streamed_front (g.K.Sink.written c.args.out.now) (g.K.Sink.written c.loop-chain.out) c.loop-chain.text.items (text_below f img j) (c.loop-chain.invariant.streamed told heard hands A) (chains_text f img) rest.0 rest.1))

pub returns-in_err-push_spots-clause-front : goal.returns-in_err-push_spots-clause-front
returns-in_err-push_spots-clause-front g c = on_err c.from_residual-in_err-push_spots.result (λ told heard hands A.
    (let f = g.S.Space.form c.args.s.now in
    let img = g.S.Space.image c.args.s.now in
    let j = c.loop-chain.chain in
    let low : j ≤ f.chains = omega (arith, c.loop-chain-test.true, c.hash_size-chain-end.ensures) in
    let rest = text_front f img j low in
    streamed_front (g.K.Sink.written c.args.out.now) (g.K.Sink.written c.loop-chain.out) c.loop-chain.text.items (text_below f img j) (c.loop-chain.invariant.streamed told heard hands A) (chains_text f img) rest.0 rest.1))

pub returns-in_err-hand_on-clause-front : goal.returns-in_err-hand_on-clause-front
returns-in_err-hand_on-clause-front g c = on_err c.from_residual-in_err-hand_on.result (λ told heard hands A.
    (let f = g.S.Space.form c.args.s.now in
    let img = g.S.Space.image c.args.s.now in
    let k = g.S.Space.form c.loop-chain.s in
    let v = g.S.Space.image c.loop-chain.s in
    let looked = c.loop-chain.invariant.looked in
    let j = c.loop-chain.chain in
    let before = g.K.Sink.written c.args.out.now in
    let now = g.K.Sink.written c.loop-chain.out in
    let number : j < k.chains = omega (arith, c.loop-chain-test.true, c.hash_size-chain-end.ensures, ap (λ x. x.chains) looked.form) in
    let low : j + 1 ≤ f.chains = omega (arith, c.loop-chain-test.true, c.hash_size-chain-end.ensures) in
    let there = moved (λ x i. AcceptWith x i hands) k f v img (sym looked.form) (sym looked.image) A in
    let shown = c.in_ok-shown.shown in
    let here : shown ≡ lines_of f img j = moved (λ x i. shown ≡ lines_of x i j) f k img v looked.form looked.image (c.in_ok-shown.ensures.shown told number hands there) in
    let put : c.push_spots.new.text.items ≡ c.loop-chain.text.items ++ spots_text (lines_of f img j) =
    c.in_ok-push_spots.ensures ∙ ap (λ l. c.loop-chain.text.items ++ spots_text l) (c.as_slice.ensures ∙ here) in
    let more = streamed_more before now c.loop-chain.text.items (text_below f img j) (c.loop-chain.invariant.streamed told heard hands A) c.push_spots.new.text.items (spots_text (lines_of f img j)) put in
    let rest = text_front f img (j + 1) low in
    streamed_failed before now c.push_spots.new.text.items (text_below f img j ++ spots_text (lines_of f img j)) more (chains_text f img) rest.0
    (rest.1 ∙ ap (λ t. t ++ rest.0) (text_more f img j)) (g.K.Sink.written c.hand_on.new.out) (c.in_err-hand_on.ensures.failed heard)))

pub returns-in_err-hand_on-2-clause-front : goal.returns-in_err-hand_on-2-clause-front
returns-in_err-hand_on-2-clause-front g c = on_err c.from_residual-in_err-hand_on-2.result (λ told heard hands A.
    (let f = g.S.Space.form c.args.s.now in
    let img = g.S.Space.image c.args.s.now in
    let j = c.loop-chain.chain in
    let low : j ≤ f.chains = omega (arith, c.loop-chain-test.false, c.loop-chain.auto.chain-end, c.hash_size-chain-end.ensures) in
    let rest = text_front f img j low in
    streamed_failed (g.K.Sink.written c.args.out.now) (g.K.Sink.written c.loop-chain.out) c.loop-chain.text.items (text_below f img j) (c.loop-chain.invariant.streamed told heard hands A) (chains_text f img) rest.0 rest.1
    (g.K.Sink.written c.hand_on-2.new.out) (c.in_err-hand_on-2.ensures.failed heard)))

pub returns-clause-written : goal.returns-clause-written
returns-clause-written g c told heard hands A =
    let f = g.S.Space.form c.args.s.now in
    let img = g.S.Space.image c.args.s.now in
    let all : c.loop-chain.chain ≡ f.chains = omega (arith, c.loop-chain-test.false, c.loop-chain.auto.chain-end, c.hash_size-chain-end.ensures) in
    let before = g.K.Sink.written c.args.out.now in
    let whole = streamed_all before (g.K.Sink.written c.loop-chain.out) c.loop-chain.text.items (text_below f img c.loop-chain.chain) (g.K.Sink.written c.hand_on-2.new.out) c.hand_on-2.new.text.items
    (c.loop-chain.invariant.streamed told heard hands A) (c.in_ok-hand_on-2.ensures.done heard) (c.in_ok-hand_on-2.ensures.left (omega arith)) in
    whole ∙ ap (λ n. before ++ text_below f img n) all
