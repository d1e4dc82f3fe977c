-- Each record's line is put behind the others; what was written is a front of the text, and in the end all of it.
use Rattle.std.proofs.Common.{◌+◌, ◌≤◌, ◌++◌, [], length, take, drop, refl, sym, ◌∙◌, ap, subst, rules, arith}
use Rattle.std.specs.List.{flat_map}
use Rattle.std.proofs.lemmas.List.{take_all}
use Rattle.tdb_free.proofs.Results.{on_err}
use Rattle.tdb_rewrite.specs.Text.{free_line}
use Rattle.tdb_rewrite.proofs.Streamed.{Streamed, streamed_start, streamed_more, streamed_on, streamed_front, streamed_failed, streamed_all}
use Rattle.tdb_rewrite.proofs.Written.{free_below, free_more, free_front}
use Rattle.tdb_rewrite.proofs.writing.write_records.Goals as goal

pub loop-index-init : goal.loop-index-init
loop-index-init g c = record {
  streamed = λ heard. (let w = g.K.Sink.written c.args.out.now in subst (λ held. Streamed w w held []) (sym c.new-text.ensures.items) (streamed_start w));
  sink_faults = refl;
}

pub loop-index-preserved : goal.loop-index-preserved
loop-index-preserved g c = record {
  streamed = λ heard.
      (let before = g.K.Sink.written c.args.out.now in
      let now = g.K.Sink.written c.loop-index.out in
      let records = c.args.records.now in
      let n = c.loop-index.index in
      let piece = flat_map free_line (take 1 (drop n records)) in
      let more = streamed_more before now c.loop-index.text.items (free_below records n) (c.loop-index.invariant.streamed heard) c.push_free.new.text.items piece c.in_ok-push_free.ensures in
      subst (Streamed before (g.K.Sink.written c.hand_on.new.out) c.hand_on.new.text.items) (sym (free_more records n))
      (streamed_on before now c.push_free.new.text.items (free_below records n ++ piece) more (g.K.Sink.written c.hand_on.new.out) c.hand_on.new.text.items (c.in_ok-hand_on.ensures.done heard)));
  sink_faults = search rules;
}

pub returns-in_err-push_free-clause-front : goal.returns-in_err-push_free-clause-front
returns-in_err-push_free-clause-front g c = on_err c.from_residual.result (λ heard.
    (let records = c.args.records.now in
    let n = c.loop-index.index in
    let rest = free_front records n in
    streamed_front (g.K.Sink.written c.args.out.now) (g.K.Sink.written c.loop-index.out) c.loop-index.text.items (free_below records n) (c.loop-index.invariant.streamed heard) (flat_map free_line records) rest.0 rest.1))

pub returns-in_err-hand_on-clause-front : goal.returns-in_err-hand_on-clause-front
returns-in_err-hand_on-clause-front g c = on_err c.from_residual-in_err-hand_on.result (λ heard.
    (let records = c.args.records.now in
    let n = c.loop-index.index in
    let before = g.K.Sink.written c.args.out.now in
    let now = g.K.Sink.written c.loop-index.out in
    let piece = flat_map free_line (take 1 (drop n records)) in
    let more = streamed_more before now c.loop-index.text.items (free_below records n) (c.loop-index.invariant.streamed heard) c.push_free.new.text.items piece c.in_ok-push_free.ensures in
    let rest = free_front records (n + 1) in
    streamed_failed before now c.push_free.new.text.items (free_below records n ++ piece) more (flat_map free_line records) rest.0
    (rest.1 ∙ ap (λ t. t ++ rest.0) (free_more records n)) (g.K.Sink.written c.hand_on.new.out) (c.in_err-hand_on.ensures.failed heard)))

pub returns-in_err-hand_on-2-clause-front : goal.returns-in_err-hand_on-2-clause-front
returns-in_err-hand_on-2-clause-front g c = on_err c.from_residual-in_err-hand_on-2.result (λ heard.
    (let records = c.args.records.now in
    let n = c.loop-index.index in
    let rest = free_front records n in
    streamed_failed (g.K.Sink.written c.args.out.now) (g.K.Sink.written c.loop-index.out) c.loop-index.text.items (free_below records n) (c.loop-index.invariant.streamed heard) (flat_map free_line records) rest.0 rest.1
    (g.K.Sink.written c.hand_on-2.new.out) (c.in_err-hand_on-2.ensures.failed heard)))

pub returns-clause-written : goal.returns-clause-written
returns-clause-written g c heard =
    let records = c.args.records.now in
    let n = c.loop-index.index in
    let past : length records ≤ n = omega (arith, c.loop-index-test.false, c.len-index-end.ensures) in
    let before = g.K.Sink.written c.args.out.now in
    let whole = streamed_all before (g.K.Sink.written c.loop-index.out) c.loop-index.text.items (free_below records n) (g.K.Sink.written c.hand_on-2.new.out) c.hand_on-2.new.text.items
    (c.loop-index.invariant.streamed heard) (c.in_ok-hand_on-2.ensures.done heard) (c.in_ok-hand_on-2.ensures.left (omega arith)) in
    whole ∙ ap (λ l. before ++ flat_map free_line l) (take_all n records past)
