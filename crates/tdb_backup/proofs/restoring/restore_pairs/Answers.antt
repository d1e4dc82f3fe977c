-- The text was read to its end, or refused.
use Rattle.std.proofs.Common.{Err, refl, ap}
use Rattle.std.proofs.lemmas.Result.{err_from_is_err_and}
use Rattle.tdb_backup.proofs.Restored.{end_heard, end_refused, text_no_input, text_no_io, stops_at_most, short_enough, restored_whole, whole_dump}
use Rattle.tdb_backup.proofs.restoring.restore_pairs.Goals as goal

pub returns-in_err-longer-clause-refused : goal.returns-in_err-longer-clause-refused
returns-in_err-longer-clause-refused g c =
    let q = err_from_is_err_and c.from_residual-in_err-longer.result c.from_residual-in_err-longer.ensures.1 in
    rw (q.1, q.2)
    (c.in_err-longer.ensures.refused)

pub returns-in_err-longer-clause-heard : goal.returns-in_err-longer-clause-heard
returns-in_err-longer-clause-heard g c =
    let q = err_from_is_err_and c.from_residual-in_err-longer.result c.from_residual-in_err-longer.ensures.1 in
    rw (q.1, q.2)
    (c.in_err-longer.ensures.heard)

pub returns-in_err-end-clause-refused : goal.returns-in_err-end-clause-refused
returns-in_err-end-clause-refused g c =
    let q = err_from_is_err_and c.from_residual-in_err-end.result c.from_residual-in_err-end.ensures.1 in
    let (text, w, read) = c.in_ok-longer.ensures.read in
    rw (q.1, q.2)
    (λ heard told small first holds.
    end_refused text (g.S.Source.left c.args.input.now) w.pairs c.args.limit first (g.T.Space.form c.args.to.now) (read heard).0 w.took.begins c.in_err-end.field-0.0
    (λ at is. c.in_err-end.ensures.malformed text w.pairs at w.took (ap Err is)) (g.T.Space.image c.add_text.new.to) (w.holds (told, small) first holds))

pub returns-in_err-end-clause-heard : goal.returns-in_err-end-clause-heard
returns-in_err-end-clause-heard g c =
    let q = err_from_is_err_and c.from_residual-in_err-end.result c.from_residual-in_err-end.ensures.1 in
    let (text, w, read) = c.in_ok-longer.ensures.read in
    let logs = g.L.Logs.logs c.args.logs.now in
    rw (q.1, q.2)
    (λ heard told small first holds.
    end_heard text (g.S.Source.left c.args.input.now) w.pairs c.args.limit first (g.T.Space.form c.args.to.now) (read heard).0 w.took.begins c.in_err-end.field-0.0
    (λ at is. c.in_err-end.ensures.malformed text w.pairs at w.took (ap Err is)) logs (g.L.Logs.logs c.add_text.new.logs) (w.heard (told, small) first holds logs refl))

pub returns-in_err-end-clause-read_cause : goal.returns-in_err-end-clause-read_cause
returns-in_err-end-clause-read_cause g c =
    let q = err_from_is_err_and c.from_residual-in_err-end.result c.from_residual-in_err-end.ensures.1 in
    rw (q.1, q.2)
    (record {
      never_falls = c.add_text.ensures.read_cause.never_falls;
      failed = λ is. absurd (text_no_input c.in_err-end.field-0.0 is);
      refused = λ _. c.in_ok-longer.ensures.read_cause.done;
      done = tt;
    })

pub returns-in_err-end-clause-write_cause : goal.returns-in_err-end-clause-write_cause
returns-in_err-end-clause-write_cause g c =
    let q = err_from_is_err_and c.from_residual-in_err-end.result c.from_residual-in_err-end.ensures.1 in
    rw (q.1, q.2)
    (record {
      never_falls = c.add_text.ensures.write_cause.never_falls;
      failed = λ is. absurd (text_no_io c.in_err-end.field-0.0 is);
      refused = λ _. c.in_ok-longer.ensures.write_cause.done;
      done = tt;
    })

pub returns-then-longer-clause-refused : goal.returns-then-longer-clause-refused
returns-then-longer-clause-refused g c heard told small first holds =
    let (text, w, read) = c.in_ok-longer.ensures.read in (
      w.pairs,
      stops_at_most text (g.S.Source.left c.args.input.now) w.pairs (read heard).0 ((read heard).1.0 c.if-longer.true) (c.in_ok-end.ensures.whole text w.pairs w.took),
      w.holds (told, small) first holds,
    )

pub returns-then-longer-clause-heard : goal.returns-then-longer-clause-heard
returns-then-longer-clause-heard g c heard told small first holds =
    let (text, w, read) = c.in_ok-longer.ensures.read in (
      w.pairs,
      stops_at_most text (g.S.Source.left c.args.input.now) w.pairs (read heard).0 ((read heard).1.0 c.if-longer.true) (c.in_ok-end.ensures.whole text w.pairs w.took),
      w.heard (told, small) first holds (g.L.Logs.logs c.args.logs.now) refl,
    )

pub returns-clause-restored : goal.returns-clause-restored
returns-clause-restored g c heard told small first holds =
    let (text, w, read) = c.in_ok-longer.ensures.read in
    let whole = g.S.Source.left c.args.input.now in
    restored_whole c.args.limit first (g.T.Space.form c.args.to.now) (g.T.Space.image c.add_text.new.to) text whole w.pairs
    (read heard).0 (short_enough whole c.in_ok-longer.longer c.if-longer.false (read heard).1.1) (c.in_ok-end.ensures.whole text w.pairs w.took) (w.holds (told, small) first holds)

pub returns-clause-told : goal.returns-clause-told
returns-clause-told g c heard told small first holds =
    let (text, w, read) = c.in_ok-longer.ensures.read in
    let whole = g.S.Source.left c.args.input.now in
    let short = short_enough whole c.in_ok-longer.longer c.if-longer.false (read heard).1.1 in
    (w.pairs, whole_dump text whole w.pairs (read heard).0 short (c.in_ok-end.ensures.whole text w.pairs w.took), w.heard (told, small) first holds (g.L.Logs.logs c.args.logs.now) refl)
