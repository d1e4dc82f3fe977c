-- The next pair is added and told of, or refused.
use Rattle.std.proofs.Common.{◌+◌, ◌++◌, ◌≤◌, length, append-nil, refl, sym, subst, rules, arith}
use Rattle.std.proofs.lemmas.List.{take_all}
use Rattle.std.proofs.lemmas.Result.{err_from_is_err_and}
use Rattle.tdb_log.specs.Logs.{ToldAll}
use Rattle.tdb_space.specs.NewRecord.{rec_len_for}
use Rattle.tdb_backup.specs.Building.{HoldsPairs}
use Rattle.tdb_backup.specs.Growths.{growths_of}
use Rattle.tdb_backup.specs.Restoring.{keys_and_values}
use Rattle.tdb_backup.proofs.Inserting.{stays_within, within_short}
use Rattle.tdb_backup.proofs.Building.{added_next, cause_next, inserted_next, refused_next}
use Rattle.tdb_backup.proofs.Growths.{heard_next, told_next}
use Rattle.tdb_backup.proofs.Restored.{pairs_more, pair_next}
use Rattle.tdb_backup.proofs.restoring.add_pairs.Goals as goal

pub loop-pair-init : goal.loop-pair-init
loop-pair-init g c = record {
  held = λ told small before distinct first holds. subst (λ ps. HoldsPairs c.args.limit first (g.T.Space.form c.args.to.now) (g.T.Space.image c.args.to.now) (keys_and_values ps)) (sym (append-nil before)) holds;
  told = λ told small before distinct first holds start so_far.
      subst (λ ps. ToldAll (growths_of c.args.limit (g.T.Space.form c.args.to.now) first (keys_and_values ps)) start (g.L.Logs.logs c.args.logs.now)) (sym (append-nil before)) so_far;
  within = omega arith;
  wrote = search rules;
  faults = refl;
}

pub loop-pair-preserved : goal.loop-pair-preserved
loop-pair-preserved g c = record {
  held = λ told small before distinct first holds.
      (let v = c.loop-pair.invariant in
      let p = c.pair-item.result in
      let f = g.T.Space.form c.args.to.now in
      let next = pair_next before c.args.pairs.now c.loop-pair.pair-index p c.loop-pair-test.true c.pair-item.is distinct in
      let short = within_short (g.T.Space.size c.args.to.now) (g.T.Space.size c.loop-pair.to) c.args.limit c.requires.limit v.within small in
      let there = v.held told small before distinct first holds in
      let made = inserted_next c.args.limit first f (g.T.Space.form c.loop-pair.to) (g.T.Space.image c.loop-pair.to) (g.T.Space.image c.insert_and_tell.new.s) _ (p.key, p.value) c.as_slice.result.now c.as_slice-in-loop-pair.result.now
      v.wrote.form c.as_slice.ensures c.as_slice-in-loop-pair.ensures there next.new (c.in_ok-insert_and_tell.ensures.inserted told short) in
      subst (HoldsPairs c.args.limit first f (g.T.Space.image c.insert_and_tell.new.s)) (sym (pairs_more before c.args.pairs.now c.loop-pair.pair-index p c.loop-pair-test.true c.pair-item.is))
      (added_next c.args.limit first f (g.T.Space.image c.loop-pair.to) (g.T.Space.image c.insert_and_tell.new.s) _ (p.key, p.value) there next.new made));
  told = λ told small before distinct first holds start so_far.
      (let v = c.loop-pair.invariant in
      let p = c.pair-item.result in
      let f = g.T.Space.form c.args.to.now in
      let next = pair_next before c.args.pairs.now c.loop-pair.pair-index p c.loop-pair-test.true c.pair-item.is distinct in
      let short = within_short (g.T.Space.size c.args.to.now) (g.T.Space.size c.loop-pair.to) c.args.limit c.requires.limit v.within small in
      let there = v.held told small before distinct first holds in
      let made = inserted_next c.args.limit first f (g.T.Space.form c.loop-pair.to) (g.T.Space.image c.loop-pair.to) (g.T.Space.image c.insert_and_tell.new.s) _ (p.key, p.value) c.as_slice.result.now c.as_slice-in-loop-pair.result.now
      v.wrote.form c.as_slice.ensures c.as_slice-in-loop-pair.ensures there next.new (c.in_ok-insert_and_tell.ensures.inserted told short) in
      subst (λ ps. ToldAll (growths_of c.args.limit f first ps) start (g.L.Logs.logs c.insert_and_tell.new.logs)) (sym (pairs_more before c.args.pairs.now c.loop-pair.pair-index p c.loop-pair-test.true c.pair-item.is))
      (told_next c.args.limit first f (g.T.Space.image c.loop-pair.to) _ there (p.key, p.value) (g.T.Space.image c.insert_and_tell.new.s) (g.T.Space.size c.loop-pair.to) (g.T.Space.size c.insert_and_tell.new.s)
      (sym (g.met.T.Space.told_size c.loop-pair.to told)) (sym (g.met.T.Space.told_size c.insert_and_tell.new.s told)) start (g.L.Logs.logs c.loop-pair.logs) (g.L.Logs.logs c.insert_and_tell.new.logs)
      (v.told told small before distinct first holds start so_far) made.filled c.in_ok-insert_and_tell.ensures.heard));
  within =
      stays_within (g.T.Space.size c.args.to.now) (g.T.Space.size c.loop-pair.to) (24 + rec_len_for (length c.as_slice.result.now) (length c.as_slice-in-loop-pair.result.now)) c.args.limit (g.T.Space.size c.insert_and_tell.new.s) c.loop-pair.invariant.within c.insert_and_tell.ensures.size;
  wrote = search rules;
  faults = search rules;
}

pub returns-in_err-insert_and_tell-clause-refused : goal.returns-in_err-insert_and_tell-clause-refused
returns-in_err-insert_and_tell-clause-refused g c =
    let q = err_from_is_err_and c.from_residual.result c.from_residual.ensures.1 in
    rw (q.1, q.2)
    (λ told small before distinct first holds.
    (let v = c.loop-pair.invariant in
    let p = c.pair-item.result in
    let f = g.T.Space.form c.args.to.now in
    let next = pair_next before c.args.pairs.now c.loop-pair.pair-index p c.loop-pair-test.true c.pair-item.is distinct in
    let short = within_short (g.T.Space.size c.args.to.now) (g.T.Space.size c.loop-pair.to) c.args.limit c.requires.limit v.within small in
    let there = v.held told small before distinct first holds in
    refused_next first f (g.T.Space.image c.loop-pair.to) (g.T.Space.image c.insert_and_tell.new.s) (keys_and_values (before ++ c.args.pairs.now)) _ (p.key, p.value) c.args.limit c.in_err-insert_and_tell.field-0.0 next there
    (cause_next c.args.limit first f (g.T.Space.form c.loop-pair.to) (g.T.Space.image c.loop-pair.to) (g.T.Space.image c.insert_and_tell.new.s) _ (p.key, p.value) c.as_slice.result.now c.as_slice-in-loop-pair.result.now
    v.wrote.form c.as_slice.ensures c.as_slice-in-loop-pair.ensures there next.new c.in_err-insert_and_tell.field-0.0 (c.in_err-insert_and_tell.ensures.refused told short))))

pub returns-in_err-insert_and_tell-clause-heard : goal.returns-in_err-insert_and_tell-clause-heard
returns-in_err-insert_and_tell-clause-heard g c =
    let q = err_from_is_err_and c.from_residual.result c.from_residual.ensures.1 in
    rw (q.1, q.2)
    (λ told small before distinct first holds start so_far.
    (let v = c.loop-pair.invariant in
    let p = c.pair-item.result in
    let f = g.T.Space.form c.args.to.now in
    let next = pair_next before c.args.pairs.now c.loop-pair.pair-index p c.loop-pair-test.true c.pair-item.is distinct in
    let short = within_short (g.T.Space.size c.args.to.now) (g.T.Space.size c.loop-pair.to) c.args.limit c.requires.limit v.within small in
    let there = v.held told small before distinct first holds in
    let cause = cause_next c.args.limit first f (g.T.Space.form c.loop-pair.to) (g.T.Space.image c.loop-pair.to) (g.T.Space.image c.insert_and_tell.new.s) _ (p.key, p.value) c.as_slice.result.now c.as_slice-in-loop-pair.result.now
    v.wrote.form c.as_slice.ensures c.as_slice-in-loop-pair.ensures there next.new c.in_err-insert_and_tell.field-0.0 (c.in_err-insert_and_tell.ensures.refused told short) in
    heard_next c.args.limit first f (g.T.Space.image c.loop-pair.to) _ there (p.key, p.value) (g.T.Space.image c.insert_and_tell.new.s) (g.T.Space.size c.loop-pair.to) (g.T.Space.size c.insert_and_tell.new.s)
    (sym (g.met.T.Space.told_size c.loop-pair.to told)) (sym (g.met.T.Space.told_size c.insert_and_tell.new.s told)) start (g.L.Logs.logs c.loop-pair.logs) (g.L.Logs.logs c.insert_and_tell.new.logs)
    (v.told told small before distinct first holds start so_far) (keys_and_values (before ++ c.args.pairs.now)) next.rest next.split c.in_err-insert_and_tell.field-0.0 cause c.in_err-insert_and_tell.ensures.heard))

pub returns-clause-added : goal.returns-clause-added
returns-clause-added g c told small before distinct first holds =
    let end : length c.args.pairs.now ≤ c.loop-pair.pair-index = omega arith in
    subst (λ ps. HoldsPairs c.args.limit first (g.T.Space.form c.args.to.now) (g.T.Space.image c.loop-pair.to) (keys_and_values (before ++ ps))) (take_all c.loop-pair.pair-index c.args.pairs.now end) (c.loop-pair.invariant.held told small before distinct first holds)

pub returns-clause-told : goal.returns-clause-told
returns-clause-told g c told small before distinct first holds start so_far =
    let end : length c.args.pairs.now ≤ c.loop-pair.pair-index = omega arith in
    subst (λ ps. ToldAll (growths_of c.args.limit (g.T.Space.form c.args.to.now) first (keys_and_values (before ++ ps))) start (g.L.Logs.logs c.loop-pair.logs)) (take_all c.loop-pair.pair-index c.args.pairs.now end)
    (c.loop-pair.invariant.told told small before distinct first holds start so_far)

pub returns-in_err-insert_and_tell-clause-within : goal.returns-in_err-insert_and_tell-clause-within
returns-in_err-insert_and_tell-clause-within g c =
    stays_within (g.T.Space.size c.args.to.now) (g.T.Space.size c.loop-pair.to) (24 + rec_len_for (length c.as_slice.result.now) (length c.as_slice-in-loop-pair.result.now)) c.args.limit (g.T.Space.size c.insert_and_tell.new.s) c.loop-pair.invariant.within c.insert_and_tell.ensures.size
