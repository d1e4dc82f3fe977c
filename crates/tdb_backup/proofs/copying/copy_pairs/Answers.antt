-- Each pair that the walk gives is added and told of; what is refused leaves those before it.
use Rattle.std.proofs.Common.{◌+◌, [], refl, rules, length, sym, arith}
use Rattle.std.proofs.lemmas.Result.{err_from_is_err_and}
use Rattle.tdb_space.specs.NewRecord.{rec_len_for}
use Rattle.tdb_backup.proofs.Costs.{goes_on, has_read}
use Rattle.tdb_backup.proofs.Inserting.{stays_within, within_short}
use Rattle.tdb_backup.proofs.Building.{built_more, built_all, told_all, built_refused, heard_refused, built_unread, heard_unread}
use Rattle.tdb_backup.proofs.copying.copy_pairs.Goals as goal

pub loop-traversal-init : goal.loop-traversal-init
loop-traversal-init g c = record {
  built = λ told heard small hands A first holds. record { given = []; gave = c.new-traversal.ensures.gave (g.S.Space.form c.args.from.now) (g.S.Space.image c.args.from.now); holds = holds; told = refl };
  within = omega arith;
  looked = search rules;
  wrote = search rules;
  read_faults = refl;
  write_faults = refl;
  bytes_read = search rules;
  reads = λ told. omega (arith, c.new-traversal.ensures.reads (g.S.Space.form c.args.from.now) (g.S.Space.image c.args.from.now));
}

pub loop-traversal-preserved : goal.loop-traversal-preserved
loop-traversal-preserved g c = record {
  built = λ told heard small hands A first holds.
      (let looked = c.loop-traversal.invariant.looked in
      let short = within_short (g.T.Space.size c.args.to.now) (g.T.Space.size c.loop-traversal.to) c.args.limit c.requires.limit c.loop-traversal.invariant.within small in
      built_more c.args.limit first (g.S.Space.form c.args.from.now) (g.S.Space.form c.loop-traversal.from) (g.S.Space.image c.args.from.now) (g.S.Space.image c.loop-traversal.from) hands
      (g.T.Space.form c.args.to.now) (g.T.Space.form c.loop-traversal.to) (g.T.Space.image c.loop-traversal.to) (g.T.Space.image c.insert_and_tell.new.s) c.loop-traversal.traversal c.advance.new.self c.in_ok-advance.field-0
      (g.L.Logs.logs c.args.logs.now) (g.L.Logs.logs c.loop-traversal.logs)
      looked.form looked.image c.loop-traversal.invariant.wrote.form A (c.loop-traversal.invariant.built told heard small hands A first holds) (c.in_ok-advance.ensures.gave told)
      c.if-branch.true c.key.result.now c.value.result.now c.key.ensures c.value.ensures (g.L.Logs.logs c.insert_and_tell.new.logs) (g.T.Space.size c.loop-traversal.to) (g.T.Space.size c.insert_and_tell.new.s)
      (sym (g.met.T.Space.told_size c.loop-traversal.to heard)) (sym (g.met.T.Space.told_size c.insert_and_tell.new.s heard))
      (c.in_ok-insert_and_tell.ensures.inserted heard short) c.in_ok-insert_and_tell.ensures.heard);
  within =
      stays_within (g.T.Space.size c.args.to.now) (g.T.Space.size c.loop-traversal.to) (24 + rec_len_for (length c.key.result.now) (length c.value.result.now)) c.args.limit (g.T.Space.size c.insert_and_tell.new.s) c.loop-traversal.invariant.within c.insert_and_tell.ensures.size;
  looked = search rules;
  wrote = search rules;
  read_faults = search rules;
  write_faults = search rules;
  bytes_read = search rules;
  reads = λ told.
      (let looked = c.loop-traversal.invariant.looked in
      goes_on (g.S.Space.form c.args.from.now) (g.S.Space.form c.loop-traversal.from) (g.S.Space.image c.args.from.now) (g.S.Space.image c.loop-traversal.from) c.loop-traversal.traversal c.advance.new.self
      (g.S.Space.bytes_read c.loop-traversal.from) (g.S.Space.bytes_read c.advance.new.s) _ looked.form looked.image (c.in_ok-advance.ensures.reads told c.if-branch.true) (c.loop-traversal.invariant.reads told));
}

pub returns-in_err-advance-clause-refused : goal.returns-in_err-advance-clause-refused
returns-in_err-advance-clause-refused g c =
    let p = err_from_is_err_and c.from_residual.result c.from_residual.ensures.1 in
    rw (p.1, p.2)
    (λ told heard small hands A first holds.
    built_unread c.args.limit first (g.S.Space.form c.args.from.now) (g.T.Space.form c.args.to.now) (g.S.Space.image c.args.from.now) (g.T.Space.image c.loop-traversal.to) c.loop-traversal.traversal
    (g.L.Logs.logs c.args.logs.now) (g.L.Logs.logs c.loop-traversal.logs) (c.loop-traversal.invariant.built told heard small hands A first holds) c.in_err-advance.field-0.0)

pub returns-in_err-advance-clause-heard : goal.returns-in_err-advance-clause-heard
returns-in_err-advance-clause-heard g c =
    let p = err_from_is_err_and c.from_residual.result c.from_residual.ensures.1 in
    rw (p.1, p.2)
    (λ told heard small hands A first holds.
    heard_unread c.args.limit first (g.S.Space.form c.args.from.now) (g.T.Space.form c.args.to.now) (g.S.Space.image c.args.from.now) (g.T.Space.image c.loop-traversal.to) c.loop-traversal.traversal
    (g.L.Logs.logs c.args.logs.now) (g.L.Logs.logs c.loop-traversal.logs) (c.loop-traversal.invariant.built told heard small hands A first holds) c.in_err-advance.field-0.0)

pub returns-in_err-insert_and_tell-clause-refused : goal.returns-in_err-insert_and_tell-clause-refused
returns-in_err-insert_and_tell-clause-refused g c =
    let p = err_from_is_err_and c.from_residual-in_err-insert_and_tell.result c.from_residual-in_err-insert_and_tell.ensures.1 in
    let looked = c.loop-traversal.invariant.looked in
    rw (p.1, p.2)
    (λ told heard small hands A first holds.
    (let short = within_short (g.T.Space.size c.args.to.now) (g.T.Space.size c.loop-traversal.to) c.args.limit c.requires.limit c.loop-traversal.invariant.within small in
    built_refused c.args.limit first (g.S.Space.form c.args.from.now) (g.S.Space.form c.loop-traversal.from) (g.S.Space.image c.args.from.now) (g.S.Space.image c.loop-traversal.from) hands
    (g.T.Space.form c.args.to.now) (g.T.Space.form c.loop-traversal.to) (g.T.Space.image c.loop-traversal.to) (g.T.Space.image c.insert_and_tell.new.s) c.loop-traversal.traversal c.advance.new.self c.in_ok-advance.field-0
    (g.L.Logs.logs c.args.logs.now) (g.L.Logs.logs c.loop-traversal.logs)
    looked.form looked.image c.loop-traversal.invariant.wrote.form A (c.loop-traversal.invariant.built told heard small hands A first holds) (c.in_ok-advance.ensures.gave told)
    c.if-branch.true c.key.result.now c.value.result.now c.key.ensures c.value.ensures (g.L.Logs.logs c.insert_and_tell.new.logs) (g.T.Space.size c.loop-traversal.to) (g.T.Space.size c.insert_and_tell.new.s)
    (sym (g.met.T.Space.told_size c.loop-traversal.to heard)) (sym (g.met.T.Space.told_size c.insert_and_tell.new.s heard))
    c.in_err-insert_and_tell.field-0.0 (c.in_err-insert_and_tell.ensures.refused heard short)))

pub returns-in_err-insert_and_tell-clause-heard : goal.returns-in_err-insert_and_tell-clause-heard
returns-in_err-insert_and_tell-clause-heard g c =
    let p = err_from_is_err_and c.from_residual-in_err-insert_and_tell.result c.from_residual-in_err-insert_and_tell.ensures.1 in
    let looked = c.loop-traversal.invariant.looked in
    rw (p.1, p.2)
    (λ told heard small hands A first holds.
    (let short = within_short (g.T.Space.size c.args.to.now) (g.T.Space.size c.loop-traversal.to) c.args.limit c.requires.limit c.loop-traversal.invariant.within small in
    heard_refused c.args.limit first (g.S.Space.form c.args.from.now) (g.S.Space.form c.loop-traversal.from) (g.S.Space.image c.args.from.now) (g.S.Space.image c.loop-traversal.from) hands
    (g.T.Space.form c.args.to.now) (g.T.Space.form c.loop-traversal.to) (g.T.Space.image c.loop-traversal.to) (g.T.Space.image c.insert_and_tell.new.s) c.loop-traversal.traversal c.advance.new.self c.in_ok-advance.field-0
    (g.L.Logs.logs c.args.logs.now) (g.L.Logs.logs c.loop-traversal.logs)
    looked.form looked.image c.loop-traversal.invariant.wrote.form A (c.loop-traversal.invariant.built told heard small hands A first holds) (c.in_ok-advance.ensures.gave told)
    c.if-branch.true c.key.result.now c.value.result.now c.key.ensures c.value.ensures (g.L.Logs.logs c.insert_and_tell.new.logs) (g.T.Space.size c.loop-traversal.to) (g.T.Space.size c.insert_and_tell.new.s)
    (sym (g.met.T.Space.told_size c.loop-traversal.to heard)) (sym (g.met.T.Space.told_size c.insert_and_tell.new.s heard))
    c.in_err-insert_and_tell.field-0.0 (c.in_err-insert_and_tell.ensures.refused heard short) c.in_err-insert_and_tell.ensures.heard))

pub returns-clause-copied : goal.returns-clause-copied
returns-clause-copied g c told heard small hands A first holds =
    let looked = c.loop-traversal.invariant.looked in
    built_all c.args.limit first (g.S.Space.form c.args.from.now) (g.S.Space.form c.loop-traversal.from) (g.S.Space.image c.args.from.now) (g.S.Space.image c.loop-traversal.from) hands
    (g.T.Space.form c.args.to.now) (g.T.Space.form c.loop-traversal.to) (g.T.Space.image c.loop-traversal.to) (g.T.Space.image c.loop-traversal.to) c.loop-traversal.traversal c.advance.new.self c.in_ok-advance.field-0
    (g.L.Logs.logs c.args.logs.now) (g.L.Logs.logs c.loop-traversal.logs)
    looked.form looked.image c.loop-traversal.invariant.wrote.form A (c.loop-traversal.invariant.built told heard small hands A first holds) (c.in_ok-advance.ensures.gave told) c.if-branch.false

pub returns-clause-told : goal.returns-clause-told
returns-clause-told g c told heard small hands A first holds =
    let looked = c.loop-traversal.invariant.looked in
    told_all c.args.limit first (g.S.Space.form c.args.from.now) (g.S.Space.form c.loop-traversal.from) (g.S.Space.image c.args.from.now) (g.S.Space.image c.loop-traversal.from) hands
    (g.T.Space.form c.args.to.now) (g.T.Space.form c.loop-traversal.to) (g.T.Space.image c.loop-traversal.to) (g.T.Space.image c.loop-traversal.to) c.loop-traversal.traversal c.advance.new.self c.in_ok-advance.field-0
    (g.L.Logs.logs c.args.logs.now) (g.L.Logs.logs c.loop-traversal.logs)
    looked.form looked.image c.loop-traversal.invariant.wrote.form A (c.loop-traversal.invariant.built told heard small hands A first holds) (c.in_ok-advance.ensures.gave told) c.if-branch.false

pub returns-in_err-insert_and_tell-clause-within : goal.returns-in_err-insert_and_tell-clause-within
returns-in_err-insert_and_tell-clause-within g c =
    stays_within (g.T.Space.size c.args.to.now) (g.T.Space.size c.loop-traversal.to) (24 + rec_len_for (length c.key.result.now) (length c.value.result.now)) c.args.limit (g.T.Space.size c.insert_and_tell.new.s) c.loop-traversal.invariant.within c.insert_and_tell.ensures.size

-- what was read
pub returns-in_err-advance-clause-reads : goal.returns-in_err-advance-clause-reads
returns-in_err-advance-clause-reads g c told =
    let v = c.loop-traversal.invariant in
    record {
      no_more = has_read (g.S.Space.form c.args.from.now) (g.S.Space.form c.loop-traversal.from) (g.S.Space.image c.args.from.now) (g.S.Space.image c.loop-traversal.from) c.loop-traversal.traversal (g.S.Space.bytes_read c.loop-traversal.from) (g.S.Space.bytes_read c.advance.new.s) _ v.looked.form v.looked.image
          (c.advance.ensures.reads_at_most told) (v.reads told);
      never_falls = omega (arith, v.bytes_read, c.advance.ensures.bytes_read);
    }

pub returns-in_err-insert_and_tell-clause-reads : goal.returns-in_err-insert_and_tell-clause-reads
returns-in_err-insert_and_tell-clause-reads g c told =
    let v = c.loop-traversal.invariant in
    record {
      no_more = has_read (g.S.Space.form c.args.from.now) (g.S.Space.form c.loop-traversal.from) (g.S.Space.image c.args.from.now) (g.S.Space.image c.loop-traversal.from) c.loop-traversal.traversal (g.S.Space.bytes_read c.loop-traversal.from) (g.S.Space.bytes_read c.advance.new.s) _ v.looked.form v.looked.image
          (c.advance.ensures.reads_at_most told) (v.reads told);
      never_falls = omega (arith, v.bytes_read, c.advance.ensures.bytes_read);
    }

pub returns-clause-reads : goal.returns-clause-reads
returns-clause-reads g c told =
    let v = c.loop-traversal.invariant in
    record {
      no_more = has_read (g.S.Space.form c.args.from.now) (g.S.Space.form c.loop-traversal.from) (g.S.Space.image c.args.from.now) (g.S.Space.image c.loop-traversal.from) c.loop-traversal.traversal (g.S.Space.bytes_read c.loop-traversal.from) (g.S.Space.bytes_read c.advance.new.s) _ v.looked.form v.looked.image
          (c.advance.ensures.reads_at_most told) (v.reads told);
      never_falls = omega (arith, v.bytes_read, c.advance.ensures.bytes_read);
    }
