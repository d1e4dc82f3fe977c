-- The last record that is ahead is copied, until none is.
use Rattle.std.proofs.Common.{◌≡◌, ◌++◌, ◌∷◌, [], ◌≤◌, sym, subst, ◌∙◌, ap, rules, arith}
use Rattle.std.specs.Prelude.{IfSome, option_to_list}
use Rattle.std.proofs.lemmas.Result.{err_from_is_err_and}
use Rattle.tdb_space.specs.Pairs.{order_of}
use Rattle.tdb_backup.proofs.Inserting.{within_short}
use Rattle.tdb_rewrite.specs.Places.{HasHeader, HaveHeaders, offs_of, to_come}
use Rattle.tdb_rewrite.specs.Readable.{Readable}
use Rattle.tdb_rewrite.specs.Rewritten.{chosen}
use Rattle.tdb_rewrite.proofs.Coming.{all_given}
use Rattle.tdb_rewrite.proofs.Copied.{ahead_first, ahead_end, refused_ahead, refused_bare, step_copied, step_refused}
use Rattle.tdb_rewrite.proofs.Walking.{moved}
use Rattle.tdb_rewrite.proofs.rewriting.rewrite.Goals as goal

pub returns-in_err-places-clause-refused : goal.returns-in_err-places-clause-refused
returns-in_err-places-clause-refused g c =
    let p = err_from_is_err_and c.from_residual.result c.from_residual.ensures.1 in
    rw (p.1, p.2)
    (λ told heard small R bare.
    refused_bare (g.T.Space.form c.args.to.now) (g.T.Space.image c.args.to.now) (chosen c.args.prefix.now (order_of (g.S.Space.form c.args.from.now) (g.S.Space.image c.args.from.now))) c.args.limit c.in_err-places.field-0.0 bare)

pub loop-held-init : goal.loop-held-init
loop-held-init g c = record {
  ahead = λ told heard small R bare.
      ahead_first (g.S.Space.form c.args.from.now) (g.S.Space.image c.args.from.now) c.args.prefix.now (g.T.Space.form c.args.to.now) (g.T.Space.image c.args.to.now) (to_come (g.S.Space.form c.args.from.now) (g.S.Space.image c.args.from.now) c.in_ok-places.places) R bare
      c.in_ok-places.ensures.all;
  headers = λ told. c.in_ok-places.ensures.headers;
  below = omega (arith, c.in_ok-places.ensures.chains);
  len = c.in_ok-places.ensures.length;
  within = omega arith;
  grows = omega arith;
  looked = search rules;
  wrote = search rules;
  read_faults = search rules;
  write_faults = search rules;
}

pub loop-held-preserved : goal.loop-held-preserved
loop-held-preserved g c = record {
  ahead = λ told heard small R bare.
      (let f = g.S.Space.form c.args.from.now in
      let img = g.S.Space.image c.args.from.now in
      let k = g.S.Space.form c.loop-held.from in
      let v = g.S.Space.image c.loop-held.from in
      let looked = c.loop-held.invariant.looked in
      let short = within_short (g.T.Space.size c.args.to.now) (g.T.Space.size c.loop-held.to) c.args.limit c.requires.limit c.loop-held.invariant.within small in
      let low : c.loop-held.places.chains ≤ k.chains = omega (arith, c.loop-held.invariant.below, ap (λ x. x.chains) looked.form) in
      let there = moved (λ x i. Readable x i) k f v img (sym looked.form) (sym looked.image) R in
      let given = moved (λ x i. to_come x i c.loop-held.places ≡ to_come x i c.next.new.self ++ offs_of (option_to_list c.in_ok-found.field-0)) f k img v looked.form looked.image (c.in_ok-found.ensures.gives told low there) in
      let last = given ∙ ap (λ o. to_come f img c.next.new.self ++ offs_of (option_to_list o)) c.in-Some.is in
      let before = moved (λ x i. HaveHeaders x i c.loop-held.places.records.items) k f v img (sym looked.form) (sym looked.image) (c.loop-held.invariant.headers told) in
      let header = moved (λ x i. HasHeader x i c.in-Some.found) f k img v looked.form looked.image (subst (λ o. IfSome o (HasHeader k v)) c.in-Some.is (c.in_ok-found.ensures.headers told before).1) in
      step_copied f (g.S.Space.form c.next.new.s) img (g.S.Space.image c.next.new.s) c.args.prefix.now (g.T.Space.form c.args.to.now) (g.T.Space.form c.loop-held.to) (g.T.Space.image c.loop-held.to) (g.T.Space.image c.copy_record.new.to)
      (to_come f img c.loop-held.places) (to_come f img c.next.new.self) c.in-Some.found c.args.limit (c.next.ensures.looked.form ∙ looked.form) (c.next.ensures.looked.image ∙ looked.image) c.loop-held.invariant.wrote.form R
      (c.loop-held.invariant.ahead told heard small R bare) last header (c.in_ok-copy_record.ensures.copied told heard short));
  headers = λ told.
      (let f = g.S.Space.form c.args.from.now in
      let img = g.S.Space.image c.args.from.now in
      let k = g.S.Space.form c.loop-held.from in
      let v = g.S.Space.image c.loop-held.from in
      let looked = c.loop-held.invariant.looked in
      let before = moved (λ x i. HaveHeaders x i c.loop-held.places.records.items) k f v img (sym looked.form) (sym looked.image) (c.loop-held.invariant.headers told) in
      moved (λ x i. HaveHeaders x i c.next.new.self.records.items) f k img v looked.form looked.image (c.in_ok-found.ensures.headers told before).0);
  below = omega (arith, c.next.ensures.chains, c.loop-held.invariant.below);
  len = search rules;
  within = c.copy_record.ensures.within (g.T.Space.size c.args.to.now) c.loop-held.invariant.within;
  grows = omega (arith, c.copy_record.ensures.grows, c.loop-held.invariant.grows);
  looked = search rules;
  wrote = search rules;
  read_faults = search rules;
  write_faults = search rules;
}

pub returns-in_err-found-clause-refused : goal.returns-in_err-found-clause-refused
returns-in_err-found-clause-refused g c =
    let p = err_from_is_err_and c.from_residual-in_err-found.result c.from_residual-in_err-found.ensures.1 in
    rw (p.1, p.2)
    (λ told heard small R bare.
    refused_ahead (g.S.Space.form c.args.from.now) (g.S.Space.image c.args.from.now) c.args.prefix.now (g.T.Space.form c.args.to.now) (g.T.Space.image c.loop-held.to) _ c.args.limit c.in_err-found.field-0.0
    (c.loop-held.invariant.ahead told heard small R bare))

pub returns-in_err-copy_record-clause-refused : goal.returns-in_err-copy_record-clause-refused
returns-in_err-copy_record-clause-refused g c =
    let p = err_from_is_err_and c.from_residual-in_err-copy_record.result c.from_residual-in_err-copy_record.ensures.1 in
    rw (p.1, p.2)
    (λ told heard small R bare.
    (let f = g.S.Space.form c.args.from.now in
    let img = g.S.Space.image c.args.from.now in
    let k = g.S.Space.form c.loop-held.from in
    let v = g.S.Space.image c.loop-held.from in
    let looked = c.loop-held.invariant.looked in
    let short = within_short (g.T.Space.size c.args.to.now) (g.T.Space.size c.loop-held.to) c.args.limit c.requires.limit c.loop-held.invariant.within small in
    let low : c.loop-held.places.chains ≤ k.chains = omega (arith, c.loop-held.invariant.below, ap (λ x. x.chains) looked.form) in
    let there = moved (λ x i. Readable x i) k f v img (sym looked.form) (sym looked.image) R in
    let given = moved (λ x i. to_come x i c.loop-held.places ≡ to_come x i c.next.new.self ++ offs_of (option_to_list c.in_ok-found.field-0)) f k img v looked.form looked.image (c.in_ok-found.ensures.gives told low there) in
    let last = given ∙ ap (λ o. to_come f img c.next.new.self ++ offs_of (option_to_list o)) c.in-Some.is in
    let before = moved (λ x i. HaveHeaders x i c.loop-held.places.records.items) k f v img (sym looked.form) (sym looked.image) (c.loop-held.invariant.headers told) in
    let header = moved (λ x i. HasHeader x i c.in-Some.found) f k img v looked.form looked.image (subst (λ o. IfSome o (HasHeader k v)) c.in-Some.is (c.in_ok-found.ensures.headers told before).1) in
    step_refused f (g.S.Space.form c.next.new.s) img (g.S.Space.image c.next.new.s) c.args.prefix.now (g.T.Space.form c.args.to.now) (g.T.Space.form c.loop-held.to) (g.T.Space.image c.loop-held.to) (g.T.Space.image c.copy_record.new.to)
    (to_come f img c.loop-held.places) (to_come f img c.next.new.self) c.in-Some.found c.args.limit (c.next.ensures.looked.form ∙ looked.form) (c.next.ensures.looked.image ∙ looked.image) c.loop-held.invariant.wrote.form R
    (c.loop-held.invariant.ahead told heard small R bare) last header c.in_err-copy_record.field-0.0 (c.in_err-copy_record.ensures.refused told heard short)))

pub returns-clause-rewritten : goal.returns-clause-rewritten
returns-clause-rewritten g c told heard small R bare =
    let f = g.S.Space.form c.args.from.now in
    let img = g.S.Space.image c.args.from.now in
    let k = g.S.Space.form c.loop-held.from in
    let v = g.S.Space.image c.loop-held.from in
    let looked = c.loop-held.invariant.looked in
    let low : c.loop-held.places.chains ≤ k.chains = omega (arith, c.loop-held.invariant.below, ap (λ x. x.chains) looked.form) in
    let there = moved (λ x i. Readable x i) k f v img (sym looked.form) (sym looked.image) R in
    let none = moved (λ x i. to_come x i c.loop-held.places ≡ []) f k img v looked.form looked.image (all_given _ _ _ (c.in_ok-found.ensures.gives told low there) c.in_ok-found.ensures.none c.in_default.not-Some) in
    ahead_end f img c.args.prefix.now (g.T.Space.form c.args.to.now) (g.T.Space.image c.loop-held.to) (to_come f img c.loop-held.places)
    (c.loop-held.invariant.ahead told heard small R bare) none

pub returns-in_err-copy_record-clause-grows : goal.returns-in_err-copy_record-clause-grows
returns-in_err-copy_record-clause-grows g c = omega (arith, c.copy_record.ensures.grows, c.loop-held.invariant.grows)
