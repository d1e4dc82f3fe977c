-- One pair more is stored, or not read, or refused.
use Rattle.std.proofs.Common.{Ok, Err, rules}
use Rattle.std.proofs.lemmas.Result.{err_from_is_err_and}
use Rattle.tdb_space.specs.Pairs.{order_of}
use Rattle.tdb_rewrite.specs.Rewritten.{chosen}
use Rattle.tdb_merge.specs.Parts.{Inside, stored}
use Rattle.tdb_merge.proofs.Choosing.{so_far_all, so_far_broke, so_far_more, so_far_none}
use Rattle.tdb_merge.proofs.Parts.{led_unread, ran_ended, ran_join, ran_none}
use Rattle.tdb_merge.proofs.storing.store_pairs.Goals as goal

pub loop-traversal-init : goal.loop-traversal-init
loop-traversal-init g c = record {
  ran = ran_none c.args.world.now (Ok tt) c.requires.unspent;
  so_far = λ told hands A.
      (let f = g.S.Space.form c.args.from.now in
      let img = g.S.Space.image c.args.from.now in
      so_far_none g.D.Disk.tells f img c.args.prefix.now c.new-traversal.result c.args.world.now (c.new-traversal.ensures.gave f img));
  looked = search rules;
  faults = search rules;
}

pub returns-in_err-advance-clause-ran : goal.returns-in_err-advance-clause-ran
returns-in_err-advance-clause-ran g c = ran_ended c.args.world.now c.loop-traversal.world _ c.loop-traversal.invariant.ran

pub returns-in_err-advance-clause-led : goal.returns-in_err-advance-clause-led
returns-in_err-advance-clause-led g c told hands A m n =
    let q = err_from_is_err_and c.from_residual.result c.from_residual.ensures.1 in
    let s = c.loop-traversal.invariant.so_far told hands A in
    rw (q.1, q.2)
    (led_unread g.D.Disk.tells m n (Inside m) (Inside (stored m (chosen c.args.prefix.now s.given))) (Inside (stored m (chosen c.args.prefix.now (order_of (g.S.Space.form c.args.from.now) (g.S.Space.image c.args.from.now))))) m
    c.args.world.now c.loop-traversal.world c.in_err-advance.field-0.0 (s.led m n))

pub store_pair-requires-clause-unspent : goal.store_pair-requires-clause-unspent
store_pair-requires-clause-unspent g c = c.loop-traversal.invariant.ran.unspent

pub store_pair-requires-clause-key_short : goal.store_pair-requires-clause-key_short
store_pair-requires-clause-key_short g c = (c.in_ok-advance.ensures.short c.if-branch.true).0

pub store_pair-requires-clause-value_short : goal.store_pair-requires-clause-value_short
store_pair-requires-clause-value_short g c = (c.in_ok-advance.ensures.short c.if-branch.true).1

pub returns-in_err-store_pair-clause-ran : goal.returns-in_err-store_pair-clause-ran
returns-in_err-store_pair-clause-ran g c =
    let q = err_from_is_err_and c.from_residual-in_err-store_pair.result c.from_residual-in_err-store_pair.ensures.1 in
    rw (q.1, q.2) (ran_join c.args.world.now c.loop-traversal.world c.store_pair.new.world (Err c.in_err-store_pair.field-0.0) c.loop-traversal.invariant.ran c.in_err-store_pair.ensures.ran)

pub returns-in_err-store_pair-clause-led : goal.returns-in_err-store_pair-clause-led
returns-in_err-store_pair-clause-led g c told hands A m n =
    let q = err_from_is_err_and c.from_residual-in_err-store_pair.result c.from_residual-in_err-store_pair.ensures.1 in
    let f = g.S.Space.form c.args.from.now in
    let img = g.S.Space.image c.args.from.now in
    let looked = c.loop-traversal.invariant.looked in
    rw (q.1, q.2)
    (so_far_broke g.D.Disk.tells f (g.S.Space.form c.loop-traversal.from) img (g.S.Space.image c.loop-traversal.from) c.args.prefix.now hands c.loop-traversal.traversal c.advance.new.self c.in_ok-advance.field-0 c.args.world.now c.loop-traversal.world
    looked.form looked.image A (c.loop-traversal.invariant.so_far told hands A) (c.in_ok-advance.ensures.gave told) c.if-branch.true c.store_pair.new.world c.loop-traversal.invariant.ran c.in_err-store_pair.field-0.0 m n
    (Inside (stored m (chosen c.args.prefix.now (order_of f img)))) c.in_err-store_pair.ensures.led)

pub loop-traversal-preserved : goal.loop-traversal-preserved
loop-traversal-preserved g c = record {
  ran = ran_join c.args.world.now c.loop-traversal.world c.store_pair.new.world (Ok tt) c.loop-traversal.invariant.ran c.in_ok-store_pair.ensures.ran;
  so_far = λ told hands A.
      (let f = g.S.Space.form c.args.from.now in
      let img = g.S.Space.image c.args.from.now in
      let looked = c.loop-traversal.invariant.looked in
      so_far_more g.D.Disk.tells f (g.S.Space.form c.loop-traversal.from) img (g.S.Space.image c.loop-traversal.from) c.args.prefix.now hands c.loop-traversal.traversal c.advance.new.self c.in_ok-advance.field-0 c.args.world.now
      c.loop-traversal.world looked.form looked.image A (c.loop-traversal.invariant.so_far told hands A) (c.in_ok-advance.ensures.gave told) c.if-branch.true c.store_pair.new.world c.loop-traversal.invariant.ran c.in_ok-store_pair.ensures.led);
  looked = search rules;
  faults = search rules;
}

pub returns-clause-ran : goal.returns-clause-ran
returns-clause-ran g c = c.loop-traversal.invariant.ran

pub returns-clause-led : goal.returns-clause-led
returns-clause-led g c told hands A m n =
    let f = g.S.Space.form c.args.from.now in
    let img = g.S.Space.image c.args.from.now in
    let looked = c.loop-traversal.invariant.looked in
    so_far_all g.D.Disk.tells f (g.S.Space.form c.loop-traversal.from) img (g.S.Space.image c.loop-traversal.from) c.args.prefix.now hands c.loop-traversal.traversal c.advance.new.self c.in_ok-advance.field-0 c.args.world.now c.loop-traversal.world
    looked.form looked.image A (c.loop-traversal.invariant.so_far told hands A) (c.in_ok-advance.ensures.gave told) c.if-branch.false m n
