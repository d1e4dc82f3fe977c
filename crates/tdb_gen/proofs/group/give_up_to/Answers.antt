-- One command more was given, or memory was wanting.
use Rattle.std.proofs.Common.{◌≡◌, ◌+◌, ◌-◌, ◌≤◌, ◌∷◌, [], ◌∙◌, ℕ, drop, Result, Ok, Err, sym, ap, subst, arith}
use Rattle.std.proofs.lemmas.Result.{err_from_is_err_and}
use Rattle.tdb_gen.specs.declared.fault.GenFault.{GenFault}
use Rattle.tdb_gen.specs.Numbers.{IsFrom}
use Rattle.tdb_gen.specs.Plays.{gift, gifts}
use Rattle.tdb_gen.specs.Taking.{TakenUncounted}
use Rattle.tdb_gen.proofs.Gifting.{any_join, any_more, any_none}
use Rattle.tdb_gen.proofs.Grouping.{gifts_cut, gifts_more, gifts_none}
use Rattle.tdb_gen.proofs.group.give_up_to.Goals as goal
use Rattle.tdb_gen.proofs.group.give_up_to.Goals.{After-give_next}

-- the commands with it
more : (g : _) (c : After-give_next g) (seed : ℕ) (answer : Result (Unit {0}) GenFault) → IsFrom seed c.args.generator.now
    → ((seed : ℕ) → IsFrom seed c.loop.generator → TakenUncounted g.D.Disk.tells c.loop.world c.give_next.new.world (gift seed c.loop.generator.index ∷ []) answer)
    → TakenUncounted g.D.Disk.tells c.args.world.now c.give_next.new.world (gifts seed c.args.generator.now.index (c.loop.counter + 1 - c.args.generator.now.index)) answer
more g c seed answer from next =
    let start = c.args.generator.now.index in
    let i = c.loop.counter in
    subst (λ ps. TakenUncounted g.D.Disk.tells c.args.world.now c.give_next.new.world ps answer) (gifts_more seed start i c.loop.invariant.behind)
    (any_join g.D.Disk.tells c.args.world.now c.loop.world c.give_next.new.world (gifts seed start (i - start)) (gift seed i ∷ []) answer (c.loop.invariant.taken seed from)
    (subst (λ k. TakenUncounted g.D.Disk.tells c.loop.world c.give_next.new.world (gift seed k ∷ []) answer) c.loop.invariant.index (next seed (c.loop.invariant.from seed from))))

pub loop-init : goal.loop-init
loop-init g c =
    let start = c.args.generator.now.index in
    record {
      index = sym c.index-counter.ensures;
      behind = let at = c.index-counter.ensures in omega (arith, at);
      taken = λ seed from.
          (let none : gifts seed start (c.index-counter.result - start) ≡ [] = ap (λ i. gifts seed start (i - start)) c.index-counter.ensures ∙ gifts_none seed start in
          rw none (any_none g.D.Disk.tells c.args.world.now c.requires.unspent));
      unspent = c.requires.unspent;
      from = λ seed from. from;
    }

pub returns-in_err-give_next-clause-taken : goal.returns-in_err-give_next-clause-taken
returns-in_err-give_next-clause-taken g c seed from =
    let q = err_from_is_err_and c.from_residual.result c.from_residual.ensures.1 in
    let a = (goal.at.returns-in_err-give_next-clause-taken g c).After-give_next in
    let e = c.in_err-give_next.field-0.0 in
    let start = c.args.generator.now.index in
    let n = c.loop.counter + 1 - start in
    let m = c.args.end - start in
    let low = c.loop-test.true in
    let within : n ≤ m = omega (arith, low) in
    rw (q.1, q.2)
    (subst (λ ps. TakenUncounted g.D.Disk.tells c.args.world.now c.give_next.new.world ps (Err e)) (gifts_cut seed start n m within)
    (any_more g.D.Disk.tells c.args.world.now c.give_next.new.world (gifts seed start n) (drop n (gifts seed start m)) e (more g a seed (Err e) from c.in_err-give_next.ensures.taken)))

pub loop-preserved : goal.loop-preserved
loop-preserved g c = record {
  index = c.give_next.ensures.index ∙ ap (λ k. k + 1) c.loop.invariant.index;
  behind = let low = c.loop.invariant.behind in omega (arith, low);
  taken = λ seed from. more g ((goal.at.loop-preserved g c).After-give_next) seed (Ok tt) from c.in_ok-give_next.ensures.taken;
  unspent = c.give_next.ensures.unspent;
  from = λ seed from. c.give_next.ensures.from seed (c.loop.invariant.from seed from);
}

pub returns-clause-taken : goal.returns-clause-taken
returns-clause-taken g c seed from =
    let low = c.requires.left in
    let begins = c.index-counter.ensures in
    let least = c.loop-test.false in
    let most = c.loop.auto.counter-end in
    let all : c.loop.counter ≡ c.args.end = omega (arith, low, begins, least, most) in
    subst (λ i. TakenUncounted g.D.Disk.tells c.args.world.now c.loop.world (gifts seed c.args.generator.now.index (i - c.args.generator.now.index)) (Ok tt)) all (c.loop.invariant.taken seed from)
