-- One free record more, and the whole list.
use Rattle.std.proofs.Common.{◌+◌, ◌≤◌, refl, subst, rules, arith}
use Rattle.tdb_words.specs.Word.{word}
use Rattle.tdb_space.specs.Form.{free_head}
use Rattle.tdb_space.specs.Record.{IsFree}
use Rattle.tdb_space.specs.Chain.{free_of}
use Rattle.tdb_rewrite.specs.Walk.{Gives}
use Rattle.tdb_rewrite.proofs.Walking.{whole_list, step_there, none_given}
use Rattle.tdb_rewrite.proofs.Greatest.{largest_more, largest_all}
use Rattle.tdb_rewrite.proofs.summing.largest_free.Goals as goal

pub loop-found-init : goal.loop-found-init
loop-found-init g c = record {
  largest = λ told hands A.
      (let f = g.S.Space.form c.args.s.now in
      let img = g.S.Space.image c.args.s.now in
      let offs = free_of f img in
      let l = whole_list f IsFree img (word f.order img free_head) offs A.frees in
      let within : free_head + 4 ≤ g.S.Space.size c.args.s.now = omega (arith, A.long, g.met.S.Space.told_size c.args.s.now told) in
      record { left = offs; ahead = c.in_ok-walk.ensures.ahead told within offs l; all = refl });
  looked = search rules;
  faults = search rules;
  bytes_read = search rules;
}

pub loop-found-preserved : goal.loop-found-preserved
loop-found-preserved g c = record {
  largest = λ told hands A.
      (let f = g.S.Space.form c.args.s.now in
      let img = g.S.Space.image c.args.s.now in
      let k = g.S.Space.form c.loop-found.s in
      let v = g.S.Space.image c.loop-found.s in
      let looked = c.loop-found.invariant.looked in
      let walk = c.loop-found.walk in
      let next = c.next.new.self in
      let h = c.loop-found.invariant.largest told hands A in
      let gives = step_there f k img v h.left walk next _ looked.form looked.image (c.in_ok-found.ensures.gives told h.left) h.ahead in
      let gave = subst (λ o. Gives f img h.left o next) c.in-Some.is gives in
      largest_more f img (free_of f img) c.loop-found.largest walk next h c.in-Some.found c.max-largest.result gave c.max-largest.ensures);
  looked = search rules;
  faults = search rules;
  bytes_read = search rules;
}

pub returns-clause-largest : goal.returns-clause-largest
returns-clause-largest g c told hands A =
    let f = g.S.Space.form c.args.s.now in
    let img = g.S.Space.image c.args.s.now in
    let k = g.S.Space.form c.loop-found.s in
    let v = g.S.Space.image c.loop-found.s in
    let looked = c.loop-found.invariant.looked in
    let walk = c.loop-found.walk in
    let next = c.next.new.self in
    let h = c.loop-found.invariant.largest told hands A in
    let gives = step_there f k img v h.left walk next _ looked.form looked.image (c.in_ok-found.ensures.gives told h.left) h.ahead in
    largest_all f img (free_of f img) c.loop-found.largest walk next h (none_given f img h.left next _ c.in_default.not-Some gives)
