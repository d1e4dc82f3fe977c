-- One record more, and the whole chain.
use Rattle.std.proofs.Common.{◌+◌, ◌≤◌, refl, subst, rules, arith}
use Rattle.tdb_words.specs.Word.{word}
use Rattle.tdb_space.specs.Form.{chain_head}
use Rattle.tdb_space.specs.Record.{IsChained}
use Rattle.tdb_space.specs.Chain.{chain_of}
use Rattle.tdb_rewrite.specs.Walk.{Gives}
use Rattle.tdb_rewrite.proofs.Walking.{whole_list, list_there, step_there, none_given}
use Rattle.tdb_rewrite.proofs.Adding.{adding_first, adding_more, adding_all}
use Rattle.tdb_rewrite.proofs.sums.PairBytes.add_chain.Goals as goal

pub loop-found-init : goal.loop-found-init
loop-found-init g c = record {
  adding = λ told number hands A so_far.
      (let f = g.S.Space.form c.args.s.now in
      let img = g.S.Space.image c.args.s.now in
      let j = c.args.chain in
      let offs = chain_of f img j in
      let l = whole_list f IsChained img (word f.order img (chain_head j)) offs (A.chains j number) in
      let there = list_there f f img img offs (chain_head j) c.chain_head.result refl refl c.chain_head.ensures l in
      let within : c.chain_head.result + 4 ≤ g.S.Space.size c.args.s.now = omega (arith, A.long, number, c.chain_head.ensures, g.met.S.Space.told_size c.args.s.now told) in
      adding_first f img j c.in_ok-walk.walk c.args.self.now (c.in_ok-walk.ensures.ahead told within offs there) (A.filed j number) so_far);
  looked = search rules;
  faults = search rules;
  bytes_read = search rules;
}

pub loop-found-preserved : goal.loop-found-preserved
loop-found-preserved g c = record {
  adding = λ told number hands A so_far.
      (let f = g.S.Space.form c.args.s.now in
      let img = g.S.Space.image c.args.s.now in
      let k = g.S.Space.form c.loop-found.s in
      let v = g.S.Space.image c.loop-found.s in
      let looked = c.loop-found.invariant.looked in
      let walk = c.loop-found.walk in
      let next = c.next.new.self in
      let h = c.loop-found.invariant.adding told number hands A so_far in
      let gives = step_there f k img v h.left walk next _ looked.form looked.image (c.in_ok-found.ensures.gives told h.left) h.ahead in
      let gave = subst (λ o. Gives f img h.left o next) c.in-Some.is gives in
      adding_more f img c.args.chain walk c.loop-found.self h next c.add.new.self c.in-Some.found gave c.add.ensures.keys c.add.ensures.values);
  looked = search rules;
  faults = search rules;
  bytes_read = search rules;
}

pub returns-clause-added : goal.returns-clause-added
returns-clause-added g c told number hands A so_far =
    let f = g.S.Space.form c.args.s.now in
    let img = g.S.Space.image c.args.s.now in
    let k = g.S.Space.form c.loop-found.s in
    let v = g.S.Space.image c.loop-found.s in
    let looked = c.loop-found.invariant.looked in
    let walk = c.loop-found.walk in
    let next = c.next.new.self in
    let h = c.loop-found.invariant.adding told number hands A so_far in
    let gives = step_there f k img v h.left walk next _ looked.form looked.image (c.in_ok-found.ensures.gives told h.left) h.ahead in
    adding_all f img c.args.chain walk c.loop-found.self h (none_given f img h.left next _ c.in_default.not-Some gives)
