-- One record more, and the whole chain.
use Rattle.std.proofs.Common.{◌+◌, ◌≤◌, ◌++◌, ◌∷◌, [], ◌∙◌, ap, subst, rules, arith}
use Rattle.tdb_words.specs.Word.{word}
use Rattle.tdb_space.specs.Form.{chain_head}
use Rattle.tdb_space.specs.Record.{IsChained}
use Rattle.tdb_space.specs.Chain.{chain_of}
use Rattle.tdb_rewrite.specs.Walk.{Ahead, Gives}
use Rattle.tdb_rewrite.specs.Lines.{under_head}
use Rattle.tdb_rewrite.proofs.Walking.{moved, whole_list, list_there, step_there, none_given}
use Rattle.tdb_rewrite.proofs.Showing.{noted_first, noted_more, noted_all}
use Rattle.tdb_rewrite.proofs.lines.chain_lines.Goals as goal

pub loop-shown-init : goal.loop-shown-init
loop-shown-init g c = record {
  noted = λ told offs l within.
      (let f = g.S.Space.form c.args.s.now in
      let img = g.S.Space.image c.args.s.now in
      let k = g.S.Space.form c.len.new.self in
      let v = g.S.Space.image c.len.new.self in
      let walk = c.in_ok-walk.walk in
      let there = list_there f k img v offs (chain_head c.args.chain) c.chain_head.result c.len.ensures.form c.len.ensures.image c.chain_head.ensures l in
      let ahead = c.in_ok-walk.ensures.ahead told (omega (arith, within, c.chain_head.ensures, c.len.ensures.size)) offs there in
      noted_first f img offs _ walk (moved (λ x i. Ahead x i offs walk) f k img v c.len.ensures.form c.len.ensures.image ahead) c.new-shown.ensures);
  looked = search rules;
  faults = search rules;
  bytes_read = search rules;
}

pub loop-shown-preserved : goal.loop-shown-preserved
loop-shown-preserved g c = record {
  noted = λ told offs l within.
      (let f = g.S.Space.form c.args.s.now in
      let img = g.S.Space.image c.args.s.now in
      let k = g.S.Space.form c.loop-shown.s in
      let v = g.S.Space.image c.loop-shown.s in
      let looked = c.loop-shown.invariant.looked in
      let walk = c.loop-shown.walk in
      let next = c.next.new.self in
      let h = c.loop-shown.invariant.noted told offs l within in
      let gives = step_there f k img v h.left walk next _ looked.form looked.image (c.in_ok-found.ensures.gives told h.left) h.ahead in
      let gave = subst (λ o. Gives f img h.left o next) c.in-Some.is gives in
      noted_more f img offs c.loop-shown.shown walk next h c.in-Some.found c.push.new.self gave
      (c.in_ok-push.ensures ∙ ap (λ x. c.loop-shown.shown ++ x ∷ []) c.of.ensures));
  looked = search rules;
  faults = search rules;
  bytes_read = search rules;
}

pub returns-clause-shown : goal.returns-clause-shown
returns-clause-shown g c told number hands A =
    let f = g.S.Space.form c.args.s.now in
    let img = g.S.Space.image c.args.s.now in
    let k = g.S.Space.form c.loop-shown.s in
    let v = g.S.Space.image c.loop-shown.s in
    let looked = c.loop-shown.invariant.looked in
    let j = c.args.chain in
    let offs = chain_of f img j in
    let l = whole_list f IsChained img (word f.order img (chain_head j)) offs (A.chains j number) in
    let within : chain_head j + 4 ≤ g.S.Space.size c.args.s.now = omega (arith, A.long, number, g.met.S.Space.told_size c.args.s.now told) in
    let h = c.loop-shown.invariant.noted told offs l within in
    let gives = step_there f k img v h.left c.loop-shown.walk c.next.new.self _ looked.form looked.image (c.in_ok-found.ensures.gives told h.left) h.ahead in
    let all = noted_all f img offs c.loop-shown.shown c.loop-shown.walk c.next.new.self h (none_given f img h.left c.next.new.self _ c.in_default.not-Some gives) in
    c.in_ok-put_head.ensures ∙ ap (under_head j) all
