-- One record more, and the whole chain.
use Rattle.std.proofs.Common.{◌+◌, ◌≤◌, ◌++◌, append-nil, refl, sym, ◌∙◌, ap, subst, rules, arith}
use Rattle.tdb_words.specs.Word.{word}
use Rattle.tdb_space.specs.Form.{chain_head}
use Rattle.tdb_space.specs.Record.{IsChained}
use Rattle.tdb_space.specs.Chain.{chain_of}
use Rattle.tdb_rewrite.specs.Places.{HasHeader, HaveHeaders, offs_of}
use Rattle.tdb_rewrite.specs.Walk.{Gives}
use Rattle.std.specs.Prelude.{IfSome, IsSome}
use Rattle.std.proofs.lemmas.List.Elements.{All-push}
use Rattle.tdb_rewrite.proofs.Coming.{passed_more, pushed_few}
use Rattle.tdb_rewrite.proofs.Walking.{moved, whole_list, list_there, step_there, none_given}
use Rattle.tdb_rewrite.proofs.places.Places.add_chain.Goals as goal

pub loop-found-init : goal.loop-found-init
loop-found-init g c = record {
  passed = λ told offs whole within.
      (let f = g.S.Space.form c.args.s.now in
      let img = g.S.Space.image c.args.s.now in
      let there = list_there f f img img offs (chain_head c.args.chain) c.chain_head.result refl refl c.chain_head.ensures whole in
      let inside : c.chain_head.result + 4 ≤ g.S.Space.size c.args.s.now = omega (arith, within, c.chain_head.ensures) in
      (offs, c.in_ok-walk.ensures.ahead told inside offs there, refl));
  headers = λ told headers. headers;
  few = omega (arith, c.in_ok-walk.ensures.counted);
  chains = refl;
  len = refl;
  looked = search rules;
  faults = search rules;
}

pub loop-found-preserved : goal.loop-found-preserved
loop-found-preserved g c = record {
  passed = λ told offs whole within.
      (let f = g.S.Space.form c.args.s.now in
      let img = g.S.Space.image c.args.s.now in
      let k = g.S.Space.form c.loop-found.s in
      let v = g.S.Space.image c.loop-found.s in
      let looked = c.loop-found.invariant.looked in
      let next = c.next.new.self in
      let items = c.loop-found.self.records.items in
      let h = c.loop-found.invariant.passed told offs whole within in
      let gives = step_there f k img v h.0 c.loop-found.walk next _ looked.form looked.image (c.in_ok-found.ensures.gives told h.0) h.1 in
      let gave = subst (λ o. Gives f img h.0 o next) c.in-Some.is gives in (
        gave.0,
        gave.3,
        h.2 ∙ ap (λ xs. offs_of items ++ xs) gave.1 ∙ passed_more items c.push.new.self.records.items c.in-Some.found gave.0 c.in_ok-push.ensures.pushed,
      ));
  headers = λ told headers.
      (let f = g.S.Space.form c.args.s.now in
      let img = g.S.Space.image c.args.s.now in
      let k = g.S.Space.form c.loop-found.s in
      let v = g.S.Space.image c.loop-found.s in
      let looked = c.loop-found.invariant.looked in
      let given = subst (λ o. IfSome o (HasHeader k v)) c.in-Some.is (c.in_ok-found.ensures.header told) in
      let header = moved (λ x i. HasHeader x i c.in-Some.found) f k img v looked.form looked.image given in
      subst (HaveHeaders f img) (sym c.in_ok-push.ensures.pushed) (All-push (HasHeader f img) c.loop-found.self.records.items c.in-Some.found (c.loop-found.invariant.headers told headers) header));
  few = pushed_few c.loop-found.self.records.items c.push.new.self.records.items c.in-Some.found c.loop-found.walk.left c.next.new.self.left _ c.in_ok-push.ensures.pushed (c.in_ok-found.ensures.fewer (subst IsSome (sym c.in-Some.is) refl)) c.loop-found.invariant.few;
  chains = search rules;
  len = search rules;
  looked = search rules;
  faults = search rules;
}

pub returns-clause-added : goal.returns-clause-added
returns-clause-added g c told number R =
    let f = g.S.Space.form c.args.s.now in
    let img = g.S.Space.image c.args.s.now in
    let k = g.S.Space.form c.loop-found.s in
    let v = g.S.Space.image c.loop-found.s in
    let j = c.args.chain in
    let looked = c.loop-found.invariant.looked in
    let next = c.next.new.self in
    let items = c.loop-found.self.records.items in
    let offs = chain_of f img j in
    let whole = whole_list f IsChained img (word f.order img (chain_head j)) offs (R.chains j number) in
    let within : chain_head j + 4 ≤ g.S.Space.size c.args.s.now = omega (arith, R.long, number, g.met.S.Space.told_size c.args.s.now told) in
    let h = c.loop-found.invariant.passed told offs whole within in
    let gives = step_there f k img v h.0 c.loop-found.walk next _ looked.form looked.image (c.in_ok-found.ensures.gives told h.0) h.1 in
    let none = none_given f img h.0 next _ c.in_default.not-Some gives in
    sym (h.2 ∙ ap (λ xs. offs_of items ++ xs) none ∙ append-nil (offs_of items))
