-- Each way out of the loop, from what was followed so far.
use Rattle.std.proofs.Common.{◌≡◌, ◌++◌, [], ◌∷◌, length, length-append, sym, ap, subst, arith}
use Rattle.tdb_words.specs.Word.{word}
use Rattle.tdb_space.specs.Form.{form_in}
use Rattle.tdb_space.proofs.Chain.Followed.{Followed, followed_more, followed_end, followed_stuck, followed_long}
use Rattle.tdb_space.proofs.plain.chain_offsets.Goals as goal

pub returns-then-at-eq0-clause-found : goal.returns-then-at-eq0-clause-found
returns-then-at-eq0-clause-found c = followed_end _ _ _ _ _ c.loop-turn.invariant.followed c.if-at-eq0.true

pub returns-in-None-clause-none : goal.returns-in-None-clause-none
returns-in-None-clause-none c = followed_stuck _ _ _ _ _ c.loop-turn.invariant.followed c.if-at-eq0.false c.in-None.ensures

pub loop-turn-preserved : goal.loop-turn-preserved
loop-turn-preserved c =
    let f = form_in c.args.header.now in
    let first = word c.args.header.now.order c.args.image.now c.args.head in
    let next : word c.args.header.now.order c.args.image.now c.loop-turn.at ≡ c.in-Some.rec.next = sym (ap (λ r. r.next) c.in-Some.ensures.1) in
    let offs : c.loop-turn.offs.items ++ c.loop-turn.at ∷ [] ≡ c.push.new.self.items = sym c.in_ok-push-in-Some.ensures.items in
    record {
      followed = subst (λ at. Followed f c.args.image.now first at c.push.new.self.items) next (subst (λ xs. Followed f c.args.image.now first (word c.args.header.now.order c.args.image.now c.loop-turn.at) xs) offs (followed_more _ _ _ _ _ c.loop-turn.invariant.followed c.in-Some.ensures.0));
      turns = omega (arith, ap length offs, length-append c.loop-turn.offs.items (c.loop-turn.at ∷ []), c.loop-turn.invariant.turns);
    }

pub returns-else-at-eq0-2-clause-none : goal.returns-else-at-eq0-2-clause-none
returns-else-at-eq0-2-clause-none c = followed_long _ _ _ _ _ c.loop-turn.invariant.followed c.if-at-eq0-2.false (omega (arith, c.loop-turn.invariant.turns))

pub returns-then-at-eq0-2-clause-found : goal.returns-then-at-eq0-2-clause-found
returns-then-at-eq0-2-clause-found c = followed_end _ _ _ _ _ c.loop-turn.invariant.followed c.if-at-eq0-2.true
