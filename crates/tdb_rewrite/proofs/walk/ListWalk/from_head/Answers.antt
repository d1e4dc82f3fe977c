-- The walk stands at the head of the list.
use Rattle.std.proofs.Common.{◌/◌, sym, ◌∙◌, ap, arith}
use Rattle.tdb_words.specs.Word.{word}
use Rattle.tdb_rewrite.proofs.Walking.{ahead_first}
use Rattle.tdb_rewrite.proofs.walk.ListWalk.from_head.Goals as goal

pub returns-then-len-head-clause-ahead : goal.returns-then-len-head-clause-ahead
returns-then-len-head-clause-ahead g c told within offs l = absurd (omega (arith, within, c.requires.length, c.if-len-head.true))

pub returns-clause-ahead : goal.returns-clause-ahead
returns-clause-ahead g c told within offs l =
    let f = g.S.Space.form c.args.s.now in
    let img = g.S.Space.image c.args.s.now in
    ahead_first f img offs (word f.order img c.args.head) _ l (c.in_ok-at.ensures.value told)
    (ap (λ n. n / 4) (c.requires.length ∙ sym (g.met.S.Space.told_size c.args.s.now told)))
