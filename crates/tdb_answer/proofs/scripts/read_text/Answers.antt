use Rattle.std.proofs.Common.{[], ◌∙◌, ◌++◌, refl, ap, inl, inr, arith}
use Rattle.tdb_answer.proofs.scripts.read_text.Goals as goal

-- the input ended
pub returns-then-count-eq0-clause-text : goal.returns-then-count-eq0-clause-text
returns-then-count-eq0-clause-text g c told =
    ([], c.loop-input.invariant.read told ∙ ap (λ r. c.loop-input.text ++ r) (c.in_ok-count.ensures.end told c.if-count-eq0.true c.loop-input.invariant.room), inl refl)

-- it is too long
pub returns-clause-text : goal.returns-clause-text
returns-clause-text g c told = (g.S.Source.left c.loop-input.input, c.loop-input.invariant.read told, inr (omega arith))
