use Rattle.std.proofs.Common.{◌∙◌, inr, refl, sym}
use Rattle.std.proofs.lemmas.Result.{err_from_is_err_and}
use Rattle.tdb_tool.specs.Serving.{fault_of}
use Rattle.tdb_tool.proofs.HeldText.{broken_ends, others_end}
use Rattle.tdb_tool.proofs.printing.end_part.Goals as goal

-- the disk failed
pub returns-then-is_broken-clause-ended : goal.returns-then-is_broken-clause-ended
returns-then-is_broken-clause-ended g c = broken_ends g.K.Sink.tells (fault_of c.args.plays) _ _ _ (sym c.is_broken.ensures ∙ c.if-is_broken.true) refl

-- a write failed
pub returns-in_err-flush_both-clause-ended : goal.returns-in_err-flush_both-clause-ended
returns-in_err-flush_both-clause-ended g c =
    let q = err_from_is_err_and c.from_residual.result c.from_residual.ensures.1 in
    rw (q.1, q.2)
    (inr (refl, sym c.is_broken.ensures ∙ c.if-is_broken.false, c.in_err-flush_both.ensures.front))

-- all was written
pub returns-clause-ended : goal.returns-clause-ended
returns-clause-ended g c = others_end g.K.Sink.tells (fault_of c.args.plays) _ _ _ (sym c.is_broken.ensures ∙ c.if-is_broken.false) c.in_ok-flush_both.ensures.whole
