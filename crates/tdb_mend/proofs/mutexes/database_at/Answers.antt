-- By the features that the header asks for.
use Rattle.std.proofs.Common.{sym, ◌∙◌, arith}
use Rattle.tdb_mend.proofs.Unlocked.{begins_behind, begins_here}
use Rattle.tdb_mend.proofs.mutexes.database_at.Goals as goal

pub returns-then-not-has_features-clause-start : goal.returns-then-not-has_features-clause-start
returns-then-not-has_features-clause-start c = sym (begins_here c.args.bytes.now (sym c.has_features.ensures ∙ c.if-not-has_features.true))

pub returns-clause-start : goal.returns-clause-start
returns-clause-start c = c.mutexes_end.ensures.end ∙ sym (begins_behind c.args.bytes.now (omega (arith, c.told-bytes)) (sym c.has_features.ensures ∙ c.if-not-has_features.false))
