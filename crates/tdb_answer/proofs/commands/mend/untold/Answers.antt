use Rattle.std.proofs.Common.{refl, inl, inr}
use Rattle.tdb_answer.proofs.commands.mend.untold.Goals as goal

-- the new file was removed
pub returns-in-Ok-clause-left : goal.returns-in-Ok-clause-left
returns-in-Ok-clause-left g c told = c.in-Ok.ensures.gone told

pub returns-in-Ok-clause-known : goal.returns-in-Ok-clause-known
returns-in-Ok-clause-known g c = inl refl

-- or it couldn't be removed
pub returns-in-Err-clause-known : goal.returns-in-Err-clause-known
returns-in-Err-clause-known g c = inr refl
