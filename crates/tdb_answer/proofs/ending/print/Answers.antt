use Rattle.std.proofs.Common.{refl, inr, rules}
use Rattle.tdb_answer.specs.declared.ending.Ending.TheVariants.{NoMemory}
use Rattle.tdb_answer.proofs.ending.print.Goals as goal

-- the line of want of memory takes none
pub returns-in-Err : goal.returns-in-Err
returns-in-Err g c = (NoMemory, inr (refl, search rules), c.put-in-Err.ensures NoMemory refl refl)
