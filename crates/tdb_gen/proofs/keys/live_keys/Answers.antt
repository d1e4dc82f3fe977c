-- Over an accepted file a check finds no fault.
use Rattle.tdb_openers.proofs.Checks.Faultless.{no_fault}
use Rattle.tdb_gen.proofs.keys.live_keys.Goals as goal

pub returns-in-Err-Corrupt-clause-cause : goal.returns-in-Err-Corrupt-clause-cause
returns-in-Err-Corrupt-clause-cause g c told A =
    absurd (no_fault (g.S.Space.form c.args.space.now) (g.S.Space.image c.args.space.now) c.in-Err-Corrupt.field-0-0 c.in-Err-Corrupt.field-0-1 c.in-Err-Corrupt.field-0 c.in-Err-Corrupt.field-0-is A (c.in-Err-Corrupt.ensures.first_fault told))
