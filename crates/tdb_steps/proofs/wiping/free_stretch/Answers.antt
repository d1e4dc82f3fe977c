-- Zeros, whatever the list leads to.
use Rattle.tdb_steps.proofs.wiping.free_stretch.Goals as goal

pub returns-in_ok-blank-clause-freed : goal.returns-in_ok-blank-clause-freed
returns-in_ok-blank-clause-freed g c told = c.in_ok-blank.ensures.zeros told c.args.next
