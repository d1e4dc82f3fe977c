-- A world into which nobody has come has the state that is just loaded.
use Rattle.std.proofs.Common.{arith, refl}
use Rattle.tdb_disk.specs.History.{seen}
use Rattle.tdb_world.proofs.Arrivals.{empty_state}
use Rattle.tdb_world.proofs.all_openers.AllOpeners.new.Goals as goal

pub returns-clause-state : goal.returns-clause-state
returns-clause-state c = λ h few limit accepted.
    empty_state _ c.args.header.now c.args.options.now c.new.ensures.header refl refl c.new-2.ensures.items h (c.new.ensures.stands (seen h) 0 few limit (omega arith)) (c.new.ensures.bytes (seen h) accepted)
    (c.new.ensures.loaded (seen h) few)
