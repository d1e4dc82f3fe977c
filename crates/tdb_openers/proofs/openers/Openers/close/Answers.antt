-- It ends as one that dies, and the state is as before without it.
use Rattle.tdb_openers.proofs.Joining.Closed.{bare_can_die, state_closed}
use Rattle.tdb_openers.proofs.openers.Openers.close.Goals as goal

pub die-requires : goal.die-requires
die-requires c = let bare = c.requires.bare in record { can = (bare.0, bare_can_die bare.1 bare.2) }

pub returns-clause-state : goal.returns-clause-state
returns-clause-state c img =
    let bare = c.requires.bare in
    let stands = c.requires.stands in
    state_closed c.args.self.now c.args.who bare.0 bare.1 bare.2 stands.0 stands.1 stands.2 c.die.new.self c.die.ensures.died img
