-- An opener that isn't aside is among the others, and has room for any command.
use Rattle.tdb_world.proofs.Rooms.{among_room}
use Rattle.tdb_world.proofs.all_openers.AllOpeners.assign.Goals as goal

pub assign_among-requires-clause-among : goal.assign_among-requires-clause-among
assign_among-requires-clause-among c = c.is_aside.ensures.no c.if-is_aside.false

pub returns-clause-may : goal.returns-clause-may
returns-clause-may c = among_room c.args.self.now c.args.who c.args.command (c.is_aside.ensures.no c.if-is_aside.false)
