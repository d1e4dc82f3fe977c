-- It dies as the law says, and the world stands as before.
use Rattle.tdb_openers.proofs.Joining.Deaths.{stands_died, bytes_died, dies_died}
use Rattle.tdb_openers.proofs.openers.Openers.die.Goals as goal

pub returns-clause-dies : goal.returns-clause-dies
returns-clause-dies c img = let free = c.requires.can in dies_died c.args.self.now c.strip.new.self c.args.who free.0 free.1 c.strip.ensures img

pub returns-clause-stands : goal.returns-clause-stands
returns-clause-stands c img size W = let free = c.requires.can in stands_died c.args.self.now c.strip.new.self c.args.who free.0 free.1 c.strip.ensures img size W

pub returns-clause-bytes : goal.returns-clause-bytes
returns-clause-bytes c img F = let free = c.requires.can in bytes_died c.args.self.now c.strip.new.self c.args.who free.0 free.1 c.strip.ensures img F
