-- It is given as the law says, and the world stands as before.
use Rattle.std.proofs.Common.{ap}
use Rattle.tdb_openers.specs.Worlds.{World}
use Rattle.tdb_openers.proofs.Joining.Coming.{held_free, same_header, stands_given, bytes_given, is_given}
use Rattle.tdb_openers.proofs.openers.Openers.assign.Goals as goal

pub give-requires-clause-held : goal.give-requires-clause-held
give-requires-clause-held c x F = held_free c.args.self.now c.args.who x F c.requires.stands.0 c.requires.stands.1 c.requires.stands.2

pub returns-clause-stands : goal.returns-clause-stands
returns-clause-stands c img size W =
    let free = c.requires.free in
    stands_given c.args.self.now c.give.new.self c.args.who size free.0 c.args.command free.1 (c.give.ensures size free.0 free.1) img W

pub returns-clause-bytes : goal.returns-clause-bytes
returns-clause-bytes c img F =
    let free = c.requires.free in
    bytes_given c.args.self.now c.give.new.self c.args.who 0 free.0 c.args.command free.1 (c.give.ensures 0 free.0 free.1) img F

pub returns-clause-given : goal.returns-clause-given
returns-clause-given c img =
    let free = c.requires.free in
    is_given c.args.self.now c.give.new.self c.args.who 0 free.0 c.args.command free.1 (c.give.ensures 0 free.0 free.1) img

pub returns-clause-header : goal.returns-clause-header
returns-clause-header c = let free = c.requires.free in same_header (c.give.ensures 0 free.0 free.1)

pub returns-clause-options : goal.returns-clause-options
returns-clause-options c =
    let free = c.requires.free in
    ap (λ (w : World). w.options) (c.give.ensures 0 free.0 free.1).rest
