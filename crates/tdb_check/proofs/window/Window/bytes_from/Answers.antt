-- What the vector shows behind the bytes before the offset.
use Rattle.tdb_check.proofs.Forward.{held_from}
use Rattle.tdb_check.proofs.window.Window.bytes_from.Goals as goal

pub returns-clause-bytes : goal.returns-clause-bytes
returns-clause-bytes c img shows = rw c.deref.ensures.value (held_from img c.args.self.now.bytes.items c.args.self.now.from c.args.self.now.held c.args.at c.requires.back c.requires.within c.args.self.now.fits shows)
