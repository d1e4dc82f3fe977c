-- It is the reply by its locks and its cursor.
use Rattle.tdb_openers.specs.Openers.{rest_of}
use Rattle.tdb_openers.proofs.opener.Opener.refusal.Goals as goal

pub returns : goal.returns
returns c = c.refusal_by.ensures c.args.self.now.live (rest_of c.args.self.now.walk) c.is_some.ensures
