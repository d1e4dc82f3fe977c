use Rattle.std.proofs.Common.{false, subst}
use Rattle.tdb_tool.specs.Orders.{BytesRead}
use Rattle.tdb_tool.proofs.order.keyed.Goals as goal

-- a word that stands for no key
pub returns-in-None : goal.returns-in-None
returns-in-None c order p = subst (BytesRead false c.args.word.now) c.in-None.is c.in_ok-key.ensures p.0 p.1
