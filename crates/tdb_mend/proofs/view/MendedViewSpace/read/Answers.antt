-- The file is as it was.
use Rattle.std.proofs.Common.{◌∙◌, ap}
use Rattle.tdb_disk.specs.History.{seen}
use Rattle.tdb_mend.specs.View.{mended_view}
use Rattle.tdb_mend.proofs.view.MendedViewSpace.read.Goals as goal

pub returns-clause-image : goal.returns-clause-image
returns-clause-image g c = ap (λ s. mended_view c.read.new.self (seen s.history)) c.read.ensures.disk ∙ c.read.ensures.same.view
