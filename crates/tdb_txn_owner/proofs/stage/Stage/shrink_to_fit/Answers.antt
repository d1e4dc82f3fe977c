-- An open transaction gives memory back.
use Rattle.std.proofs.Common.{refl}
use Rattle.tdb_txn_owner.specs.ButRoom.StageButRoom.{open_stage}
use Rattle.tdb_txn_owner.proofs.stage.Stage.shrink_to_fit.Goals as goal

pub returns-in-Open-clause-room : goal.returns-in-Open-clause-room
returns-in-Open-clause-room c = open_stage c.in-Open.txn c.shrink_to_fit.new.self _ c.in-Open.is refl c.shrink_to_fit.ensures.room
