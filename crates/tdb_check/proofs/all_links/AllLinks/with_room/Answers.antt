-- No record.
use Rattle.std.proofs.Common.{refl}
use Rattle.tdb_check.proofs.PutDown.{put_none}
use Rattle.tdb_check.proofs.all_links.AllLinks.with_room.Goals as goal

pub returns-clause-none : goal.returns-clause-none
returns-clause-none c f img = put_none f img _ c.in_ok-chained.ensures c.in_ok-free.ensures refl refl refl
