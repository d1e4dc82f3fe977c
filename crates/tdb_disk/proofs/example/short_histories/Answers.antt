use Rattle.tdb_disk.proofs.ShortHistories.{short_histories}
use Rattle.tdb_disk.proofs.example.short_histories.Goals as goal

pub returns : goal.returns
returns c = short_histories
