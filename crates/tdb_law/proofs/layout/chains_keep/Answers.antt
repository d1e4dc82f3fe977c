-- The laws are the lemmas.
use Rattle.tdb_law.proofs.Marking.{link_keeps, unlink_keeps, kill_keeps}
use Rattle.tdb_law.proofs.layout.chains_keep.Goals as goal

pub returns : goal.returns
returns c = record { link = link_keeps; unlink = unlink_keeps; kill = kill_keeps }
