-- The first bytes tell where the database begins.
use Rattle.std.proofs.Common.{◌≡◌, length, take, drop, sym, ◌∙◌, ap, arith}
use Rattle.tdb_disk.specs.History.{seen}
use Rattle.tdb_mend.specs.Mutexes.{database_at}
use Rattle.tdb_mend.proofs.Unlocked.{begins_front}
use Rattle.tdb_mend.proofs.mutexes.find_start.Goals as goal

pub returns-clause-start : goal.returns-clause-start
returns-clause-start g c told =
    let img = seen (g.D.Disk.history c.args.d.now) in
    let long : length img ≡ c.args.len = g.met.D.Disk.told_size c.args.d.now told ∙ sym c.requires.length in
    let read : c.read.new.buf ≡ take 168 (drop 0 img) = c.in_ok-read.ensures.bytes told in
    c.database_at.ensures.start ∙ ap database_at read ∙ begins_front img 168 (omega arith) (omega (arith, long))
