use Rattle.std.proofs.Common.{◌≡◌, ◌≤◌, ◌+◌, length, arith}
use Rattle.tdb_disk.specs.History.{seen}
use Rattle.std.specs.Prelude.{slice_index}
use Rattle.tdb_cache.proofs.Laids.{laid-read, laid-read_image, laid-read_kept}
use Rattle.tdb_cache.proofs.pending.Pending.read.Goals as goal

pub returns-then-holds-clause-bytes : goal.returns-then-holds-clause-bytes
returns-then-holds-clause-bytes g c = λ told.
    let image = seen (g.D.Disk.history c.args.d.now) in
    let n = length c.args.buf.now in
    let size : length image ≡ g.D.Disk.size c.args.d.now = g.met.D.Disk.told_size c.args.d.now told in
    laid-read c.args.self.now.blocks image c.args.buf.now c.lay_over.new.buf c.args.off n (omega (arith, size, c.requires.range))
    c.lay_over.auto.buf c.lay_over.ensures
    (λ at within. laid-read_kept c.args.self.now.blocks c.args.off n (slice_index c.args.buf.now at)
    (slice_index image (c.args.off + at)) (c.holds.ensures.0 c.if-holds.true) at within)

pub returns-clause-bytes : goal.returns-clause-bytes
returns-clause-bytes g c = λ told.
    let image = seen (g.D.Disk.history c.args.d.now) in
    let n = length c.args.buf.now in
    let size : length image ≡ g.D.Disk.size c.args.d.now = g.met.D.Disk.told_size c.args.d.now told in
    let same : length c.read.new.buf ≡ n = c.read.auto.buf in
    laid-read c.args.self.now.blocks image c.read.new.buf c.lay_over-2.new.buf c.args.off n (omega (arith, size, c.requires.range))
    (omega (arith, same, c.lay_over-2.auto.buf))
    (λ at within. c.lay_over-2.ensures at (omega (arith, within, same)))
    (laid-read_image c.args.self.now.blocks image c.read.new.buf c.args.off n (c.in_ok-read.ensures.bytes told))
