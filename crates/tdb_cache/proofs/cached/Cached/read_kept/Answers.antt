use Rattle.std.proofs.Common.{◌≡◌, ◌+◌, ◌/◌, ◌%◌, length, arith}
use Rattle.tdb_disk.specs.History.{seen}
use Rattle.tdb_cache.specs.Blocks.{block_size, block_start}
use Rattle.tdb_cache.proofs.Tables.{piece_inside, copied_bytes}
use Rattle.tdb_cache.proofs.cached.Cached.read_kept.Goals as goal

pub copy_out-requires : goal.copy_out-requires
copy_out-requires g c =
    piece_inside c.args.self.now.blocks (c.args.off / block_size) (c.args.off % block_size) (length c.args.buf.now)
    (g.D.Disk.size c.args.self.now.inner) c.args.self.now.sized (omega (arith, c.requires)) c.if-within-buf-le-BLOCK_SIZE.true

pub returns-then-within-buf-le-BLOCK_SIZE-clause-bytes : goal.returns-then-within-buf-le-BLOCK_SIZE-clause-bytes
returns-then-within-buf-le-BLOCK_SIZE-clause-bytes g c = λ copied told.
    let number = c.args.off / block_size in
    let within = c.args.off % block_size in
    let start : c.args.off ≡ block_start number + within = omega arith in
    rw start (copied_bytes c.args.self.now.blocks number within (length c.args.buf.now) (g.D.Disk.size c.args.self.now.inner)
    (seen (g.D.Disk.history c.args.self.now.inner)) c.copy_out.new.buf (c.copy_out.ensures.kept.0 copied) c.copy_out.ensures.copied
    c.args.self.now.sized (omega (arith, c.requires)) c.if-within-buf-le-BLOCK_SIZE.true (c.args.self.now.shown told))
