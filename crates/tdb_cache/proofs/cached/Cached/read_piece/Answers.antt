use Rattle.std.proofs.Common.{◌≡◌, ◌∙◌, length, rules}
use Rattle.tdb_disk.specs.History.{seen}
use Rattle.tdb_cache.proofs.Tables.{piece_inside, copied_bytes}
use Rattle.tdb_cache.proofs.cached.Cached.read_piece.Goals as goal

pub copy_out-requires : goal.copy_out-requires
copy_out-requires g c =
    piece_inside c.args.self.now.blocks c.args.number c.args.within (length c.args.buf.now) (g.D.Disk.size c.args.self.now.inner)
    c.args.self.now.sized c.requires.range c.requires.one_block

pub returns-then-copy_out-clause-bytes : goal.returns-then-copy_out-clause-bytes
returns-then-copy_out-clause-bytes g c = λ told.
    copied_bytes c.args.self.now.blocks c.args.number c.args.within (length c.args.buf.now) (g.D.Disk.size c.args.self.now.inner)
    (seen (g.D.Disk.history c.args.self.now.inner)) c.copy_out.new.buf (search rules) c.copy_out.ensures.copied c.args.self.now.sized
    c.requires.range c.requires.one_block (c.args.self.now.shown told)

pub copy_out-requires-then-branch : goal.copy_out-requires-then-branch
copy_out-requires-then-branch g c =
    let same : length c.copy_out.new.buf ≡ length c.args.buf.now = c.copy_out.auto.buf in
    piece_inside c.fill.new.self.blocks c.args.number c.args.within (length c.copy_out.new.buf) (g.D.Disk.size c.fill.new.self.inner)
    c.fill.new.self.sized (rw same (search rules)) (rw same c.requires.one_block)

pub returns-then-branch-clause-bytes : goal.returns-then-branch-clause-bytes
returns-then-branch-clause-bytes g c = λ told.
    let same : length c.copy_out.new.buf ≡ length c.args.buf.now = c.copy_out.auto.buf in
    rw (← (c.fill.ensures.looked.history ∙ c.len.ensures.history), ← same)
    (copied_bytes c.fill.new.self.blocks c.args.number c.args.within (length c.copy_out.new.buf) (g.D.Disk.size c.fill.new.self.inner)
    (seen (g.D.Disk.history c.fill.new.self.inner)) c.copy_out-then-branch.new.buf (search rules) c.copy_out-then-branch.ensures.copied
    c.fill.new.self.sized (rw same (search rules)) (rw same c.requires.one_block) (c.fill.new.self.shown told))
