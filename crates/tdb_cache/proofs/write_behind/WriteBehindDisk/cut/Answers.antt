use Rattle.std.proofs.Common.{◌≡◌, ◌≤◌, length, arith}
use Rattle.tdb_disk.specs.History.{seen}
use Rattle.tdb_cache.proofs.Contents.{SameWritten-shorter}
use Rattle.tdb_cache.proofs.Kepts.{view_of-cut_done, view_of-cut_tried}
use Rattle.tdb_cache.proofs.Laids.{AllSized-none}
use Rattle.tdb_cache.proofs.write_behind.WriteBehindDisk.cut.Goals as goal

pub returns-clause-view : goal.returns-clause-view
returns-clause-view g c =
    let before = c.shorten.new.self in
    let done = view_of-cut_done c.cut.result before.kept (g.D.Disk.history before.inner) (g.D.Disk.history c.cut.new.self)
    (g.D.Disk.size before.inner) c.args.to (g.D.Disk.size c.cut.new.self) g.D.Disk.tells
    c.in_ok-shorten.ensures.none (omega (arith, c.requires, c.shorten.ensures.size)) c.cut.ensures.shortened c.cut.ensures.done in
    grind (arith, done, c.shorten.ensures.view)

pub returns-clause-tried : goal.returns-clause-tried
returns-clause-tried g c = λ told.
    let before = c.shorten.new.self in
    rw (← (c.shorten.ensures.view told))
    (view_of-cut_tried before.kept (g.D.Disk.history before.inner) (g.D.Disk.history c.cut.new.self)
    (g.D.Disk.size before.inner) c.args.to (g.D.Disk.size c.cut.new.self)
    c.in_ok-shorten.ensures.none (g.met.D.Disk.told_size before.inner told) (g.met.D.Disk.told_size c.cut.new.self told)
    (omega (arith, c.requires, c.shorten.ensures.size)) c.cut.ensures.tried)

pub invariant_of-self-clause-sized : goal.invariant_of-self-clause-sized
invariant_of-self-clause-sized g c = λ pending is.
    AllSized-none pending.blocks (g.D.Disk.size c.cut.new.self) (c.in_ok-shorten.ensures.none pending is)

pub invariant_of-self-clause-same : goal.invariant_of-self-clause-same
invariant_of-self-clause-same g c = λ told content is.
    SameWritten-shorter content (g.D.Disk.history c.shorten.new.self.inner) (g.D.Disk.history c.cut.new.self) c.args.to
    c.cut.ensures.tried (c.shorten.new.self.same told content is)
