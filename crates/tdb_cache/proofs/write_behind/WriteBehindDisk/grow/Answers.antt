use Rattle.std.proofs.Common.{◌≡◌, ◌∙◌, ◌≤◌, length, arith}
use Rattle.tdb_disk.specs.History.{seen}
use Rattle.tdb_cache.specs.WriteBehind.{behind_view}
use Rattle.tdb_cache.proofs.Contents.{SameWritten-grow}
use Rattle.tdb_cache.proofs.Kepts.{length-view_of, view_of-grow_done, view_of-grow_tried}
use Rattle.tdb_cache.proofs.Laids.{AllSized-none}
use Rattle.tdb_cache.proofs.write_behind.WriteBehindDisk.grow.Goals as goal

pub invariant_of-self-clause-same : goal.invariant_of-self-clause-same
invariant_of-self-clause-same g c = λ told content is.
    let before = c.lengthen.new.self in
    let image = seen (g.D.Disk.history before.inner) in
    let size : length image ≡ g.D.Disk.size before.inner = g.met.D.Disk.told_size before.inner told in
    SameWritten-grow content (behind_view before) (g.D.Disk.history before.inner) (g.D.Disk.history c.grow.new.self) c.args.to
    (c.in_ok-lengthen.ensures.longer content is)
    (length-view_of before.kept (g.D.Disk.size before.inner) image before.reaches size)
    (omega (arith, size, c.requires, c.lengthen.ensures.size)) c.grow.ensures.tried (before.same told content is)

pub returns-clause-view : goal.returns-clause-view
returns-clause-view g c =
    let before = c.lengthen.new.self in
    let done = view_of-grow_done c.grow.result before.kept (g.D.Disk.history before.inner) (g.D.Disk.history c.grow.new.self)
    (g.D.Disk.size before.inner) c.args.to (g.D.Disk.size c.grow.new.self) g.D.Disk.tells
    c.in_ok-lengthen.ensures.longer c.in_ok-lengthen.ensures.none before.reaches
    (g.met.D.Disk.told_size before.inner) (omega (arith, c.requires, c.lengthen.ensures.size)) c.grow.ensures.grown c.grow.ensures.done in
    grind (arith, done, c.lengthen.ensures.view)

pub returns-clause-tried : goal.returns-clause-tried
returns-clause-tried g c = λ told.
    let before = c.lengthen.new.self in
    rw (← (c.lengthen.ensures.view told))
    (view_of-grow_tried before.kept (g.D.Disk.history before.inner) (g.D.Disk.history c.grow.new.self)
    (g.D.Disk.size before.inner) c.args.to (g.D.Disk.size c.grow.new.self)
    c.in_ok-lengthen.ensures.longer c.in_ok-lengthen.ensures.none before.reaches
    (g.met.D.Disk.told_size before.inner told) (g.met.D.Disk.told_size c.grow.new.self told)
    (omega (arith, c.requires, c.lengthen.ensures.size)) c.grow.ensures.tried)

pub invariant_of-self-clause-sized : goal.invariant_of-self-clause-sized
invariant_of-self-clause-sized g c = λ pending is.
    AllSized-none pending.blocks (g.D.Disk.size c.grow.new.self) (c.in_ok-lengthen.ensures.none pending is)
