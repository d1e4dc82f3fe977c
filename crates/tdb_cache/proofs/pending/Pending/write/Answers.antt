use Rattle.std.proofs.Common.{◌≡◌, ◌∙◌, ◌≤◌, ◌+◌, length, refl, inr, ap, arith}
use Rattle.tdb_disk.specs.History.{seen}
use Rattle.tdb_disk.specs.Image.{overlay}
use Rattle.tdb_cache.proofs.Laids.{laid-held, laid-tried, laid-written, tried_same}
use Rattle.tdb_cache.proofs.pending.Pending.write.Goals as goal

pub returns-then-holds-clause-view : goal.returns-then-holds-clause-view
returns-then-holds-clause-view g c = λ told.
    let image = seen (g.D.Disk.history c.gather.new.d) in
    let blocks = c.gather.new.self.blocks in
    let size : length image ≡ g.D.Disk.size c.gather.new.d = g.met.D.Disk.told_size c.gather.new.d told in
    laid-held blocks c.overwrite.new.self image c.args.bytes.now c.args.off (rw (size) c.gather.ensures.sized)
    (c.overwrite.ensures.sized (length image) (rw (size) c.gather.ensures.sized)) c.overwrite.ensures.same
    (omega (arith, size, c.gather.ensures.size, c.requires.range)) c.overwrite.ensures.shown (c.holds.ensures.0 c.if-holds.true)
    ∙ ap (λ view. overlay view c.args.off c.args.bytes.now) (c.gather.ensures.view told)

pub returns-then-holds-clause-tried : goal.returns-then-holds-clause-tried
returns-then-holds-clause-tried g c = λ told. inr (c.args.bytes.now, refl, returns-then-holds-clause-view g c told)

pub returns-in_err-write-clause-tried : goal.returns-in_err-write-clause-tried
returns-in_err-write-clause-tried g c = λ told.
    let before = g.D.Disk.history c.gather.new.d in
    let size : length (seen before) ≡ g.D.Disk.size c.gather.new.d = g.met.D.Disk.told_size c.gather.new.d told in
    tried_same c.args.off (length c.args.bytes.now) _ _ _ (c.gather.ensures.view told)
    (laid-tried c.gather.new.self.blocks before (g.D.Disk.history c.write.new.self) c.args.off (length c.args.bytes.now)
    (omega (arith, size, c.gather.ensures.size, c.requires.range)) c.write.ensures.tried)

pub returns-clause-view : goal.returns-clause-view
returns-clause-view g c = λ told.
    let image = seen (g.D.Disk.history c.gather.new.d) in
    let blocks = c.gather.new.self.blocks in
    let size : length image ≡ g.D.Disk.size c.gather.new.d = g.met.D.Disk.told_size c.gather.new.d told in
    rw (c.in_ok-write.ensures.done told)
    (laid-written blocks c.overwrite-2.new.self image c.args.bytes.now c.args.off (rw (size) c.gather.ensures.sized)
    (c.overwrite-2.ensures.sized (length image) (rw (size) c.gather.ensures.sized)) c.overwrite-2.ensures.same
    (omega (arith, size, c.gather.ensures.size, c.requires.range)) c.overwrite-2.ensures.shown
    ∙ ap (λ view. overlay view c.args.off c.args.bytes.now) (c.gather.ensures.view told))

pub returns-clause-tried : goal.returns-clause-tried
returns-clause-tried g c = λ told. inr (c.args.bytes.now, refl, returns-clause-view g c told)
