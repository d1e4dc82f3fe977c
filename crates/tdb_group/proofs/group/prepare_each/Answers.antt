-- The files that are prepared, and one more, or one at which the call breaks off.
use Rattle.std.proofs.Common.{◌≡◌, Err, length, set, subst, sym, arith}
use Rattle.tdb_group.specs.Each.{PreparedEach}
use Rattle.tdb_group.proofs.Each.{PreparedOne, next_there, prepared_all, prepared_broken, prepared_more, prepared_none}
use Rattle.tdb_group.proofs.group.prepare_each.Goals as goal

pub loop-at-init : goal.loop-at-init
loop-at-init g c = prepared_none g.D.Disk.tells c.args.worlds.now.items (g.L.Logs.logs c.args.logs.now)

pub prepare-requires : goal.prepare-requires
prepare-requires g c =
    let S = c.loop-at.invariant in
    let there = next_there c.loop-at.at (PreparedOne g.D.Disk.tells) c.args.worlds.now.items c.loop-at.worlds.items c.index_mut.result.now S.files (omega arith) c.index_mut.ensures.value in
    record { unspent = c.requires.unspent c.loop-at.at c.index_mut.result.now there.0 }

pub returns-in-Err : goal.returns-in-Err
returns-in-Err g c =
    let S = c.loop-at.invariant in
    let there = next_there c.loop-at.at (PreparedOne g.D.Disk.tells) c.args.worlds.now.items c.loop-at.worlds.items c.index_mut.result.now S.files (omega arith) c.index_mut.ensures.value in
    subst
    (λ r. PreparedEach g.D.Disk.tells c.args.worlds.now.items (set c.loop-at.worlds.items c.loop-at.at c.prepare.new.world) (g.L.Logs.logs c.args.logs.now) (g.L.Logs.logs c.prepare.new.logs) (Err r)) (sym c.at.ensures)
    (prepared_broken g.D.Disk.tells c.loop-at.at c.args.worlds.now.items c.loop-at.worlds.items (g.L.Logs.logs c.args.logs.now) (g.L.Logs.logs c.loop-at.logs) (g.L.Logs.logs c.prepare.new.logs) S
    c.index_mut.result.now c.prepare.new.world there.1 c.in-Err.stop c.in-Err.ensures.ran c.in-Err.ensures.prepared c.in-Err.ensures.heard c.requires.unspent)

pub loop-at-preserved : goal.loop-at-preserved
loop-at-preserved g c =
    let S = c.loop-at.invariant in
    let there = next_there c.loop-at.at (PreparedOne g.D.Disk.tells) c.args.worlds.now.items c.loop-at.worlds.items c.index_mut.result.now S.files (omega arith) c.index_mut.ensures.value in
    prepared_more g.D.Disk.tells c.loop-at.at c.args.worlds.now.items c.loop-at.worlds.items (g.L.Logs.logs c.args.logs.now) (g.L.Logs.logs c.loop-at.logs) (g.L.Logs.logs c.prepare.new.logs) S
    c.index_mut.result.now c.prepare.new.world there.1 c.in_default.ensures.ran c.in_default.ensures.prepared c.in_default.ensures.heard

pub returns : goal.returns
returns g c =
    let all : c.loop-at.at ≡ length c.args.worlds.now.items = omega arith in
    prepared_all g.D.Disk.tells c.loop-at.at c.args.worlds.now.items c.loop-at.worlds.items (g.L.Logs.logs c.args.logs.now) (g.L.Logs.logs c.loop-at.logs) c.loop-at.invariant all
