-- The transactions that are cancelled, and one more.
use Rattle.std.proofs.Common.{◌≡◌, ◌+◌, length, set, subst, sym, arith}
use Rattle.tdb_group.proofs.Each.{CancelledOne, CancelledUpTo, cancelled_all, cancelled_more, cancelled_none_yet, next_there}
use Rattle.tdb_group.proofs.group.cancel_each.Goals as goal

pub loop-at-init : goal.loop-at-init
loop-at-init g c = cancelled_none_yet g.D.Disk.tells c.args.worlds.now.items

pub cancel-own-requires : goal.cancel-own-requires
cancel-own-requires g c =
    let S = c.loop-at.invariant in
    let there = next_there c.loop-at.at (CancelledOne g.D.Disk.tells c.loop-at.answer) c.args.worlds.now.items c.loop-at.worlds.items c.index_mut.result.now S.files (omega arith) c.index_mut.ensures.value in
    record { unspent = c.requires.unspent c.loop-at.at c.index_mut.result.now there.0 }

pub loop-at-preserved : goal.loop-at-preserved
loop-at-preserved g c =
    let S = c.loop-at.invariant in
    let there = next_there c.loop-at.at (CancelledOne g.D.Disk.tells c.loop-at.answer) c.args.worlds.now.items c.loop-at.worlds.items c.index_mut.result.now S.files (omega arith) c.index_mut.ensures.value in
    subst (CancelledUpTo g.D.Disk.tells (c.loop-at.at + 1) c.args.worlds.now.items (set c.loop-at.worlds.items c.loop-at.at c.cancel-own.new.world)) (sym c.with_file-answer.ensures)
    (cancelled_more g.D.Disk.tells c.loop-at.at c.args.worlds.now.items c.loop-at.worlds.items c.index_mut.result.now c.cancel-own.new.world there.1 c.loop-at.answer c.cancel-own.result S c.cancel-own.ensures.cancelled c.cancel-own.ensures.ran)

pub returns : goal.returns
returns g c =
    let all : c.loop-at.at ≡ length c.args.worlds.now.items = omega arith in
    cancelled_all g.D.Disk.tells c.loop-at.at c.args.worlds.now.items c.loop-at.worlds.items c.loop-at.answer c.loop-at.invariant all
