-- The record was taken out and given to the free list; or a call failed before that, or in its midst.
use Rattle.std.proofs.Common.{◌<◌, arith, rules}
use Rattle.std.specs.Prelude.{◌^◌}
use Rattle.tdb_free.proofs.Results.{on_err}
use Rattle.tdb_edit.proofs.Freeing.{taken_out, freed, half_freed, half_taken_out}
use Rattle.tdb_edit.proofs.deleting.free.Goals as goal

pub returns-in_err-hand-clause-broken : goal.returns-in_err-hand-clause-broken
returns-in_err-hand-clause-broken g c = on_err c.from_residual.result (λ told small A key at.
    half_taken_out (g.S.Space.form c.args.s.now) (g.S.Space.image c.args.s.now) (g.S.Space.image c.unlink.new.s) key c.args.place A at
    (search rules) (omega (arith, c.requires.within.led, g.met.S.Space.told_size c.args.s.now told)) (c.in_err-hand.ensures.written told))

pub returns-in-Ok-clause-freed : goal.returns-in-Ok-clause-freed
returns-in-Ok-clause-freed g c told small A key at =
    let shorter : g.S.Space.size c.unlink.new.s < 2 ^ 32 = omega (arith, c.in_ok-hand.ensures.size, small) in
    let f = g.S.Space.form c.args.s.now in
    let a = g.S.Space.image c.args.s.now in
    let m = g.S.Space.image c.unlink.new.s in
    freed f (g.S.Space.form c.unlink.new.s) a m (g.S.Space.image c.give.new.s) key c.args.place c.in_ok-hand.hand c.in_ok-hand.ensures.wrote.form
    (taken_out f a m key c.args.place c.in_ok-hand.hand A at (c.in_ok-hand.ensures.removed told))
    (omega (arith, g.met.S.Space.told_size c.unlink.new.s told, shorter)) (c.in-Ok.ensures.kept told shorter) (c.give.ensures.only told)

pub returns-in-Err-clause-broken : goal.returns-in-Err-clause-broken
returns-in-Err-clause-broken g c told small A key at =
    let shorter : g.S.Space.size c.unlink.new.s < 2 ^ 32 = omega (arith, c.in_ok-hand.ensures.size, small) in
    let f = g.S.Space.form c.args.s.now in
    let a = g.S.Space.image c.args.s.now in
    let m = g.S.Space.image c.unlink.new.s in
    half_freed f (g.S.Space.form c.unlink.new.s) a m (g.S.Space.image c.give.new.s) key c.args.place c.in_ok-hand.hand c.in_ok-hand.ensures.wrote.form
    (taken_out f a m key c.args.place c.in_ok-hand.hand A at (c.in_ok-hand.ensures.removed told))
    (omega (arith, g.met.S.Space.told_size c.unlink.new.s told, shorter)) (c.in-Err.ensures.stopped_kept told shorter) (c.give.ensures.only told)
