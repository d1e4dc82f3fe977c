-- What is held is copied.
use Rattle.std.proofs.Common.{◌≡◌, ◌+◌, ◌-◌, ◌≤◌, length, take, drop, ◌∙◌, ap, arith}
use Rattle.tdb_rescue.proofs.Bytes.{held_part}
use Rattle.tdb_rescue.proofs.window.Window.read.Goals as goal

pub returns-clause-bytes : goal.returns-clause-bytes
returns-clause-bytes g c told shows =
    let img = g.S.Space.image c.args.s.now in
    let w = c.args.self.now in
    let n = length c.args.buf.now in
    let start = c.args.off - w.from in
    let held = c.holds.ensures c.if-not-holds.false in
    let long : (start + n) - start ≡ n = omega arith in
    let inside : start + n ≤ length w.bytes.items = omega (arith, held.front, held.end) in
    let there : w.from + start ≡ c.args.off = omega (arith, held.front) in
    c.copy_from_slice.ensures.after ∙ (λ j. take (long j) (drop start (c.deref.ensures.value j))) ∙ held_part img w.bytes.items w.from start n inside shows ∙ ap (λ m. take n (drop m img)) there
