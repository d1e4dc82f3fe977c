-- The bytes that the entry covers are its old bytes, and the others stay.
use Rattle.std.proofs.Common.{◌≡◌, ◌-◌, length, take, drop, ◌∙◌, ap, inl, arith}
use Rattle.std.proofs.lemmas.List.{length-take, length-drop}
use Rattle.tdb_disk.specs.History.{seen}
use Rattle.tdb_undo.proofs.Taken.{not_covered, part_taken}
use Rattle.tdb_undo.proofs.testing.take_front.Goals as goal

pub returns-then-from-ge-FRONT_LEN-clause-front : goal.returns-then-from-ge-FRONT_LEN-clause-front
returns-then-from-ge-FRONT_LEN-clause-front g c told e off len olds i low = not_covered e i _ (inl (omega (arith, off, low, c.if-from-ge-FRONT_LEN.true)))

pub returns-clause-front : goal.returns-clause-front
returns-clause-front g c told e off len olds i low =
    let img = seen (g.D.Disk.history c.args.d.now) in
    let front = c.args.front.now in
    let n = c.min-to.result - c.args.off in
    let count : length (take n (drop c.args.off front)) ≡ n = omega (arith, length-take n (drop c.args.off front), length-drop c.args.off front, c.min-to.ensures, c.if-from-ge-FRONT_LEN.false) in
    part_taken e c.args.off c.args.len c.args.at img front c.read.new.buf i c.min-to.result off len olds c.min-to.ensures c.if-from-ge-FRONT_LEN.false low (omega arith)
    (c.in_ok-read.ensures.bytes told ∙ ap (λ m. take m (drop c.args.at img)) count) (c.read.auto.buf ∙ count)
