-- The words of the first 24 bytes of the record.
use Rattle.std.proofs.Common.{◌≡◌, ◌+◌, ◌-◌, ◌≤◌, length, take, drop, ◌∙◌, ap, arith}
use Rattle.tdb_words.specs.Record.{rec_at}
use Rattle.tdb_words.proofs.Words.{rec_of_part}
use Rattle.tdb_rescue.proofs.Bytes.{held_part}
use Rattle.tdb_rescue.proofs.window.Window.header.Goals as goal

pub returns : goal.returns
returns c img shows =
    let w = c.args.self.now in
    let start = c.args.at - w.from in
    let long : (start + 24) - start ≡ 24 = omega arith in
    let inside : start + 24 ≤ length w.bytes.items = omega (arith, c.requires.front, c.requires.end) in
    let there : w.from + start ≡ c.args.at = omega (arith, c.requires.front) in
    let bytes : take ((start + 24) - start) (drop start c.deref.result.now) ≡ take 24 (drop c.args.at img) =
    (λ j. take (long j) (drop start (c.deref.ensures.value j))) ∙ held_part img w.bytes.items w.from start 24 inside shows ∙ ap (λ n. take 24 (drop n img)) there in
    c.rec_in.ensures ∙ ap (λ b. rec_at c.args.order b 0) bytes ∙ rec_of_part c.args.order img c.args.at 24 (omega arith)
