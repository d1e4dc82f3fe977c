-- The header that was read is the image's.
use Rattle.std.proofs.Common.{◌≡◌, ◌∙◌, ap, take, drop, arith}
use Rattle.tdb_words.specs.Record.{rec_at}
use Rattle.tdb_words.proofs.Words.{rec_of_part}
use Rattle.tdb_space.proofs.reads.read_rec.Goals as goal

pub returns-clause-header : goal.returns-clause-header
returns-clause-header g c told =
    let img = g.S.Space.image c.args.s.now in
    let bytes : c.read.new.buf ≡ take 24 (drop c.args.off img) = c.in_ok-read.ensures.bytes told in
    let order : c.order.result ≡ (g.S.Space.form c.args.s.now).order = c.order.ensures ∙ ap (λ f. f.order) c.read.ensures.form in
    c.rec_of.ensures.header ∙ (λ j. rec_at (order j) (bytes j) 0) ∙ rec_of_part (g.S.Space.form c.args.s.now).order img c.args.off 24 (omega arith)
