-- The four bytes that were read make the word.
use Rattle.std.proofs.Common.{◌≡◌, ◌∙◌, ap, take, drop, add-zero, arith}
use Rattle.tdb_words.specs.Word.{word}
use Rattle.tdb_words.proofs.Words.{word_of_part}
use Rattle.tdb_space.proofs.reads.read_word.Goals as goal

pub returns-clause-value : goal.returns-clause-value
returns-clause-value g c told =
    let f = g.S.Space.form c.args.s.now in
    let img = g.S.Space.image c.args.s.now in
    let order : c.order.result ≡ f.order = c.order.ensures ∙ ap (λ x. x.order) c.read.ensures.form in
    let bytes : c.read.new.buf ≡ take 4 (drop c.args.off img) = c.in_ok-read.ensures.bytes told in
    c.word_at.ensures ∙ (λ j. word (order j) (bytes j) 0) ∙ word_of_part f.order img c.args.off 4 0 (omega arith) ∙ ap (word f.order img) (add-zero c.args.off)
