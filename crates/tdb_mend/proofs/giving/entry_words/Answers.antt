-- Two words of the bytes that were read.
use Rattle.std.proofs.Common.{◌≡◌, ◌+◌, take, drop, ◌∙◌, ap, arith}
use Rattle.tdb_words.specs.Word.{word}
use Rattle.tdb_words.proofs.Words.{word_of_part}
use Rattle.tdb_mend.proofs.giving.entry_words.Goals as goal

pub returns-clause-words : goal.returns-clause-words
returns-clause-words g c told =
    let f = g.S.Space.form c.args.s.now in
    let img = g.S.Space.image c.args.s.now in
    let place = c.args.place in
    let order : c.order-order.result ≡ f.order = c.order-order.ensures ∙ ap (λ x. x.order) c.read.ensures.form in
    let bytes : c.read.new.buf ≡ take 8 (drop place img) = c.in_ok-read.ensures.bytes told in (
      c.word_in.ensures ∙ (λ j. word (order j) (bytes j) 0) ∙ word_of_part f.order img place 8 0 (omega arith) ∙ ap (word f.order img) (let e : place + 0 ≡ place = omega arith in e),
      c.word_in-2.ensures ∙ (λ j. word (order j) (bytes j) 4) ∙ word_of_part f.order img place 8 4 (omega arith),
    )
