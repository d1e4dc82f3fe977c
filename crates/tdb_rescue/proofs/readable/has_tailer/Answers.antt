-- The four bytes that were read make the word.
use Rattle.std.proofs.Common.{◌≡◌, ◌+◌, ◌==◌, take, drop, ◌∙◌, ap, arith}
use Rattle.tdb_words.specs.Word.{word}
use Rattle.tdb_words.proofs.Words.{word_of_part}
use Rattle.tdb_rescue.proofs.readable.has_tailer.Goals as goal

pub returns-clause-same : goal.returns-clause-same
returns-clause-same g c told shows =
    let img = g.S.Space.image c.args.s.now in
    let o = (g.S.Space.form c.args.s.now).order in
    let place = c.args.at + 20 + c.args.rec_len in
    let order : c.order.result ≡ o = c.order.ensures ∙ ap (λ f. f.order) c.read.ensures.looked.form in
    let bytes : c.read.new.buf ≡ take 4 (drop place img) = c.in_ok-read.ensures.bytes told shows in
    let there : place + 0 ≡ place = omega arith in
    let tailer : c.word_at.result ≡ word o img place = c.word_at.ensures ∙ (λ j. word (order j) (bytes j) 0) ∙ word_of_part o img place 4 0 (omega arith) ∙ ap (word o img) there in
    ap (λ w. w == 24 + c.args.rec_len) tailer
