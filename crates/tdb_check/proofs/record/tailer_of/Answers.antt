-- The tailer stands in the window, or is read.
use Rattle.std.proofs.Common.{◌≡◌, ◌+◌, ℕ, take, drop, ◌∙◌, ap, arith}
use Rattle.tdb_words.specs.Word.{word}
use Rattle.tdb_words.proofs.Words.{word_of_part}
use Rattle.tdb_check.proofs.Windows.{window_word}
use Rattle.tdb_check.proofs.record.tailer_of.Goals as goal

pub returns-then-place-window-clause-value : goal.returns-then-place-window-clause-value
returns-then-place-window-clause-value g c told shows =
    let img = g.S.Space.image c.args.s.now in
    let o = (g.S.Space.form c.args.s.now).order in
    let place : ℕ = c.args.rec_len + 20 in
    let there : c.args.at + (c.args.rec_len + 20) ≡ c.args.at + 20 + c.args.rec_len = omega arith in
    c.word_at.ensures ∙ (λ j. word (c.order.ensures j) (c.copy_from_slice.ensures.after j) 0) ∙ window_word o img c.args.window.now c.args.at (c.args.rec_len + 20) c.if-place-window.true shows ∙ ap (word o img) there

pub returns-clause-value : goal.returns-clause-value
returns-clause-value g c told shows =
    let img = g.S.Space.image c.args.s.now in
    let o = (g.S.Space.form c.args.s.now).order in
    let order : c.order-2.result ≡ o = c.order-2.ensures ∙ ap (λ f. f.order) c.read.ensures.form in
    let bytes : c.read.new.buf ≡ take 4 (drop (c.args.at + 20 + c.args.rec_len) img) = c.in_ok-read.ensures.bytes told in
    let there : c.args.at + 20 + c.args.rec_len + 0 ≡ c.args.at + 20 + c.args.rec_len = omega arith in
    c.word_at-2.ensures ∙ (λ j. word (order j) (bytes j) 0) ∙ word_of_part o img (c.args.at + 20 + c.args.rec_len) 4 0 (omega arith) ∙ ap (word o img) there
