-- The word behind the first 20 bytes of the record.
use Rattle.std.proofs.Common.{◌≡◌, ◌+◌, ◌-◌, ◌≤◌, length, ◌∙◌, ap, arith}
use Rattle.tdb_words.specs.Word.{word}
use Rattle.tdb_words.proofs.Words.{word_of_part}
use Rattle.tdb_rescue.proofs.window.Window.magic.Goals as goal

pub returns : goal.returns
returns c img shows =
    let w = c.args.self.now in
    let place = (c.args.at - w.from) + 20 in
    let there : w.from + place ≡ c.args.at + 20 = omega (arith, c.requires.front) in
    let inside : place + 4 ≤ length w.bytes.items = omega (arith, c.requires.front, c.requires.end) in
    c.word_in.ensures ∙ ap (λ b. word c.args.order b place) (c.deref.ensures.value ∙ shows) ∙ word_of_part c.args.order img w.from (length w.bytes.items) place inside ∙ ap (word c.args.order img) there
