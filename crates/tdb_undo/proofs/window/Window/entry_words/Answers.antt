-- Both words are those of the image.
use Rattle.std.proofs.Common.{◌+◌, ◌-◌, ◌∙◌, arith}
use Rattle.tdb_undo.proofs.Stretch.{word_held}
use Rattle.tdb_undo.proofs.window.Window.entry_words.Goals as goal

pub returns-clause-words : goal.returns-clause-words
returns-clause-words g c told img same held =
    let w = c.reach.new.self in
    let holds = c.in_ok-reach.ensures.holds told img same held in
    let low = c.in_ok-reach.ensures.reached in (
      c.word_in.ensures ∙ word_held c.args.order w img c.args.at (c.args.at - w.from) holds (omega (arith, low.0)) (omega (arith, low.0, low.1)),
      c.word_in-2.ensures ∙ word_held c.args.order w img (c.args.at + 4) (c.args.at - w.from + 4) holds (omega (arith, low.0)) (omega (arith, low.0, low.1)),
    )
