-- The bytes that were read are those of the word.
use Rattle.std.proofs.Common.{◌∙◌, add-zero, ap, arith}
use Rattle.tdb_disk.specs.History.{seen}
use Rattle.tdb_words.specs.Word.{word}
use Rattle.tdb_words.proofs.Words.{word_of_part}
use Rattle.tdb_txn.proofs.area_found.read_word.Goals as goal

pub returns-clause-word : goal.returns-clause-word
returns-clause-word g c told =
    let img = seen (g.D.Disk.history c.args.d.now) in
    c.word_at.ensures
    ∙ ap (λ b. word c.args.order b 0) (c.in_ok-read.ensures.bytes told)
    ∙ word_of_part c.args.order img c.args.off 4 0 (omega arith)
    ∙ ap (word c.args.order img) (add-zero c.args.off)
