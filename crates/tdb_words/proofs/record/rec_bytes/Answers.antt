use Rattle.std.proofs.Common.{ap, sym, ◌∙◌, rules}
use Rattle.tdb_words.specs.Word.{word}
use Rattle.tdb_words.specs.Record.{rec_at}
use Rattle.tdb_words.proofs.Words.{rec_made}
use Rattle.tdb_words.proofs.record.rec_bytes.Goals as goal

pub returns-clause-read_back : goal.returns-clause-read_back
returns-clause-read_back c =
    let o = c.args.o in
    ap (λ b. rec_at o b 0) (search rules) ∙ rec_made o c.args.r.now
    (ap (λ b. word o b 0) (sym c.word_bytes.ensures.bytes) ∙ c.word_bytes.ensures.read_back)
    (ap (λ b. word o b 0) (sym c.word_bytes-2.ensures.bytes) ∙ c.word_bytes-2.ensures.read_back)
    (ap (λ b. word o b 0) (sym c.word_bytes-3.ensures.bytes) ∙ c.word_bytes-3.ensures.read_back)
    (ap (λ b. word o b 0) (sym c.word_bytes-4.ensures.bytes) ∙ c.word_bytes-4.ensures.read_back)
    (ap (λ b. word o b 0) (sym c.word_bytes-5.ensures.bytes) ∙ c.word_bytes-5.ensures.read_back)
    (ap (λ b. word o b 0) (sym c.word_bytes-6.ensures.bytes) ∙ c.word_bytes-6.ensures.read_back)
