use Rattle.tdb_dump.proofs.GrammarLemmas.{no_word}
use Rattle.tdb_tool.proofs.order.word_bytes.Goals as goal

-- a word with a bad escape has no reading
pub returns-in-Err-BadEscape : goal.returns-in-Err-BadEscape
returns-in-Err-BadEscape c bytes =
    let at = c.in-Err-BadEscape.field-0-0 in
    no_word c.args.word.now bytes at (c.in-Err-BadEscape.ensures.refused at c.in-Err-BadEscape.field-0-is)
