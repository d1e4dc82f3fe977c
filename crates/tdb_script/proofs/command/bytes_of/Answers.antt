use Rattle.tdb_dump.proofs.GrammarLemmas.{no_word}
use Rattle.tdb_script.proofs.command.bytes_of.Goals as goal

-- a word with a bad escape has no reading
pub returns-in-Err-BadEscape-clause-refused : goal.returns-in-Err-BadEscape-clause-refused
returns-in-Err-BadEscape-clause-refused c is key =
    let at = c.in-Err-BadEscape.field-0-0 in
    no_word c.args.word.now key at (c.in-Err-BadEscape.ensures.refused at c.in-Err-BadEscape.field-0-is)
