use Rattle.tdb_cmdline.proofs.ShortWords.{word_short}
use Rattle.tdb_cmdline.proofs.WordReadings.{word_read, word_unread}
use Rattle.tdb_cmdline.proofs.words.bytes_of.Goals as goal

pub returns-in-Ok-clause-read : goal.returns-in-Ok-clause-read
returns-in-Ok-clause-read c = word_read c.args.word.now c.in-Ok.bytes c.in-Ok.ensures.read

pub returns-in-Ok-clause-short : goal.returns-in-Ok-clause-short
returns-in-Ok-clause-short c = word_short c.args.word.now c.in-Ok.bytes c.in-Ok.ensures.read

-- a word with a bad escape has no reading
pub returns-in-Err-BadEscape-clause-read : goal.returns-in-Err-BadEscape-clause-read
returns-in-Err-BadEscape-clause-read c =
    let at = c.in-Err-BadEscape.field-0-0 in
    word_unread c.args.word.now at (c.in-Err-BadEscape.ensures.refused at c.in-Err-BadEscape.field-0-is)
