use Rattle.tdb_open.specs.declared.limits.TheConstants.{LONGEST_FILE}
use Rattle.tdb_cmdline.proofs.Sizes.{number_found}
use Rattle.tdb_cmdline.proofs.words.limit_of.Goals as goal

pub returns-clause-read : goal.returns-clause-read
returns-clause-read c = number_found 696 LONGEST_FILE c.args.word.now c.parsed_number.result c.parsed_number.ensures.read c.parsed_number.ensures.refused
