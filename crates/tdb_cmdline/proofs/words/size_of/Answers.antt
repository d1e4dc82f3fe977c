use Rattle.tdb_cmdline.specs.declared.limits.TheConstants.{MOST_CHAINS}
use Rattle.tdb_cmdline.proofs.Sizes.{number_found}
use Rattle.tdb_cmdline.proofs.words.size_of.Goals as goal

pub returns : goal.returns
returns c = number_found 1 MOST_CHAINS c.args.word.now c.parsed_number.result c.parsed_number.ensures.read c.parsed_number.ensures.refused
