use Rattle.tdb_cmdline.proofs.Sizes.{number_found}
use Rattle.tdb_cmdline.proofs.words.seed_of.Goals as goal

pub returns : goal.returns
returns c = number_found 0 4294967295 c.args.word.now c.parsed_number.result c.parsed_number.ensures.read c.parsed_number.ensures.refused
