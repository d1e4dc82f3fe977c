use Rattle.std.proofs.Common.{string_bytes}
use Rattle.tdb_cmdline.proofs.ask.Ask.of_dump.Goals as goal

-- what is asked for fits whatever file it is on
pub returns-clause-fits : goal.returns-clause-fits
returns-clause-fits c = let fits = rw c.in-Some.is at c.in_ok-task.ensures.fits in fits (string_bytes c.in_ok-file.file)
