-- Behind the run each name is free, whatever a person is shown.
use Rattle.std.proofs.Common.{◌∙◌}
use Rattle.tdb.proofs.run_logged.Goals as goal

pub finish-requires : goal.finish-requires
finish-requires g c name = c.with_progress-files-2.ensures.taken name ∙ c.run-status.ensures.given_back name
