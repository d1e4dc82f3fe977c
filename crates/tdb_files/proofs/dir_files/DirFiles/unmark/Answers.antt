use Rattle.std.proofs.Common.{false, ◌∙◌}
use Rattle.std.proofs.lemmas.Map.Text.{hash_set_updates_text}
use Rattle.tdb_files.specs.DirFiles.{name_is_taken}
use Rattle.tdb_files.proofs.Elsewhere.{same_elsewhere}
use Rattle.tdb_files.proofs.dir_files.DirFiles.unmark.Goals as goal

pub returns-clause-others : goal.returns-clause-others
returns-clause-others c = λ other apart.
    hash_set_updates_text c.args.name.now c.args.self.now.taken c.take.new.self false c.take.ensures.updates other
    ∙ same_elsewhere c.args.name.now other false (name_is_taken c.args.self.now other) apart
