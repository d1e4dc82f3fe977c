use Rattle.std.proofs.Common.{◌≡◌, true, ◌∙◌, string_bytes, rules}
use Rattle.std.proofs.lemmas.Map.Text.{hash_set_updates_text}
use Rattle.tdb_files.specs.DirFiles.{name_is_taken}
use Rattle.tdb_files.proofs.Elsewhere.{same_elsewhere}
use Rattle.tdb_files.proofs.dir_files.DirFiles.mark.Goals as goal

pub returns-clause-others : goal.returns-clause-others
returns-clause-others c = λ other apart.
    let named : string_bytes c.in_ok-from_str.field-0 ≡ c.args.name.now = search rules in
    hash_set_updates_text (string_bytes c.in_ok-from_str.field-0) c.args.self.now.taken c.insert.new.self true c.in_ok-insert.ensures.updates other
    ∙ same_elsewhere (string_bytes c.in_ok-from_str.field-0) other true (name_is_taken c.args.self.now other) (λ same. apart (same ∙ named))
