use Rattle.std.proofs.Common.{rules, ◌≡◌, Err, sym, ap, ◌∙◌}
use Rattle.tdb_script.specs.declared.unread.Unread.TheVariants.{NoReading}
use Rattle.tdb_script.proofs.command.keyed.Goals as goal

-- a key without a reading
pub returns-in_err-key-clause-refused : goal.returns-in_err-key-clause-refused
returns-in_err-key-clause-refused c is command p =
    let same : c.from_residual.result ≡ Err c.in_err-key.field-0.0 = search rules in
    let both = sym same ∙ is in
    let none : c.in_err-key.field-0.0 ≡ NoReading = cc in
    c.in_err-key.ensures.refused (ap Err none) p.0 p.1
