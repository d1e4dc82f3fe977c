use Rattle.std.proofs.Common.{◌∷◌, sym, ◌∙◌, ap}
use Rattle.tdb_cmdline.specs.Lines.Backup.{all_differ, all_names}
use Rattle.tdb_cmdline.proofs.BackupNames.{names_fit, verify_names_fit}
use Rattle.tdb_cmdline.proofs.lines.backup.asks_for.Goals as goal

-- the names were tried
pub returns-clause-fits : goal.returns-clause-fits
returns-clause-fits c =
    names_fit c.args.suffix c.in-Some.file c.in-Some.more
    ((λ j. all_differ (all_names (sym c.if-verify.false j) (sym c.as_str-2.ensures j) (sym c.as_str.ensures j ∷ sym c.as_slice.ensures j)))
    ∙ ap all_differ (sym c.in_ok-names.ensures ∙ sym c.as_slice-2.ensures) ∙ sym c.in_ok-all_differ.ensures ∙ c.if-not-branch.false)

pub returns-then-verify-clause-fits : goal.returns-then-verify-clause-fits
returns-then-verify-clause-fits c =
    verify_names_fit c.args.suffix c.in-Some.file c.in-Some.more
    ((λ j. all_differ (all_names (sym c.if-verify.true j) (sym c.as_str-2.ensures j) (sym c.as_str.ensures j ∷ sym c.as_slice.ensures j)))
    ∙ ap all_differ (sym c.in_ok-names.ensures ∙ sym c.as_slice-2.ensures) ∙ sym c.in_ok-all_differ.ensures ∙ c.if-not-branch.false)
