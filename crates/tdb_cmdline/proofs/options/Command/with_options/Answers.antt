-- Each argument that is added is one option of the command more.
use Rattle.std.proofs.Common.{◌≡◌, rules, ap, ap₂, sym, ◌∙◌, codes}
use Rattle.std.proofs.lemmas.Result.{IfOk-weaker}
use Rattle.clap.specs.Words.{app_of, rule_of, with_rule}
use Rattle.tdb_cmdline.specs.declared.options.Kind.TheVariants.{Valued, Flag}
use Rattle.tdb_cmdline.specs.Clap.{told_option, with_told}
use Rattle.tdb_cmdline.specs.Options.{options_of}
use Rattle.tdb_cmdline.proofs.options.Command.with_options.Goals as goal

pub returns-in_ok-arg-in-Convert-2 : goal.returns-in_ok-arg-in-Convert-2
returns-in_ok-arg-in-Convert-2 c =
    let limit : rule_of c.long-in-Convert.result ≡ told_option (codes "--limit", Valued) = search rules in
    let prefix : rule_of c.long-in-Convert-2.result ≡ told_option (codes "--prefix", Valued) = search rules in
    let into : rule_of c.long-in-Convert-3.result ≡ told_option (codes "--into", Flag) = search rules in
    let first = c.in_ok-arg-in-Convert.ensures.shape (search rules) ∙ ap (with_rule (app_of c.args.bare)) limit in
    let second = c.in_ok-arg-in-Convert-2.ensures.shape (search rules) ∙ ap₂ with_rule first prefix in
    IfOk-weaker c.arg-in-Convert-3.result _ _ (λ r added. added.shape (search rules) ∙ ap₂ with_rule second into ∙ ap (λ s. with_told (app_of c.args.bare) (options_of s)) (sym c.in-Convert.is)) c.arg-in-Convert-3.ensures

pub returns-in_ok-arg-in-Turns-3 : goal.returns-in_ok-arg-in-Turns-3
returns-in_ok-arg-in-Turns-3 c =
    let limit : rule_of c.long-in-Turns.result ≡ told_option (codes "--limit", Valued) = search rules in
    let no_nesting : rule_of c.long-in-Turns-2.result ≡ told_option (codes "--no-nesting", Flag) = search rules in
    let read_only : rule_of c.long-in-Turns-3.result ≡ told_option (codes "--read-only", Flag) = search rules in
    let seqnum : rule_of c.long-in-Turns-4.result ≡ told_option (codes "--seqnum", Flag) = search rules in
    let first = c.in_ok-arg-in-Turns.ensures.shape (search rules) ∙ ap (with_rule (app_of c.args.bare)) limit in
    let second = c.in_ok-arg-in-Turns-2.ensures.shape (search rules) ∙ ap₂ with_rule first no_nesting in
    let third = c.in_ok-arg-in-Turns-3.ensures.shape (search rules) ∙ ap₂ with_rule second read_only in
    IfOk-weaker c.arg-in-Turns-4.result _ _ (λ r added. added.shape (search rules) ∙ ap₂ with_rule third seqnum ∙ ap (λ s. with_told (app_of c.args.bare) (options_of s)) (sym c.in-Turns.is)) c.arg-in-Turns-4.ensures
