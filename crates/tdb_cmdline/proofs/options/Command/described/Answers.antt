-- `clap` was told of the command's options and of positions.
use Rattle.std.proofs.Common.{◌≡◌, rules, ap, ap₂, ◌∙◌, true}
use Rattle.std.proofs.lemmas.Result.{IfOk-weaker}
use Rattle.clap.specs.Words.{app_of, rule_of, with_rule}
use Rattle.clap.specs.Simple.{app_of_fields, on_top}
use Rattle.tdb_cmdline.specs.Options.{options_of}
use Rattle.tdb_cmdline.specs.Clap.{bare_app, told_positions, with_told}
use Rattle.tdb_cmdline.proofs.options.Command.described.Goals as goal

pub returns : goal.returns
returns c =
    let bare : app_of c.disable_help_flag-bare.result ≡ bare_app =
    ap app_of_fields c.disable_help_flag-bare.ensures
    ∙ ap (λ f. app_of_fields (record f { disable_help_flag = true })) c.no_binary_name.ensures
    ∙ ap (on_top (λ s. record s { no_binary_name = true; disable_help_flag = true })) c.new.ensures.app in
    let positions : rule_of c.action.result ≡ told_positions = search rules in
    let options = c.in_ok-command.ensures ∙ ap (λ a. with_told a (options_of c.args.self)) bare in
    IfOk-weaker c.arg.result _ _ (λ r added. added.shape (search rules) ∙ ap₂ with_rule options positions) c.arg.ensures
