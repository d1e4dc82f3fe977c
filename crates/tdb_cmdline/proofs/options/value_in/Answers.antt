-- The value of an option is the first one of its row.
use Rattle.std.proofs.Common.{◌≡◌, rules, ap, ◌∙◌, sym, Some}
use Rattle.clap.specs.Words.{found_of, rows_of, first_of}
use Rattle.clap.proofs.WalkLemmas.{first_value-rows}
use Rattle.tdb_cmdline.specs.declared.options.Kind.TheVariants.{Valued}
use Rattle.tdb_cmdline.specs.Options.{kind_of}
use Rattle.tdb_cmdline.specs.Clap.{value_given}
use Rattle.tdb_cmdline.proofs.options.value_in.Goals as goal

pub returns-in-Some-Valued : goal.returns-in-Some-Valued
returns-in-Some-Valued c =
    let known : kind_of c.args.command c.args.id.now ≡ Some Valued = search rules in
    let first = c.get_str.ensures ∙ first_value-rows (found_of c.args.matches.now) c.args.id.now in
    first ∙ ap (λ k. value_given k (first_of c.args.id.now (rows_of (found_of c.args.matches.now)))) (sym known)
