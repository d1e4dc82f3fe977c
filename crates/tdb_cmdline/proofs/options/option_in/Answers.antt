-- The option of an id is that of its row.
use Rattle.std.proofs.Common.{◌≡◌, rules, ◌∙◌, sym, false, Some}
use Rattle.tdb_space.specs.Pairs.{same_key}
use Rattle.clap.specs.Words.{found_of, rows_of}
use Rattle.clap.specs.declared.parser.matches.ValueSource.TheVariants.{CommandLine}
use Rattle.tdb_cmdline.specs.Clap.{positions_id, value_of}
use Rattle.tdb_cmdline.proofs.Clap.Matches.{source_of, default_none, given_some}
use Rattle.tdb_cmdline.proofs.options.option_in.Goals as goal
use Rattle.tdb_cmdline.proofs.options.option_in.Goals.{in_default-via-in-Some+in_default, in_default-via-in_default}

pub returns-in_default : goal.returns-in_default
returns-in_default c = default_none c.args.command c.args.id.now (rows_of (found_of c.args.matches.now)) c.value_source.result (c.value_source.ensures ∙ source_of (found_of c.args.matches.now) c.args.id.now)
    (λ line. elim c.in_default.branch [
      | in_default-via-in-Some+in_default w ↦ (search rules)
      | in_default-via-in_default w ↦ (search rules)
    ])

pub returns : goal.returns
returns c =
    let rows = rows_of (found_of c.args.matches.now) in
    let line : c.value_source.result ≡ Some CommandLine = search rules in
    let other : same_key c.args.id.now positions_id ≡ false = search rules in
    let value : c.in_ok-value.value ≡ value_of c.args.command c.args.id.now rows = search rules in
    given_some c.args.command c.args.id.now rows c.in_ok-name.name c.in_ok-value.value (search rules) other (sym line ∙ (c.value_source.ensures ∙ source_of (found_of c.args.matches.now) c.args.id.now)) value
