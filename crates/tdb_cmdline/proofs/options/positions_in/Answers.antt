-- The positions are the values of one row.
use Rattle.std.proofs.Common.{◌≡◌, rules, ap, ◌∙◌, [], Some, None, map, option_map, unwrap_or}
use Rattle.std.proofs.lemmas.Result.{IfOk-weaker}
use Rattle.clap.specs.Words.{found_of, matched_of, raw_values}
use Rattle.tdb_cmdline.specs.Clap.{positions_id}
use Rattle.tdb_cmdline.proofs.Clap.Matches.{raw_of}
use Rattle.tdb_cmdline.proofs.options.positions_in.Goals as goal

pub returns-in-Some : goal.returns-in-Some
returns-in-Some c =
    let raw : Some (map (λ v. v.now) c.in-Some.words.now) ≡ option_map raw_values (matched_of (found_of c.args.matches.now) positions_id) = search rules in
    IfOk-weaker c.copies.result _ _ (λ names are. are ∙ ap (λ o. unwrap_or o []) (raw ∙ raw_of (found_of c.args.matches.now) positions_id)) c.copies.ensures

pub returns-in-None : goal.returns-in-None
returns-in-None c =
    let raw : None ≡ option_map raw_values (matched_of (found_of c.args.matches.now) positions_id) = search rules in
    c.new.ensures ∙ ap (λ o. unwrap_or o []) (raw ∙ raw_of (found_of c.args.matches.now) positions_id)
