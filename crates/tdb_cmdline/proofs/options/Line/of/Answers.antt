-- The line is what the matches of `clap` show.
use Rattle.std.proofs.Common.{◌≡◌, rules, ap, subst, ◌∙◌, sym, Some, true, false, map, string_bytes, inl, inr}
use Rattle.std.proofs.lemmas.Bool.{and_parts}
use Rattle.clap.specs.Words.{app_of, found_of, kind_of, matches_of, rows_of}
use Rattle.clap.specs.Kinds.{IsAmong}
use Rattle.clap.specs.Faults.{fault_of, is_simple_and_free}
use Rattle.clap.specs.Simple.{is_simple}
use Rattle.tdb_cmdline.specs.Clap.{app_for, all_plain, options_in, positions_in}
use Rattle.tdb_cmdline.proofs.Clap.Rules.{is_simple_app}
use Rattle.tdb_cmdline.proofs.Clap.Lines.{no_line, line_shown}
use Rattle.tdb_cmdline.proofs.Clap.Refused.{line_refused}
use Rattle.tdb_cmdline.proofs.options.Line.of.Goals as goal

pub returns-then-not-all_plain : goal.returns-then-not-all_plain
returns-then-not-all_plain c =
    let bare : all_plain false (map string_bytes c.args.words.now) ≡ false = search rules in
    sym (line_refused c.args.command (map string_bytes c.args.words.now) bare)

pub options_in-requires : goal.options_in-requires
options_in-requires c =
    let words = map string_bytes c.args.words.now in
    let told : app_of c.in_ok-described.field-0 ≡ app_for c.args.command = search rules in
    let plain : all_plain false words ≡ true = search rules in
    let free = is_simple_app c.args.command in
    let none = sym (ap (λ a. fault_of a words) told) ∙ c.in-Ok.ensures.kinds (ap is_simple_and_free told ∙ free) in
    let rows = (c.in-Ok.ensures.matches (ap is_simple told ∙ (and_parts (is_simple (app_for c.args.command)) _ free).0)).0 ∙ ap (λ a. matches_of a words) told in
    (line_shown c.args.command words (rows_of (found_of c.in-Ok.matches)) plain none rows).0

pub returns : goal.returns
returns c =
    let words = map string_bytes c.args.words.now in
    let told : app_of c.in_ok-described.field-0 ≡ app_for c.args.command = search rules in
    let plain : all_plain false words ≡ true = search rules in
    let free = is_simple_app c.args.command in
    let none = sym (ap (λ a. fault_of a words) told) ∙ c.in-Ok.ensures.kinds (ap is_simple_and_free told ∙ free) in
    let rows = (c.in-Ok.ensures.matches (ap is_simple told ∙ (and_parts (is_simple (app_for c.args.command)) _ free).0)).0 ∙ ap (λ a. matches_of a words) told in
    let options : c.in_ok-options_in.field-0 ≡ options_in c.args.command (rows_of (found_of c.in-Ok.matches)) = search rules in
    let positions : c.in_ok-positions_in.field-0 ≡ positions_in (rows_of (found_of c.in-Ok.matches)) = search rules in
    (λ j. Some (record { options = options j; positions = positions j })) ∙ (line_shown c.args.command words (rows_of (found_of c.in-Ok.matches)) plain none rows).1

pub returns-in_default : goal.returns-in_default
returns-in_default c =
    let words = map string_bytes c.args.words.now in
    let told : app_of c.in_ok-described.field-0 ≡ app_for c.args.command = search rules in
    let plain : all_plain false words ≡ true = search rules in
    let failed = c.in-Err.ensures.kinds (ap is_simple_and_free told ∙ is_simple_app c.args.command) in
    elim failed [
      | inl memory ↦ absurd (c.in_default.not-OutOfMemory (c.kind.ensures ∙ memory))
      | inr among ↦ no_line c.args.command words (kind_of c.in-Err.error) plain (subst (λ a. IsAmong (kind_of c.in-Err.error) (fault_of a words)) told among)
    ]
