-- Each id gives the option of its row.
use Rattle.std.proofs.Common.{◌≡◌, suc, rules, ap, ◌∙◌, sym, ◌++◌, ◌∷◌, [], Some, None, append-nil, slice_get, drop}
use Rattle.clap.specs.Matches.{ids_left}
use Rattle.clap.specs.Words.{found_of, rows_of}
use Rattle.tdb_cmdline.specs.Clap.{option_of, options_in}
use Rattle.tdb_cmdline.proofs.Clap.Matches.{ids_of, row_step, no_row}
use Rattle.tdb_cmdline.proofs.options.options_in.Goals as goal

pub loop-id-init : goal.loop-id-init
loop-id-init c = (0, (let ids : ids_left c.into_iter-id-iterator.result ≡ ids_left c.ids-id-items.result = search rules in ids ∙ c.ids-id-items.ensures ∙ ids_of (found_of c.args.matches.now).entries.items), (search rules))

pub loop-id-preserved-in-Continue-branch-3 : goal.loop-id-preserved-in-Continue-branch-3
loop-id-preserved-in-Continue-branch-3 c =
    let i = c.loop-id.invariant in
    let first : Some c.in-Some.id.now ≡ slice_get (ids_left c.loop-id.id-iterator) 0 = search rules in
    let left : ids_left c.next.new.self ≡ drop 1 (ids_left c.loop-id.id-iterator) = search rules in
    let some : Some c.in-Some-2.option ≡ option_of c.args.command c.in-Some.id.now (rows_of (found_of c.args.matches.now)) = search rules in
    let pushed : c.push.new.self ≡ c.loop-id.options ++ c.in-Some-2.option ∷ [] = search rules in
    let step = row_step c.args.command (rows_of (found_of c.args.matches.now)) (search rules) i.0 c.in-Some.id.now c.loop-id.options (ids_left c.loop-id.id-iterator) (Some c.in-Some-2.option) i.1 first i.2 some in
    (suc i.0, left ∙ step.0, ap (λ os. os ++ options_in c.args.command (drop (suc i.0) (rows_of (found_of c.args.matches.now)))) pushed ∙ step.1)

pub loop-id-preserved : goal.loop-id-preserved
loop-id-preserved c =
    let i = c.loop-id.invariant in
    let first : Some c.in-Some.id.now ≡ slice_get (ids_left c.loop-id.id-iterator) 0 = search rules in
    let left : ids_left c.next.new.self ≡ drop 1 (ids_left c.loop-id.id-iterator) = search rules in
    let none : None ≡ option_of c.args.command c.in-Some.id.now (rows_of (found_of c.args.matches.now)) = search rules in
    let step = row_step c.args.command (rows_of (found_of c.args.matches.now)) (search rules) i.0 c.in-Some.id.now c.loop-id.options (ids_left c.loop-id.id-iterator) None i.1 first i.2 none in
    (suc i.0, left ∙ step.0, step.1)

pub returns : goal.returns
returns c =
    let i = c.loop-id.invariant in
    let none : None ≡ slice_get (ids_left c.loop-id.id-iterator) 0 = search rules in
    let rest = no_row (rows_of (found_of c.args.matches.now)) i.0 (none ∙ ap (λ ids. slice_get ids 0) i.1) in
    sym (append-nil c.loop-id.options) ∙ ap (λ rows. c.loop-id.options ++ options_in c.args.command rows) (sym rest) ∙ i.2
