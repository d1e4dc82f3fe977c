use Rattle.std.proofs.Common.{◌≡◌, ◌∷◌, ◌++◌, ◌+◌, drop, sym, ◌∙◌, ap, arith}
use Rattle.std.proofs.lemmas.List.{append_assoc, append-nil}
use Rattle.std.proofs.Math.ListN.{drop_of_length-le}
use Rattle.tdb_cmdline.specs.Lines.Backup.{names_of, all_names}
use Rattle.tdb_cmdline.proofs.Items.{rest_of}
use Rattle.tdb_cmdline.proofs.lines.backup.all_names.Goals as goal

pub loop-name-preserved : goal.loop-name-preserved
loop-name-preserved c =
    let suffix = c.args.suffix.now in
    let verify = c.args.verify in
    let xs = c.args.more.now in
    let i = c.loop-name.name-index in
    let x = c.name-item.result in
    let rest = all_names verify suffix (drop (i + 1) xs) in
    let eq : drop i xs ≡ x ∷ drop (i + 1) xs = rest_of xs i x (omega (arith, c.loop-name-test.true)) c.name-item.is in
    let pushed : c.push_names-in-loop-name.new.names ≡ c.loop-name.names ++ names_of verify suffix x = c.in_ok-push_names-2.ensures ∙ ap (λ n. c.loop-name.names ++ names_of verify suffix n) c.as_str.ensures in
    ap (λ ns. ns ++ rest) pushed ∙ append_assoc c.loop-name.names (names_of verify suffix x) rest ∙ sym (ap (λ fs. c.loop-name.names ++ all_names verify suffix fs) eq) ∙ c.loop-name.invariant

pub returns : goal.returns
returns c =
    let suffix = c.args.suffix.now in
    let verify = c.args.verify in
    let xs = c.args.more.now in
    sym (append-nil c.loop-name.names) ∙ sym (ap (λ fs. c.loop-name.names ++ all_names verify suffix fs) (drop_of_length-le xs (omega (arith, c.loop-name-test.false)))) ∙ c.loop-name.invariant
