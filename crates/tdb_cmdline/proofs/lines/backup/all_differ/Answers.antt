use Rattle.std.proofs.Common.{◌≡◌, ◌∷◌, ◌+◌, [], drop, sym, ◌∙◌, ap, subst, arith}
use Rattle.std.specs.Prelude.{not}
use Rattle.std.proofs.Math.ListN.{drop_of_length-le}
use Rattle.tdb_cmdline.specs.Lines.Backup.{is_one_of, HasNames}
use Rattle.tdb_cmdline.proofs.BackupNames.{all_new, has_none, differ_new, seen_before, seen_rest}
use Rattle.tdb_cmdline.proofs.Items.{rest_of}
use Rattle.tdb_cmdline.proofs.lines.backup.all_differ.Goals as goal

pub loop-name-init : goal.loop-name-init
loop-name-init c = ([], has_none c.new-seen.result c.new-seen.ensures.empty, differ_new c.args.names.now)

-- a name was seen before
pub returns-then-not-is_new : goal.returns-then-not-is_new
returns-then-not-is_new c =
    let xs = c.args.names.now in
    let i = c.loop-name.name-index in
    let x = c.name-item.result in
    let before = c.loop-name.invariant.0 in
    let eq : drop i xs ≡ x ∷ drop (i + 1) xs = rest_of xs i x (omega (arith, c.loop-name-test.true)) c.name-item.is in
    let see = c.in_ok-is_new.ensures before c.loop-name.invariant.1 in
    let told : c.in_ok-is_new.is_new ≡ not (is_one_of x before) = subst (λ n. c.in_ok-is_new.is_new ≡ not (is_one_of n before)) c.as_str.ensures see.0 in
    seen_before before x (drop (i + 1) xs) c.in_ok-is_new.is_new told c.if-not-is_new.true ∙ sym (ap (all_new before) eq) ∙ sym c.loop-name.invariant.2

-- it is one more
pub loop-name-preserved : goal.loop-name-preserved
loop-name-preserved c =
    let xs = c.args.names.now in
    let i = c.loop-name.name-index in
    let x = c.name-item.result in
    let before = c.loop-name.invariant.0 in
    let eq : drop i xs ≡ x ∷ drop (i + 1) xs = rest_of xs i x (omega (arith, c.loop-name-test.true)) c.name-item.is in
    let see = c.in_ok-is_new.ensures before c.loop-name.invariant.1 in
    let told : c.in_ok-is_new.is_new ≡ not (is_one_of x before) = subst (λ n. c.in_ok-is_new.is_new ≡ not (is_one_of n before)) c.as_str.ensures see.0 in (
      x ∷ before,
      subst (λ n. HasNames c.see.new.seen (n ∷ before)) c.as_str.ensures see.1,
      c.loop-name.invariant.2 ∙ ap (all_new before) eq ∙ seen_rest before x (drop (i + 1) xs) c.in_ok-is_new.is_new told c.if-not-is_new.false,
    )

-- all are new
pub returns : goal.returns
returns c =
    let xs = c.args.names.now in
    sym (c.loop-name.invariant.2 ∙ ap (all_new c.loop-name.invariant.0) (drop_of_length-le xs (omega (arith, c.loop-name-test.false))))
