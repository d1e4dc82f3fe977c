use Rattle.std.proofs.Common.{◌≡◌, cond, true, ℕ, List, ◌∙◌, ap, subst}
use Rattle.std.specs.Prelude.{not}
use Rattle.std.specs.BTreeSet.{contains}
use Rattle.std.specs.BTreeMap.{is_at}
use Rattle.std.specs.Ordering.{nat_cmp}
use Rattle.std.specs.Cmp.Lexicographic.{slice_cmp}
use Rattle.tdb_cmdline.proofs.BackupNames.{has_more}
use Rattle.tdb_cmdline.proofs.lines.backup.see.Goals as goal

pub returns : goal.returns
returns c before has =
    let old = c.args.seen.now in
    let key : c.in_ok-key.key ≡ c.args.name.now = c.in_ok-key.ensures ∙ c.as_bytes.ensures.value in
    let updates = subst (λ (k : List ℕ). (q : List ℕ) → contains (slice_cmp nat_cmp) c.insert.new.self q ≡ cond (is_at (slice_cmp nat_cmp k) q) true (contains (slice_cmp nat_cmp) old q)) key c.in_ok-new.ensures.updates.0 in
    (c.in_ok-new.ensures.added ∙ ap not (ap (contains (slice_cmp nat_cmp) old) key ∙ has c.args.name.now), has_more old c.insert.new.self before c.args.name.now updates has)
