-- One byte more was compared.
use Rattle.std.proofs.Common.{◌≡◌, ◌+◌, ◌∙◌, length, sym, subst, ap, arith}
use Rattle.std.proofs.lemmas.Bool.{MatchBool-at_true, MatchBool-at_false}
use Rattle.tdb_txn.specs.Found.{FoundSoFar, InPlace, Counts}
use Rattle.tdb_txn.specs.declared.found.Found.{Found}
use Rattle.tdb_txn.proofs.Gathered.{found_skip}
use Rattle.tdb_txn.proofs.Compared.{changed_here, not_counted, not_differing}
use Rattle.tdb_txn.proofs.comparing.scan_bytes.Goals.{then-page-k+then-counts, else-page-k, else-page-k-via-then-page-k+else-counts, else-page-k-via-else-page-k}
use Rattle.tdb_txn.proofs.comparing.scan_bytes.Goals as goal

pub loop-k-preserved : goal.loop-k-preserved
loop-k-preserved c =
    let was = c.loop-k.invariant in
    let first = c.args.found.now.next in
    let at = c.loop-k.found.next in
    let k = c.loop-k.k in
    elim c.if-page-k.branch [
      | then-page-k+then-counts w ↦ record {
        place = subst InPlace (sym w.found-is) w.add.ensures.place;
        next = omega (arith, ap (λ (f : Found). f.next) w.found-is, w.add.ensures.next, was.next);
        found = λ a b old low file page so_far.
            subst (FoundSoFar a b old c.args.skip) (sym w.found-is)
            (w.add.ensures.found a b old c.args.skip
            (changed_here c.args.file.now c.args.page.now a b old c.args.skip first k at (length c.args.file.now) was.next c.loop-k-test.true low file page
            (MatchBool-at_true _ _ w.if-counts.true w.counts.ensures) w.if-page-k.true)
            (was.found a b old low file page so_far));
      }
      | else-page-k w ↦ record {
        place = subst InPlace (sym w.found-is) (record { done = was.place.done; ends = was.place.ends; below = omega (arith, was.place.below) });
        next = omega (arith, ap (λ (f : Found). f.next) w.found-is, was.next);
        found = λ a b old low file page so_far.
            subst (FoundSoFar a b old c.args.skip) (sym w.found-is)
            (found_skip a b old c.args.skip c.loop-k.found (at + 1) (omega arith)
            (λ i from to here. (let same : i ≡ at = omega (arith, from, to) in
            elim w.else-page-k.branch [
              | else-page-k-via-then-page-k+else-counts v ↦
                  not_counted a b old c.args.skip i (subst (λ n. Counts c.args.skip n → ⊥) (sym same) (MatchBool-at_false _ _ v.if-counts.false v.counts.ensures)) here
              | else-page-k-via-else-page-k v ↦
                  not_differing c.args.file.now c.args.page.now a b old c.args.skip first k i (length c.args.file.now) (same ∙ was.next) c.loop-k-test.true file page v.if-page-k.false here
            ])) (was.found a b old low file page so_far));
      }
    ]
