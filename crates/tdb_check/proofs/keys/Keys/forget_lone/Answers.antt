-- Those whose marks another may have.
use Rattle.std.proofs.Common.{◌≡◌, ◌≤◌, sym, ◌∙◌, subst, arith}
use Rattle.std.specs.List.{filter}
use Rattle.tdb_check.specs.Keys.{CountsMarks, is_alike}
use Rattle.tdb_check.specs.Reads.{key_bytes}
use Rattle.tdb_check.proofs.Alike.{kept_alike, keys_kept}
use Rattle.tdb_check.proofs.keys.Keys.forget_lone.Goals as goal

pub returns-clause-kept : goal.returns-clause-kept
returns-clause-kept c f img xs kept =
    let counts = c.in_ok-counts.counts.items in
    kept_alike f img xs counts c.args.self.now _ (omega (arith, c.in_ok-counts.ensures.long, c.places_for-places.ensures)) (subst (CountsMarks counts) c.deref.ensures.value c.in_ok-counts.ensures.counted)
    ((λ k. (c.swap.ensures.x_after k).items) ∙ c.in_ok-copy_alike.ensures ∙ (λ k. filter (is_alike (c.deref-3.ensures.value k)) (c.deref-2.ensures.value k))) kept

pub returns-clause-bytes : goal.returns-clause-bytes
returns-clause-bytes c =
    let counts = c.in_ok-counts.counts.items in
    let noted = c.args.self.now.noted.items in
    subst (λ es. key_bytes es ≤ key_bytes noted) (sym ((λ k. (c.swap.ensures.x_after k).items) ∙ c.in_ok-copy_alike.ensures ∙ (λ k. filter (is_alike (c.deref-3.ensures.value k)) (c.deref-2.ensures.value k)))) (keys_kept (is_alike counts) noted)
