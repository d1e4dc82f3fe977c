-- Where the marks rise, no key comes twice; where few are alike, the keys tell.
use Rattle.std.proofs.Common.{◌≡◌, Bool, true, false, IsTrue, length, refl, sym, ◌∙◌, subst, arith}
use Rattle.std.specs.Prelude.{not}
use Rattle.std.specs.List.Sorted.{IsNonDecreasingBy, IsPermutation}
use Rattle.std.proofs.lemmas.Bool.{MatchBool-at_false, false≢true}
use Rattle.std.proofs.lemmas.Result.{err_from_is_err_and}
use Rattle.tdb_words.specs.Hash.{h_jenkins}
use Rattle.tdb_check.specs.Keys.{mark_of, NotedDiffer, NoLargeGroup}
use Rattle.tdb_check.proofs.Notings.{differ_from, copied_apart, copied_noted, copied_twins}
use Rattle.tdb_check.proofs.Pairs.{few_pairs, key_bytes_shuffled}
use Rattle.tdb_check.proofs.Rising.{rose_within}
use Rattle.tdb_check.proofs.keys.Keys.differ.Goals as goal

pub returns-then-not-has_equal_marks-clause-differ : goal.returns-then-not-has_equal_marks-clause-differ
returns-then-not-has_equal_marks-clause-differ g c alone told long xs kept =
    let f = g.S.Space.form c.args.s.now in
    let img = g.S.Space.image c.args.s.now in
    let all = c.args.self.now.noted.items in
    let apart : NotedDiffer f img all =
    copied_apart h_jenkins f img all all c.sort_by_mark.new.sorted.items c.deref.result.now refl c.sort_by_mark.ensures.same c.deref.ensures.value c.sort_by_mark.ensures.ordered
    kept.all_noted (c.has_equal_marks.ensures.apart c.if-not-has_equal_marks.true) in
    differ_from f img xs (subst (NotedDiffer f img) kept.noted apart)

no_twins : (twins : Bool) → IsTrue (not twins) → twins ≡ false
no_twins true h = absurd (false≢true h)
no_twins false h = refl

pub returns-clause-differ : goal.returns-clause-differ
returns-clause-differ g c alone told long xs kept =
    let f = g.S.Space.form c.args.s.now in
    let img = g.S.Space.image c.args.s.now in
    let all = c.args.self.now.noted.items in
    let sorted = c.sort_by_mark.new.sorted.items in
    let seen = c.deref-3.result.now in
    let found =
    copied_twins f img all all sorted seen c.in_ok-twins.twins refl c.sort_by_mark.ensures.same c.deref-3.ensures.value
    (c.in_ok-twins.ensures.twins told long h_jenkins (copied_noted h_jenkins f img all all sorted seen refl c.sort_by_mark.ensures.same c.deref-3.ensures.value kept.all_noted)) in
    let apart : NotedDiffer f img all = MatchBool-at_false _ _ (no_twins c.in_ok-twins.twins alone) found in
    differ_from f img xs (subst (NotedDiffer f img) kept.noted apart)

pub returns-in_err-twins-clause-bytes_read : goal.returns-in_err-twins-clause-bytes_read
returns-in_err-twins-clause-bytes_read g c =
    let all = c.args.self.now.noted.items in
    let sorted = c.sort_by_mark.new.sorted.items in
    let seen = c.deref-3.result.now in
    let ordered : IsNonDecreasingBy mark_of seen = subst (IsNonDecreasingBy mark_of) (sym c.deref-3.ensures.value) c.sort_by_mark.ensures.ordered in
    let few : NoLargeGroup seen (length seen) = subst (λ es. NoLargeGroup es (length es)) (c.deref-2.ensures.value ∙ sym c.deref-3.ensures.value) (c.has_large_group.ensures.small c.if-has_large_group.false) in
    let same : IsPermutation all seen = subst (IsPermutation all) (sym c.deref-3.ensures.value) c.sort_by_mark.ensures.same in
    rose_within _ _ _ _ c.any_twins.ensures.bytes_read (omega (arith, few_pairs seen ordered few, key_bytes_shuffled all seen same))

pub returns-clause-bytes_read : goal.returns-clause-bytes_read
returns-clause-bytes_read g c =
    let all = c.args.self.now.noted.items in
    let sorted = c.sort_by_mark.new.sorted.items in
    let seen = c.deref-3.result.now in
    let ordered : IsNonDecreasingBy mark_of seen = subst (IsNonDecreasingBy mark_of) (sym c.deref-3.ensures.value) c.sort_by_mark.ensures.ordered in
    let few : NoLargeGroup seen (length seen) = subst (λ es. NoLargeGroup es (length es)) (c.deref-2.ensures.value ∙ sym c.deref-3.ensures.value) (c.has_large_group.ensures.small c.if-has_large_group.false) in
    let same : IsPermutation all seen = subst (IsPermutation all) (sym c.deref-3.ensures.value) c.sort_by_mark.ensures.same in
    rose_within _ _ _ _ c.any_twins.ensures.bytes_read (omega (arith, few_pairs seen ordered few, key_bytes_shuffled all seen same))

pub returns-in_err-twins-clause-no_fault : goal.returns-in_err-twins-clause-no_fault
returns-in_err-twins-clause-no_fault g c =
    let p = err_from_is_err_and c.from_residual.result c.from_residual.ensures.1 in
    let f = g.S.Space.form c.args.s.now in
    let img = g.S.Space.image c.args.s.now in
    let all = c.args.self.now.noted.items in
    rw (p.1, p.2)
    (λ told long xs kept. c.in_err-twins.ensures.no_fault told long h_jenkins
    (copied_noted h_jenkins f img all all c.sort_by_mark.new.sorted.items c.deref-3.result.now refl c.sort_by_mark.ensures.same c.deref-3.ensures.value kept.all_noted))
