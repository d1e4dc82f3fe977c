-- Where the first marks rise, no key comes twice; where few are alike the keys tell, and else the digests.
use Rattle.std.proofs.Common.{◌≡◌, length, length-take, take, sym, ◌∙◌, ap, subst, arith}
use Rattle.std.specs.Prelude.{MatchBool}
use Rattle.std.proofs.lemmas.List.Elements.{All-take}
use Rattle.std.proofs.lemmas.List.Sorted.{length_permutation}
use Rattle.tdb_words.specs.Hash.{h_jenkins}
use Rattle.tdb_check.specs.Keys.{AllNoted, IsNoted, NotedDiffer, NoLargeGroup}
use Rattle.tdb_check.proofs.Notings.{ok_then, err_then, copied_apart, copied_noted, copied_twins}
use Rattle.tdb_check.proofs.Pairs.{few_reads}
use Rattle.tdb_check.proofs.Rising.{rose_within}
use Rattle.tdb_check.proofs.keys.Keys.has_twins.Goals as goal

pub returns-then-not-has_equal_marks-clause-twins : goal.returns-then-not-has_equal_marks-clause-twins
returns-then-not-has_equal_marks-clause-twins g c told long each =
    let f = g.S.Space.form c.args.s.now in
    let img = g.S.Space.image c.args.s.now in
    let all = c.args.self.now.noted.items in
    copied_apart h_jenkins f img (take c.args.count all) c.copy_noted.new.sorted.items c.sort_by_mark.new.sorted.items c.deref-2.result.now
    (c.in_ok-copy_noted.ensures ∙ ap (take c.args.count) c.deref.ensures.value) c.sort_by_mark.ensures.same c.deref-2.ensures.value c.sort_by_mark.ensures.ordered
    (All-take (IsNoted h_jenkins f img) c.args.count all each) (c.has_equal_marks.ensures.apart c.if-not-has_equal_marks.true)

pub returns-then-has_large_group-clause-twins : goal.returns-then-has_large_group-clause-twins
returns-then-has_large_group-clause-twins g c =
    let f = g.S.Space.form c.args.s.now in
    let img = g.S.Space.image c.args.s.now in
    let all = c.args.self.now.noted.items in
    ok_then c.has_digested_twins.result _ _
    (λ twins found told long each. subst (λ es. MatchBool twins (NotedDiffer f img (take c.args.count es) → ⊥) (NotedDiffer f img (take c.args.count es))) c.deref-then-has_large_group.ensures.value
    (found told long (subst (λ es. AllNoted h_jenkins f img (take c.args.count es)) (sym c.deref-then-has_large_group.ensures.value) (All-take (IsNoted h_jenkins f img) c.args.count all each))))
    c.has_digested_twins.ensures.twins

pub returns-then-has_large_group-clause-no_fault : goal.returns-then-has_large_group-clause-no_fault
returns-then-has_large_group-clause-no_fault g c =
    let f = g.S.Space.form c.args.s.now in
    let img = g.S.Space.image c.args.s.now in
    let all = c.args.self.now.noted.items in
    err_then c.has_digested_twins.result _ _
    (λ e none told long each. none told long (subst (λ es. AllNoted h_jenkins f img (take c.args.count es)) (sym c.deref-then-has_large_group.ensures.value) (All-take (IsNoted h_jenkins f img) c.args.count all each)))
    c.has_digested_twins.ensures.no_fault

pub returns-clause-some : goal.returns-clause-some
returns-clause-some g c =
    let all = c.args.self.now.noted.items in
    let copied = c.in_ok-copy_noted.ensures ∙ ap (take c.args.count) c.deref.ensures.value in
    let count : length c.deref-4.result.now ≡ length (take c.args.count all) =
    ap length c.deref-4.ensures.value ∙ length_permutation c.copy_noted.new.sorted.items c.sort_by_mark.new.sorted.items c.sort_by_mark.ensures.same ∙ ap length copied in
    ok_then c.any_twins.result _ _ (λ twins some yes. omega (arith, some yes, count, length-take c.args.count all)) c.any_twins.ensures.some

pub returns-clause-twins : goal.returns-clause-twins
returns-clause-twins g c =
    let f = g.S.Space.form c.args.s.now in
    let img = g.S.Space.image c.args.s.now in
    let all = c.args.self.now.noted.items in
    let copied = c.in_ok-copy_noted.ensures ∙ ap (take c.args.count) c.deref.ensures.value in
    ok_then c.any_twins.result _ _
    (λ twins found told long each.
    (let some = All-take (IsNoted h_jenkins f img) c.args.count all each in
    copied_twins f img (take c.args.count all) c.copy_noted.new.sorted.items c.sort_by_mark.new.sorted.items c.deref-4.result.now twins copied c.sort_by_mark.ensures.same c.deref-4.ensures.value
    (found told long h_jenkins (copied_noted h_jenkins f img (take c.args.count all) c.copy_noted.new.sorted.items c.sort_by_mark.new.sorted.items c.deref-4.result.now copied c.sort_by_mark.ensures.same c.deref-4.ensures.value some))))
    c.any_twins.ensures.twins

pub returns-clause-no_fault : goal.returns-clause-no_fault
returns-clause-no_fault g c =
    let f = g.S.Space.form c.args.s.now in
    let img = g.S.Space.image c.args.s.now in
    let all = c.args.self.now.noted.items in
    let copied = c.in_ok-copy_noted.ensures ∙ ap (take c.args.count) c.deref.ensures.value in
    err_then c.any_twins.result _ _
    (λ e none told long each. none told long h_jenkins
    (copied_noted h_jenkins f img (take c.args.count all) c.copy_noted.new.sorted.items c.sort_by_mark.new.sorted.items c.deref-4.result.now copied c.sort_by_mark.ensures.same c.deref-4.ensures.value
    (All-take (IsNoted h_jenkins f img) c.args.count all each)))
    c.any_twins.ensures.no_fault

pub returns-clause-bytes_read : goal.returns-clause-bytes_read
returns-clause-bytes_read g c told long each =
    let f = g.S.Space.form c.args.s.now in
    let img = g.S.Space.image c.args.s.now in
    let all = c.args.self.now.noted.items in
    let copied = c.in_ok-copy_noted.ensures ∙ ap (take c.args.count) c.deref.ensures.value in
    let few : NoLargeGroup c.deref-4.result.now (length c.deref-4.result.now) =
    subst (λ es. NoLargeGroup es (length es)) (c.deref-3.ensures.value ∙ sym c.deref-4.ensures.value) (c.has_large_group.ensures.small c.if-has_large_group.false) in
    rose_within _ _ _ _ c.any_twins.ensures.bytes_read
    (few_reads f img (take c.args.count all) c.copy_noted.new.sorted.items c.sort_by_mark.new.sorted.items c.deref-4.result.now copied c.sort_by_mark.ensures.same c.deref-4.ensures.value c.sort_by_mark.ensures.ordered few)
