-- The digests tell.
use Rattle.std.proofs.Common.{◌≡◌, length, sym, ◌∙◌, ap, arith}
use Rattle.std.specs.Prelude.{MatchBool}
use Rattle.std.proofs.lemmas.List.Sorted.{length_permutation}
use Rattle.tdb_words.specs.Hash.{h_jenkins}
use Rattle.tdb_check.specs.Keys.{AllNoted, NotedDiffer, digest_mark}
use Rattle.tdb_check.proofs.Pairs.{digest_reads}
use Rattle.tdb_check.proofs.Rising.{rose_then}
use Rattle.tdb_check.proofs.SameViews.{same_view}
use Rattle.tdb_check.proofs.Notings.{ok_then, err_then, digest_noted, digest_twins}
use Rattle.tdb_check.proofs.keys.has_digested_twins.Goals as goal

pub returns-clause-some : goal.returns-clause-some
returns-clause-some g c =
    let count : length c.deref.result.now ≡ length c.args.noted.now =
    ap length c.deref.ensures.value ∙ length_permutation c.copy_digests.new.sorted.items c.sort_by_mark.new.sorted.items c.sort_by_mark.ensures.same ∙ c.in-Ok.ensures.long in
    ok_then c.any_twins.result _ _ (λ twins some yes. omega (arith, some yes, count)) c.any_twins.ensures.some

pub returns-clause-twins : goal.returns-clause-twins
returns-clause-twins g c =
    let f = g.S.Space.form c.args.s.now in
    let img = g.S.Space.image c.args.s.now in
    let f2 = g.S.Space.form c.copy_digests.new.s in
    let img2 = g.S.Space.image c.copy_digests.new.s in
    let a = c.in-Ok.ensures in
    let seen = c.deref.result.now in
    ok_then c.any_twins.result _ _
    (λ twins found told long each.
    (let marked = a.marked told long h_jenkins each in
    let noted = digest_noted h_jenkins f img c.args.noted.now c.copy_digests.new.sorted.items c.sort_by_mark.new.sorted.items seen marked c.sort_by_mark.ensures.same c.deref.ensures.value each in
    digest_twins f img c.args.noted.now c.copy_digests.new.sorted.items c.sort_by_mark.new.sorted.items seen twins marked c.sort_by_mark.ensures.same c.deref.ensures.value
    (same_view (λ h i. MatchBool twins (NotedDiffer h i seen → ⊥) (NotedDiffer h i seen)) f2 f img2 img (sym a.looked.form) (sym a.looked.image)
    (found told (ap length a.looked.image ∙ long) digest_mark (same_view (λ h i. AllNoted digest_mark h i seen) f f2 img img2 a.looked.form a.looked.image noted)))))
    c.any_twins.ensures.twins

pub returns-clause-no_fault : goal.returns-clause-no_fault
returns-clause-no_fault g c =
    let f = g.S.Space.form c.args.s.now in
    let img = g.S.Space.image c.args.s.now in
    let f2 = g.S.Space.form c.copy_digests.new.s in
    let img2 = g.S.Space.image c.copy_digests.new.s in
    let a = c.in-Ok.ensures in
    let seen = c.deref.result.now in
    err_then c.any_twins.result _ _
    (λ e none told long each.
    (let marked = a.marked told long h_jenkins each in
    let noted = digest_noted h_jenkins f img c.args.noted.now c.copy_digests.new.sorted.items c.sort_by_mark.new.sorted.items seen marked c.sort_by_mark.ensures.same c.deref.ensures.value each in
    none told (ap length a.looked.image ∙ long) digest_mark (same_view (λ h i. AllNoted digest_mark h i seen) f f2 img img2 a.looked.form a.looked.image noted)))
    c.any_twins.ensures.no_fault

pub returns-clause-bytes_read : goal.returns-clause-bytes_read
returns-clause-bytes_read g c told long each =
    let f = g.S.Space.form c.args.s.now in
    let img = g.S.Space.image c.args.s.now in
    let a = c.in-Ok.ensures in
    let pairs = digest_reads f img c.args.noted.now c.copy_digests.new.sorted.items c.sort_by_mark.new.sorted.items c.deref.result.now (a.marked told long h_jenkins each) c.sort_by_mark.ensures.same c.deref.ensures.value in
    rose_then _ _ _ _ _ _ a.bytes_read c.any_twins.ensures.bytes_read (omega (arith, pairs))
